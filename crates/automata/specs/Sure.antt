-- Sure pairs of classes: wherever the first has gone by, the second ends the run before it.
use Rattle.std.specs.Prelude.{◌≡◌, ℕ, zero, suc, ◌+◌, ◌/◌, ◌%◌, ◌^◌, ◌<◌, ◌≤◌, Bool, true, false, cond, ◌&&◌, T, List, ◌==◌, ◌≢◌, slice_index}
use Rattle.automata.specs.Machine.{next, exits, marks}
use Rattle.automata.specs.Sets.{Has}
use Rattle.automata.specs.Reach.{Leads}

-- in state r, class a exits, or class b marks and exits in the state that follows
abbrev pub halts : (ℕ → ℕ → ℕ) → ℕ → ℕ → ℕ → Bool
halts code r a b =
    cond (exits (code r a)) true (exits (code (next (code r a)) b) && marks (code (next (code r a)) b))

-- the pair (a, b) is sure: that holds of start and of every state that some row of classes reaches from it without exit
abbrev pub Sure : (ℕ → ℕ → ℕ) → ℕ → ℕ → ℕ → Type 0
Sure code C a b = (r : ℕ) → Leads false code C 1 r → T (halts code r a b)

-- a code marks and exits
abbrev pub Ends : ℕ → Type 0
Ends x = (next x ≡ 0) × (128 ≤ x)

-- class a leads to state k from a state of the set, of S states, without exit
abbrev pub Follows : (ℕ → ℕ → ℕ) → ℕ → ℕ → ℕ → ℕ → Type 0
Follows code S set a k =
    (s : ℕ) × (1 ≤ s) × (s < S) × Has set s × (next (code s a) ≢ 0) × (next (code s a) ≡ k)

-- class b marks and exits in every state of the set, of S states
abbrev pub Stops : (ℕ → ℕ → ℕ) → ℕ → ℕ → ℕ → Type 0
Stops code S set b = (s : ℕ) → 1 ≤ s → s < S → Has set s → Ends (code s b)

-- in every state of the set, of S states, class a exits, or class b marks and exits in the state that follows
abbrev pub HaltsIn : (ℕ → ℕ → ℕ) → ℕ → ℕ → ℕ → ℕ → Type 0
HaltsIn code S set a b = (s : ℕ) → 1 ≤ s → s < S → Has set s → T (halts code s a b)

-- bit b of row a is set
abbrev pub holds : List ℕ → ℕ → ℕ → Bool
holds rows a b = slice_index rows a / 2 ^ b % 2 == 1

-- how many numbers below n pass a test
unfoldable pub count_row : (ℕ → Bool) → ℕ → ℕ
count_row p zero = 0
count_row p (suc n) = cond (p n) 1 0 + count_row p n

-- how many pairs pass a test, the first below n and the second below C
unfoldable pub count_pairs : (ℕ → ℕ → Bool) → ℕ → ℕ → ℕ
count_pairs p C zero = 0
count_pairs p C (suc n) = count_row (p n) C + count_pairs p C n
