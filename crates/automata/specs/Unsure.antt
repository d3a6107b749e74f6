-- What a row with an unsure last mark goes through: the code that sets the mark, the class that makes it unsure, and the exit.
use Rattle.std.specs.Prelude.{◌≡◌, ℕ, ◌<◌, ◌≤◌, Bool, true, false, ◌⊎◌}
use Rattle.automata.specs.Machine.{index, next}
use Rattle.automata.specs.Sets.{Has}
use Rattle.automata.specs.Reach.{Goes}
use Rattle.automata.specs.Steady.{UnsureNow}

-- a code marks and leads to state t
abbrev pub MarksTo : ℕ → ℕ → Type 0
MarksTo t x = (128 ≤ x) × (next x ≡ t)

-- a class marks in state s and leads to state t, and makes no sure pair with class d, read there
abbrev pub Enters : (ℕ → ℕ → ℕ) → ℕ → (ℕ → ℕ → Bool) → ℕ → ℕ → ℕ → Type 0
Enters code C sure t d s = (c : ℕ) × (c < C) × MarksTo t (code s c) × (sure d c ≡ false)

-- a state of the set, of S states, is left by such a class
abbrev pub UnsureAt : (ℕ → ℕ → ℕ) → ℕ → ℕ → (ℕ → ℕ → Bool) → ℕ → ℕ → ℕ → Type 0
UnsureAt code S C sure set t d = (s : ℕ) × (1 ≤ s) × (s < S) × Has set s × Enters code C sure t d s

-- class d spoils the mark set on the way to state t: it makes that mark an unsure one, and goes on quietly
abbrev pub Spoils : (ℕ → ℕ → ℕ) → ℕ → ℕ → (ℕ → ℕ → Bool) → ℕ → ℕ → ℕ → Type 0
Spoils code S C sure set t d = Goes true (code t d) × UnsureAt code S C sure set t d

-- some such class leads from state t to state k
abbrev pub SpoilsTo : (ℕ → ℕ → ℕ) → ℕ → ℕ → (ℕ → ℕ → Bool) → ℕ → ℕ → ℕ → Type 0
SpoilsTo code S C sure set t k = (d : ℕ) × (d < C) × Spoils code S C sure set t d × (next (code t d) ≡ k)

-- some such class leads from some state to state k
abbrev pub Spoilt : (ℕ → ℕ → ℕ) → ℕ → ℕ → (ℕ → ℕ → Bool) → ℕ → ℕ → Type 0
Spoilt code S C sure set k = (t : ℕ) × (1 ≤ t) × (t < S) × SpoilsTo code S C sure set t k

-- state s exits by class d with an unsure last mark: `reached` are the states that a row leads to,
-- and `late` those that one leads to with an unsure mark and the class after it read
abbrev pub Shaky : (ℕ → ℕ → ℕ) → ℕ → ℕ → (ℕ → ℕ → Bool) → ℕ → ℕ → ℕ → ℕ → Type 0
Shaky code S C sure reached late s d =
    (d < C) × (next (code s d) ≡ 0)
    × (((128 ≤ code s d) × Has reached s × UnsureNow sure C d)
    ⊎ ((code s d < 128) × (Has late s ⊎ UnsureAt code S C sure reached s d)))

-- the code of index k is such an exit
abbrev pub ShakyBy : (ℕ → ℕ → ℕ) → ℕ → ℕ → (ℕ → ℕ → Bool) → ℕ → ℕ → ℕ → Type 0
ShakyBy code S C sure reached late k =
    (s : ℕ) × (d : ℕ) × (1 ≤ s) × (s < S) × Shaky code S C sure reached late s d × (index C s d ≡ k)
