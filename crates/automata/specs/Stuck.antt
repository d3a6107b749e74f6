-- Runs that do not advance, and the least code by which one can exit.
use Rattle.std.specs.Prelude.{◌≡◌, ℕ, ◌<◌, ◌≤◌, Bool, true, List, Option, Some, None, MatchOption}
use Rattle.automata.specs.Machine.{index, next, before, exits_by, scanned, Row}
use Rattle.automata.specs.Sets.{Has}

-- some row of classes exits by the code of index k, with no mark set after its first class
abbrev pub Stuck : (ℕ → ℕ → ℕ) → ℕ → ℕ → Type 0
Stuck code C k =
    (row : List ℕ) × (s : ℕ) × (c : ℕ) × (m : Option ℕ)
    × Row C row × (scanned code row ≡ exits_by s c m) × (before m ≡ 0) × (index C s c ≡ k)

-- the least number of which P holds, or none where it holds of none
abbrev pub Least : (ℕ → Type 0) → Option ℕ → Type 0
Least P r = MatchOption r ((k : ℕ) → P k → ⊥) (λ k. P k × ((j : ℕ) → P j → k ≤ j))

-- a code exits and, where only quiet codes are asked for, does not mark
abbrev pub Exits : Bool → ℕ → Type 0
Exits quiet x = (next x ≡ 0) × (quiet ≡ true → x < 128)

-- state s exits by class c
abbrev pub ExitsOn : Bool → (ℕ → ℕ → ℕ) → ℕ → ℕ → ℕ → Type 0
ExitsOn quiet code C s c = (c < C) × Exits quiet (code s c)

-- state s is in the set, and exits by class c without a mark
abbrev pub QuitsOn : (ℕ → ℕ → ℕ) → ℕ → ℕ → ℕ → ℕ → Type 0
QuitsOn code C set s c = Has set s × ExitsOn true code C s c

-- the code of index k is a quiet exit of a state of the set, of S states
abbrev pub QuitsBy : (ℕ → ℕ → ℕ) → ℕ → ℕ → ℕ → ℕ → Type 0
QuitsBy code S C set k =
    (s : ℕ) × (c : ℕ) × (1 ≤ s) × (s < S) × Has set s × ExitsOn true code C s c × (index C s c ≡ k)

-- the code of the first state, of S states, for which a class is given; `gives s r` says that r may be given for state s
pub record FirstCode (gives : ℕ → Option ℕ → Type 0) (S C : ℕ) (r : Option ℕ) : Type 0 where
  pub found :
      MatchOption r ((s : ℕ) → 1 ≤ s → s < S → gives s None)
      (λ k. (s : ℕ) × (c : ℕ) × (1 ≤ s) × (s < S) × gives s (Some c) × (index C s c ≡ k) × ((t : ℕ) → 1 ≤ t → t < s → gives t None))
