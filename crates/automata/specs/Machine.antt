-- A state table as a machine: it reads a row of classes, one code for each, and exits at a mark.
use Rattle.std.specs.Prelude.{ℕ, ◌+◌, ◌-◌, ◌*◌, ◌/◌, ◌%◌, ◌<◌, ◌≤◌, Bool, cond, List, [], ◌∷◌, length, Some, None, Option, ◌==◌, nat_le, slice_index}

-- which of the codes stands for state s (from 1; state 0 is exit and has none) and class c, of C classes
abbrev pub index : ℕ → ℕ → ℕ → ℕ
index C s c = (s - 1) * C + c

-- the code of state s and class c
abbrev pub code_at : List ℕ → ℕ → ℕ → ℕ → ℕ
code_at codes C s c = slice_index codes (index C s c)

-- the next state that a code names: its lower seven bits are twice that state
abbrev pub next : ℕ → ℕ
next x = x % 128 / 2

-- a code exits where its next state is 0
abbrev pub exits : ℕ → Bool
exits x = next x == 0

-- a code marks where its bit of value 128 is set
abbrev pub marks : ℕ → Bool
marks x = nat_le 128 x

-- the mark after a code at the i-th class of the row
abbrev pub marked : ℕ → ℕ → Option ℕ → Option ℕ
marked x i m = cond (marks x) (Some i) m

-- how a scan ends: the row runs out, or the code of a state and a class exits with the last mark
pub data Ending : Type 0 where
  runs_out : Ending
  exits_by : ℕ → ℕ → Option ℕ → Ending

-- the scan of what is left of a row: in state s, at its i-th class, with mark m
abbrev pub scan : (ℕ → ℕ → ℕ) → ℕ → ℕ → Option ℕ → List ℕ → Ending
scan code s i m [] = runs_out
scan code s i m (c ∷ cs) =
    cond (exits (code s c)) (exits_by s c (marked (code s c) i m))
    (scan code (next (code s c)) (i + 1) (marked (code s c) i m) cs)

-- the scan of a whole row: from state 1, unmarked
abbrev pub scanned : (ℕ → ℕ → ℕ) → List ℕ → Ending
scanned code row = scan code 1 0 None row

-- how many classes lie before a mark: a mark on the first class is as good as none
abbrev pub before : Option ℕ → ℕ
before None = 0
before (Some m) = m

-- how many classes a run takes in, of n: those before the mark, or all where the row runs out
abbrev pub taken : ℕ → Ending → ℕ
taken n runs_out = n
taken n (exits_by s c m) = before m

-- a row of classes: any numbers below C
abbrev pub Row : ℕ → List ℕ → Type 0
Row C [] = Unit {0}
Row C (c ∷ cs) = (c < C) × Row C cs

-- a machine advances where the run of every row but the empty one takes in a class
abbrev pub Advances : (ℕ → ℕ → ℕ) → ℕ → Type 0
Advances code C = (row : List ℕ) → Row C row → 1 ≤ length row → 1 ≤ taken (length row) (scanned code row)
