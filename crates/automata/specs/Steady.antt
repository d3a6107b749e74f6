-- Steady machines. A backward scan reads a row of classes from a character towards the start of a text, and exits at its
-- last mark. That mark is unsure where the pair of the class read next (which stands before it in the text) and the marked
-- class is not a sure pair.
use Rattle.std.specs.Prelude.{◌≡◌, ℕ, ◌+◌, ◌<◌, Bool, true, false, ◌⊎◌, List, [], ◌∷◌, ◌++◌, Some, None, Option, slice_index}
use Rattle.automata.specs.Machine.{index, next, marks, marked}
use Rattle.automata.specs.Reach.{Runs}

-- the last mark of a row that goes on, read from state s at its i-th class with mark m
abbrev pub last_mark : (ℕ → ℕ → ℕ) → ℕ → ℕ → Option ℕ → List ℕ → Option ℕ
last_mark code s i m [] = m
last_mark code s i m (c ∷ cs) = last_mark code (next (code s c)) (i + 1) (marked (code s c) i m) cs

-- the exiting code of class c sets the mark itself: unsure if some class makes no sure pair with c
abbrev pub UnsureNow : (ℕ → ℕ → Bool) → ℕ → ℕ → Type 0
UnsureNow sure C c = (d : ℕ) × (d < C) × (sure d c ≡ false)

-- the mark was set before: unsure if the class read next and the marked class make no sure pair
abbrev pub UnsureBefore : (ℕ → ℕ → Bool) → List ℕ → Option ℕ → Type 0
UnsureBefore sure row m = (i : ℕ) × (m ≡ Some i) × (sure (slice_index row (i + 1)) (slice_index row i) ≡ false)

-- some row of classes, `front` and then c, exits by the code of index k with an unsure last mark
abbrev pub Unsteady : (ℕ → ℕ → ℕ) → ℕ → (ℕ → ℕ → Bool) → ℕ → Type 0
Unsteady code C sure k =
    (front : List ℕ) × (s : ℕ) × (c : ℕ) × Runs false code C 1 front s × (c < C) × (next (code s c) ≡ 0) × (index C s c ≡ k)
    × (((marks (code s c) ≡ true) × UnsureNow sure C c)
    ⊎ ((marks (code s c) ≡ false) × UnsureBefore sure (front ++ c ∷ []) (last_mark code 1 0 None front)))
