-- How a rule cuts a text. A rule is known by `run`, the length of the first run of a list of bytes that is not empty.
use Rattle.std.specs.Prelude.{◌≡◌, ℕ, zero, suc, ◌-◌, ◌≤◌, List, [], ◌∷◌, ◌++◌, length, drop, slice_index}

-- the lengths of the first runs of a text, at most n of them
unfoldable pub cut : (List ℕ → ℕ) → ℕ → List ℕ → List ℕ
cut run zero xs = []
cut run (suc n) [] = []
cut run (suc n) (x ∷ xs) = run (x ∷ xs) ∷ cut run n (drop (run (x ∷ xs)) (x ∷ xs))

-- the cutting of a text, as the list of the lengths of its runs: the first run, then the cutting of what remains; an
-- empty text has none (a text has no more runs than bytes)
unfoldable pub cutting : (List ℕ → ℕ) → List ℕ → List ℕ
cutting run xs = cut run (length xs) xs

-- a run has at least one byte and does not pass the end
pub record Bounded (run : List ℕ → ℕ) : Type 0 where
  pub some : (xs : List ℕ) → 1 ≤ length xs → 1 ≤ run xs
  pub within : (xs : List ℕ) → 1 ≤ length xs → run xs ≤ length xs

-- two texts are cut apart: the cutting of both joined is that of the first followed by that of the second
abbrev pub Joined : (List ℕ → ℕ) → List ℕ → List ℕ → Type 0
Joined run before after = cutting run (before ++ after) ≡ cutting run before ++ cutting run after

-- the first byte and the last byte of a text that is not empty
abbrev pub first : List ℕ → ℕ
first xs = slice_index xs 0

abbrev pub last : List ℕ → ℕ
last xs = slice_index xs (length xs - 1)
