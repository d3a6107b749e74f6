-- The table rule: what a table's characters and its forward state table make of a text.
use Rattle.std.specs.Prelude.{ℕ, ◌-◌, Bool, false, cond, List, [], ◌∷◌, length, take, ◌==◌, nat_lt}
use Rattle.automata.specs.Machine.{scanned, taken}
use Rattle.breaks.specs.Chars.{Char, span, row_of}

-- the bytes of the run that some characters begin with: those that the forward scan of their classes takes in
abbrev pub scan_run : (ℕ → ℕ → ℕ) → List Char → ℕ
scan_run code us = span (take (taken (length us) (scanned code (row_of us))) us)

-- the place p lies between two of these characters, and the pair of their classes passes a test
unfoldable pub parted : (ℕ → ℕ → Bool) → ℕ → List Char → Bool
parted sure p [] = false
parted sure p (u ∷ []) = false
parted sure p (u ∷ v ∷ us) =
    cond (nat_lt p u.size) false (cond (p == u.size) (sure u.class v.class) (parted sure (p - u.size) (v ∷ us)))
