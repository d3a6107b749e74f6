-- The characters of a text, by what a table says of byte values: `lead x` that x is a first byte, `one x` the class of
-- a one-byte character, `two x y` that of a two-byte character.
use Rattle.std.specs.Prelude.{ℕ, ◌+◌, Bool, cond, List, [], ◌∷◌, map}

-- a character: how many bytes it has, and its class
pub record Char : Type 0 where
  pub size : ℕ
  pub class : ℕ

abbrev pub char : ℕ → ℕ → Char
char size class = record { size = size; class = class }

-- the characters of a text, counted from its start; a first byte that ends the text is a character of class 0
unfoldable pub chars : (ℕ → Bool) → (ℕ → ℕ) → (ℕ → ℕ → ℕ) → List ℕ → List Char
chars lead one two [] = []
chars lead one two (x ∷ []) = char 1 (cond (lead x) 0 (one x)) ∷ []
chars lead one two (x ∷ y ∷ ys) =
    cond (lead x) (char 2 (two x y) ∷ chars lead one two ys) (char 1 (one x) ∷ chars lead one two (y ∷ ys))

-- how many bytes some characters have
abbrev pub span : List Char → ℕ
span [] = 0
span (u ∷ us) = u.size + span us

-- their row of classes
abbrev pub row_of : List Char → List ℕ
row_of us = map (λ u. u.class) us
