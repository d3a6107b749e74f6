-- The line of a text's bytes.
use Rattle.std.specs.Prelude.{ℕ, ◌/◌, ◌%◌, false, List, [], ◌∷◌, ◌++◌, codes}
use Rattle.std.specs.Fmt.{digit_glyph}
use Rattle.std.specs.List.{flat_map}

-- a byte in hexadecimal, always two digits
abbrev pub hex : ℕ → List ℕ
hex byte = digit_glyph false (byte / 16) ∷ digit_glyph false (byte % 16) ∷ []

-- the word, and a blank where bytes follow
abbrev pub first : List ℕ → List ℕ
first [] = codes "text"
first (byte ∷ bytes) = codes "text "

abbrev pub text_line : List ℕ → List ℕ
text_line bytes = first bytes ++ flat_map hex bytes
