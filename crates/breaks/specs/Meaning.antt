-- What an accepted table makes of a text.
use Rattle.std.specs.Prelude.{ℕ, Bool, List, [], ◌∷◌, ◌++◌, length, drop, Result}
use Rattle.refusals.specs.declared.Direction.TheVariants.{Forward}
use Rattle.refusals.specs.declared.Refusal.{Refusal}
use Rattle.automata.specs.Sure.{holds}
use Rattle.rules.specs.Answers.{about_place}
use Rattle.tables.specs.Layout.{machine}
use Rattle.tables.specs.Classes.{leads, one_class, two_class}
use Rattle.tables.specs.Meaning.{bytes_of}
use Rattle.breaks.specs.Chars.{Char, chars}
use Rattle.breaks.specs.Tables.{scan_run, parted}
use Rattle.breaks.specs.declared.rule.TableRule.{TableRule}
use Rattle.breaks.specs.declared.characters.Character.{Character}

-- the characters of a text by the bytes of a table
abbrev pub characters : List ℕ → List ℕ → List Char
characters b xs = chars (leads b) (one_class b) (two_class b) xs

-- the length of the first run of a text
abbrev pub table_run : List ℕ → List ℕ → ℕ
table_run b xs = scan_run (machine b Forward) (characters b xs)

abbrev pub run_of : TableRule → List ℕ → ℕ
run_of r = table_run (bytes_of r.table)

-- whether a wall stands between two texts, by the bytes of a table and its sure pairs: both joined have characters that
-- meet there, and the pair of their classes is sure
abbrev pub table_parts : List ℕ → (ℕ → ℕ → Bool) → List ℕ → List ℕ → Bool
table_parts b sure before after = parted sure (length before) (characters b (before ++ after))

abbrev pub parts_of : TableRule → List ℕ → List ℕ → Bool
parts_of r = table_parts (bytes_of r.table) (holds r.table.judgement.sure.rows)

-- the first of some characters, as it is told
abbrev pub first_of : List Char → Character
first_of [] = record { size = 0; class = 0 }
first_of (u ∷ us) = record { size = u.size; class = u.class }

-- the character at a place of a text, counted from there
abbrev pub character_of : List ℕ → List ℕ → ℕ → Result Character Refusal
character_of b text place = about_place text place (first_of (characters b (drop place text)))
