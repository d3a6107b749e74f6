-- The school table, byte by byte.
use Rattle.std.specs.Prelude.{ℕ, zero, suc, ◌/◌, ◌%◌, Bool, cond, ◌&&◌, ◌||◌, List, [], ◌∷◌, ◌++◌, ◌==◌, nat_le}

abbrev pub letter : ℕ → Bool
letter v = (nat_le 65 v && nat_le v 90) || (nat_le 97 v && nat_le v 122)

-- the class of a byte value: 1 a letter, 2 a hyphen, 3 a blank, 0 any other
abbrev pub school_class : ℕ → ℕ
school_class v = cond (letter v) 1 (cond (v == 45) 2 (cond (v == 32) 3 0))

-- the classes of n byte values, from v on
abbrev pub classes_from : ℕ → ℕ → List ℕ
classes_from v zero = []
classes_from v (suc n) = school_class v ∷ classes_from (suc v) n

-- words, high byte first
abbrev pub words : List ℕ → List ℕ
words [] = []
words (w ∷ ws) = w / 256 ∷ w % 256 ∷ words ws

-- flags1 and flags2; version, class table, auxiliary, backward and forward offsets, doBackup, length
abbrev pub header : List ℕ
header = 128 ∷ 0 ∷ words (0 ∷ 16 ∷ 272 ∷ 272 ∷ 292 ∷ 0 ∷ 324 ∷ [])

-- four states: the list, then the rows of states 1 to 3
abbrev pub backward : List ℕ
backward =
    words (0 ∷ 8 ∷ 12 ∷ 16 ∷ [])
    ++ ((132 ∷ 132 ∷ 132 ∷ 6 ∷ [])
    ++ ((132 ∷ 132 ∷ 132 ∷ 0 ∷ [])
    ++ (132 ∷ 132 ∷ 132 ∷ 6 ∷ [])))

-- six states: the list, then the rows of states 1 to 5
abbrev pub forward : List ℕ
forward =
    words (0 ∷ 12 ∷ 16 ∷ 20 ∷ 24 ∷ 28 ∷ [])
    ++ ((10 ∷ 4 ∷ 10 ∷ 8 ∷ [])
    ++ ((128 ∷ 4 ∷ 134 ∷ 128 ∷ [])
    ++ ((0 ∷ 4 ∷ 0 ∷ 0 ∷ [])
    ++ ((128 ∷ 128 ∷ 128 ∷ 8 ∷ [])
    ++ (128 ∷ 128 ∷ 128 ∷ 128 ∷ [])))))

unfoldable pub school : List ℕ
school = header ++ (classes_from 0 256 ++ (backward ++ forward))
