-- The class of a character, as a table's bytes tell, and whether what leads to it is sound.
use Rattle.std.specs.Prelude.{ℕ, zero, suc, ◌+◌, ◌-◌, Bool, true, false, cond, ◌&&◌, List, take, drop, ℤ, pos, ◌+ℤ◌, unsigned_abs}
use Rattle.std.specs.Int.Signed.{non_neg}
use Rattle.tables.specs.Words.{byte, word, within, even}
use Rattle.tables.specs.Layout.{fits, two_byte, class_table, auxiliary, classes}

-- the class table: 256 signed bytes, one entry for each byte value
abbrev pub class_bytes : List ℕ → List ℕ
class_bytes b = take 256 (drop (class_table b) b)

abbrev pub entry : List ℕ → ℕ → ℤ
entry b v = byte (class_bytes b) v

-- a first byte: its entry is negative, and the table is for two-byte text
abbrev pub leads : List ℕ → ℕ → Bool
leads b v = cond (non_neg (entry b v)) false (two_byte b)

-- the class that all first bytes share, or minus the place of their class table in the auxiliary table
abbrev pub shared : List ℕ → ℤ
shared b = word b (auxiliary b)

-- where the class of the odd entry -k stands in the first-byte class table
abbrev pub own_place : List ℕ → ℕ → ℕ
own_place b k = auxiliary b + unsigned_abs (shared b) + (k - 1)

-- the class of a character whose first byte has the odd entry -k
abbrev pub odd_class : List ℕ → ℕ → ℤ
odd_class b k = cond (non_neg (shared b)) (shared b) (word b (own_place b k))

-- where the row table of the even entry -k begins
abbrev pub row_start : List ℕ → ℕ → ℤ
row_start b k = pos (auxiliary b) +ℤ word b (auxiliary b + k)

-- that row table: 256 signed bytes, one entry for each second byte
abbrev pub row_bytes : List ℕ → ℕ → List ℕ
row_bytes b k = take 256 (drop (unsigned_abs (row_start b k)) b)

-- the class of a character whose first byte has the even entry -k
abbrev pub even_class : List ℕ → ℕ → ℕ → ℤ
even_class b k second = byte (row_bytes b k) second

-- the class of a one-byte character
abbrev pub one_class : List ℕ → ℕ → ℕ
one_class b x = unsigned_abs (entry b x)

-- the class of a two-byte character
abbrev pub two_class : List ℕ → ℕ → ℕ → ℕ
two_class b x y =
    unsigned_abs (cond (even (unsigned_abs (entry b x))) (even_class b (unsigned_abs (entry b x)) y) (odd_class b (unsigned_abs (entry b x))))

-- a number is a class: 0 to C - 1
abbrev pub is_class : List ℕ → ℤ → Bool
is_class b z = within z 0 (classes b - 1)

-- a test passes for every number below n
unfoldable pub every : (ℕ → Bool) → ℕ → Bool
every p zero = true
every p (suc n) = p n && every p n

-- the class under the odd entry -k is sound
abbrev pub odd_sound : List ℕ → ℕ → Bool
odd_sound b k =
    cond (non_neg (shared b)) (is_class b (shared b)) (fits b (pos (own_place b k)) 2 && is_class b (word b (own_place b k)))

-- the 256 classes under the even entry -k are sound
abbrev pub even_sound : List ℕ → ℕ → Bool
even_sound b k =
    fits b (pos (auxiliary b + k)) 2 && (fits b (row_start b k) 256 && every (λ y. is_class b (even_class b k y)) 256)

-- what stands under an entry is sound
abbrev pub entry_sound : List ℕ → ℤ → Bool
entry_sound b e =
    cond (non_neg e) (is_class b e) (two_byte b && cond (even (unsigned_abs e)) (even_sound b (unsigned_abs e)) (odd_sound b (unsigned_abs e)))
