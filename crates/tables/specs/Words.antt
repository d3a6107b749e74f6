-- Bytes and words of a break table, as signed numbers.
use Rattle.std.specs.Prelude.{ℕ, ◌+◌, ◌*◌, ◌%◌, Bool, false, cond, ◌&&◌, List, ℤ, pos, negsuc, ◌-ℤ◌, ◌==◌, nat_le, nat_lt, slice_index}

-- the value of 8 and of 16 bits in two's complement
abbrev pub signed8 : ℕ → ℤ
signed8 n = cond (nat_lt n 128) (pos n) (pos n -ℤ pos 256)

abbrev pub signed16 : ℕ → ℤ
signed16 n = cond (nat_lt n 32768) (pos n) (pos n -ℤ pos 65536)

-- the signed byte at a place
abbrev pub byte : List ℕ → ℕ → ℤ
byte b p = signed8 (slice_index b p)

-- the word at a place: high byte first
abbrev pub word : List ℕ → ℕ → ℤ
word b p = signed16 (slice_index b p * 256 + slice_index b (p + 1))

-- a number is from lo to hi
abbrev pub within : ℤ → ℕ → ℕ → Bool
within (pos n) lo hi = nat_le lo n && nat_le n hi
within (negsuc n) lo hi = false

abbrev pub even : ℕ → Bool
even n = n % 2 == 0
