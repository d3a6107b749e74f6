-- Places of characters, told from the bytes before them.
use Rattle.std.specs.Prelude.{ℕ, zero, suc, ◌-◌, ◌%◌, Bool, cond, List, slice_index}

-- how many first bytes stand in a row straight before a place
abbrev pub leads_before : (ℕ → Bool) → List ℕ → ℕ → ℕ
leads_before lead text zero = 0
leads_before lead text (suc p) = cond (lead (slice_index text p)) (suc (leads_before lead text p)) 0

-- where the character begins that covers a place: after a byte that is no first byte a character ends, and through a
-- stretch of first bytes the places alternate
abbrev pub covering : (ℕ → Bool) → List ℕ → ℕ → ℕ
covering lead text p = p - leads_before lead text p % 2
