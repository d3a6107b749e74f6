-- Where the parts of a break table stand, and how large they are, as its bytes tell. The numbers mean something where
-- the table passes its checks.
use Rattle.std.specs.Prelude.{ℕ, ◌+◌, ◌-◌, ◌*◌, ◌/◌, Bool, cond, not, ◌&&◌, List, take, drop, ℤ, ◌==◌, nat_le, slice_index, unsigned_abs}
use Rattle.std.specs.Int.Signed.{non_neg}
use Rattle.refusals.specs.declared.Direction.{Direction}
use Rattle.refusals.specs.declared.Direction.TheVariants.{Forward, Backward}
use Rattle.automata.specs.Machine.{code_at}
use Rattle.tables.specs.Words.{word}

-- how many bytes the table has, as its header says
abbrev pub size : List ℕ → ℕ
size b = unsigned_abs (word b 14)

-- so many bytes from a place on lie inside the table
abbrev pub fits : List ℕ → ℤ → ℕ → Bool
fits b z need = non_neg z && nat_le (unsigned_abs z + need) (size b)

-- whether the table is for two-byte text: flags2 is not 0
abbrev pub two_byte : List ℕ → Bool
two_byte b = not (slice_index b 1 == 0)

-- the offset in a header field
abbrev pub offset : List ℕ → ℕ → ℕ
offset b field = unsigned_abs (word b field)

abbrev pub class_table : List ℕ → ℕ
class_table b = offset b 4

abbrev pub auxiliary : List ℕ → ℕ
auxiliary b = offset b 6

abbrev pub state_table : List ℕ → Direction → ℕ
state_table b Forward = offset b 10
state_table b Backward = offset b 8

-- doBackup: places below it are found from the text's start; a negative one is above none
abbrev pub backup : List ℕ → ℕ
backup b = cond (non_neg (word b 12)) (unsigned_abs (word b 12)) 0

-- the k-th word of a state table's list
abbrev pub list_word : List ℕ → Direction → ℕ → ℤ
list_word b d k = word b (state_table b d + 2 * k)

-- S: word 1 is twice the number of states
abbrev pub states : List ℕ → Direction → ℕ
states b d = unsigned_abs (list_word b d 1) / 2

-- C: what word 2 of the forward list has more than word 1
abbrev pub classes : List ℕ → ℕ
classes b = unsigned_abs (list_word b Forward 2) - unsigned_abs (list_word b Forward 1)

-- how many codes follow the list: a row of C codes for each state but exit
abbrev pub code_count : List ℕ → Direction → ℕ
code_count b d = (states b d - 1) * classes b

-- the place of the code of index k, counted from the first code of state 1
abbrev pub code_place : List ℕ → Direction → ℕ → ℕ
code_place b d k = state_table b d + 2 * states b d + k

abbrev pub codes : List ℕ → Direction → List ℕ
codes b d = take (code_count b d) (drop (code_place b d 0) b)

-- the state table as a machine: the code of a state and a class
abbrev pub machine : List ℕ → Direction → ℕ → ℕ → ℕ
machine b d = code_at (codes b d) (classes b)
