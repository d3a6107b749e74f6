-- What is said of an accepted table.
use Rattle.std.specs.Prelude.{◌≡◌, ℕ, List, vec_items, Result, MatchResult}
use Rattle.tables.specs.Verdicts.{Sound, Refused}
use Rattle.tables.specs.declared.table.Table.{Table}
use Rattle.tables.specs.declared.table.accept.Rejected.{Rejected}

-- the bytes of an accepted table
abbrev pub bytes_of : Table → List ℕ
bytes_of t = vec_items t.bytes

-- acceptance: the table of these bytes where they are sound, and else the bytes back with the first fault
pub record Kept (b : List ℕ) (t : Table) : Type 0 where
  pub bytes_is : bytes_of t ≡ b
  pub is_sound : Sound b

pub record Returned (b : List ℕ) (e : Rejected) : Type 0 where
  pub bytes_is : vec_items e.bytes ≡ b
  pub is_refused : Refused b e.refusal

abbrev pub Accepted : List ℕ → Result Table Rejected → Type 0
Accepted b r = MatchResult r (Kept b) (Returned b)
