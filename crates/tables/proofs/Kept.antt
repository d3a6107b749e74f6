-- What an accepted table keeps.
use Rattle.std.proofs.Common.{◌≡◌, length, vec_len}
use Rattle.automata.specs.Sure.{holds}
use Rattle.tables.specs.Checks.{first_failed, Passes, checks}
use Rattle.tables.specs.Verdicts.{Tells}
use Rattle.tables.specs.Meaning.{bytes_of}
use Rattle.tables.specs.declared.table.Table.{Table}
use Rattle.tables.proofs.Passing.{none_failed}

pub table_passes : (t : Table) → Passes (checks (bytes_of t))
table_passes t = none_failed (first_failed (checks (bytes_of t))) t.passes

pub table_length : (t : Table) → vec_len t.bytes ≡ length (bytes_of t)
table_length t = t.bytes.ok.0

-- the bits of its pairs tell which are sure
pub table_tells : (t : Table) → Tells (bytes_of t) (holds t.judgement.sure.rows)
table_tells t c d l m = (λ h r w. t.sound c d r (l, m, h, w), λ s. t.complete c d (l, m, s))
