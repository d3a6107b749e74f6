use Rattle.std.proofs.Common.{refl}
use Rattle.school.specs.School.{school}
use Rattle.school.proofs.Entries.{entries}
use Rattle.school.proofs.school_table.Goals as goal

pub returns : goal.returns
unfolding school
returns c = record { bytes = refl; classes = entries }
