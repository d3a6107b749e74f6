use Rattle.tables.proofs.Tabled.{header_passes}
use Rattle.tables.proofs.passed.Passed.parts.Goals as goal

pub new-requires : goal.new-requires
new-requires c = header_passes c.args.self.now.bytes.now c.args.self.now.sound
