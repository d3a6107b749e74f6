use Rattle.std.proofs.Common.{arith}
use Rattle.tables.proofs.Heads.{head}
use Rattle.tables.proofs.parts.Parts.class_table_place.Goals as goal

pub returns-clause-bound : goal.returns-clause-bound
returns-clause-bound c =
    let h = head c.args.self.now.bytes.now c.args.self.now.sound in
    let inside = h.class_table_in in
    let whole = h.size_high in
    let is = c.offset.ensures.value in
    omega arith
