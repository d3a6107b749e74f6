use Rattle.std.proofs.Common.{arith}
use Rattle.tables.proofs.Heads.{head}
use Rattle.tables.proofs.lead.Lead.auxiliary_place.Goals as goal

pub returns-clause-bound : goal.returns-clause-bound
returns-clause-bound c =
    let l = c.args.self.now in
    let h = head l.parts.bytes.now l.parts.sound in
    let inside = h.auxiliary_in l.two in
    let whole = h.size_high in
    let is = c.offset.ensures.value in
    omega arith
