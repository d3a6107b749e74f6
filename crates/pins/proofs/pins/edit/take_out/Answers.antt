use Rattle.std.proofs.Common.{rules}
use Rattle.pins.proofs.Shifts.{take_out}
use Rattle.pins.proofs.pins.edit.take_out.Goals as goal

pub returns : goal.returns
returns c = take_out c.args.entries c.rotate_left.new.self c.args.count c.args.k (search rules) (search rules) c.rotate_left.ensures.after
