use Rattle.std.proofs.Common.{rules}
use Rattle.pins.proofs.Shifts.{put_in}
use Rattle.pins.proofs.pins.edit.put_in.Goals as goal

pub returns : goal.returns
returns c = put_in c.args.entries c.rotate_right.new.self c.args.count c.args.k c.args.pin (search rules) (search rules) c.rotate_right.ensures.after
