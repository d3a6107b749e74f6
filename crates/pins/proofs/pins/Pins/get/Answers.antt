use Rattle.std.proofs.Common.{◌≡◌, arith}
use Rattle.std.specs.List.{slice_get}
use Rattle.std.proofs.lemmas.Option.{gets}
use Rattle.std.proofs.lemmas.Grind.{common_steps}
use Rattle.pins.specs.Kept.{kept}
use Rattle.pins.proofs.Rising.{got, T_true}
use Rattle.pins.proofs.pins.Pins.get.Goals as goal

pub returns : goal.returns
returns c =
    let p = c.args.self.now in
    let is : c.copied.result ≡ slice_get (kept p) c.args.k = grind (arith, common_steps, gets) in
    let h = got p.size (kept p) (T_true _ p.ordered) c.args.k c.copied.result is in
    record { value = h.0; inside = h.1 }
