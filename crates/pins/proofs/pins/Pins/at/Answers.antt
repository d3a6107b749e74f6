use Rattle.std.proofs.Common.{sym, ◌∙◌}
use Rattle.pins.specs.Kept.{kept}
use Rattle.pins.proofs.Rising.{at_spot, off_spot, read_within, T_true}
use Rattle.pins.proofs.pins.Pins.at.Goals as goal

pub returns-in_err-k-clause-value : goal.returns-in_err-k-clause-value
returns-in_err-k-clause-value c =
    let p = c.args.self.now in
    c.from_residual.ensures ∙ sym (off_spot p.size c.args.place (kept p) (T_true _ p.ordered) c.spot.result c.spot.ensures (sym (c.in_err-k.was) ∙ c.ok.ensures.value))

pub returns-clause-value : goal.returns-clause-value
returns-clause-value c =
    let p = c.args.self.now in
    let found = at_spot p.size c.args.place (kept p) (T_true _ p.ordered) c.spot.result c.in_ok-k.k c.spot.ensures (sym (c.in_ok-k.was) ∙ c.ok.ensures.value) in
    read_within (kept p) c.in_ok-k.k c.get.result c.get.ensures.value found.0 ∙ sym found.1
