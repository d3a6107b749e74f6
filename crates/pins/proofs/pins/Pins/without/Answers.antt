use Rattle.std.proofs.Common.{◌≡◌, ◌-◌, take, sym, ◌∙◌, arith}
use Rattle.pins.specs.Order.{without}
use Rattle.pins.specs.Kept.{kept}
use Rattle.pins.proofs.Rising.{there, nowhere, rising_without, T_true, true_T}
use Rattle.pins.proofs.pins.Pins.without.Goals as goal
use Rattle.pins.proofs.pins.Pins.without.Goals.{After-take_out-entries}

pub returns-in_default-clause-value : goal.returns-in_default-clause-value
returns-in_default-clause-value c =
    let p = c.args.self in
    sym (nowhere p.size c.args.place (kept p) (T_true _ p.ordered) c.in_default.field-0 c.in_default.ensures).0

left_is : (c : goal.After-take_out-entries) → take (c.args.self.count - 1) c.take_out-entries.result ≡ without c.args.place (kept c.args.self)
left_is c =
    let p = c.args.self in
    c.take_out-entries.ensures ∙ sym (there p.size c.args.place (kept p) (T_true _ p.ordered) c.in-Ok.k c.in-Ok.ensures).0

pub invariant_of-result : goal.invariant_of-result
invariant_of-result c =
    let ordered = rising_without c.args.self.size c.args.place (kept c.args.self) (T_true _ c.args.self.ordered) in
    record { short = c.args.self.short; few = omega (arith, c.args.self.few); ordered = true_T _ (rw (left_is c) ordered) }

pub returns-clause-value : goal.returns-clause-value
returns-clause-value c = left_is (goal.at.returns-clause-value c).After-take_out-entries
