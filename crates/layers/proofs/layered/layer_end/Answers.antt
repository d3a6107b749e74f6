use Rattle.std.proofs.Common.{◌≡◌, ◌+◌, ◌-◌, true, length, get_or, drop, ◌∙◌, arith, rules}
use Rattle.std.proofs.lemmas.Bool.{cond-true, and_from, lt-ltb}
use Rattle.rules.specs.Cuts.{end_inside}
use Rattle.rules.proofs.Lawful.{accepted}
use Rattle.layers.specs.LayerLaws.{ends_more}
use Rattle.layers.proofs.layered.layer_end.Goals as goal

pub loop-at-init : goal.loop-at-init
loop-at-init g c =
    let text = c.args.text.now in
    let place = c.args.place in
    let at = c.in_ok-at.at in
    let run = g.R.Rule.run c.args.below.now in
    let b = g.met.R.Rule.bounds c.args.below.now in
    let was = accepted text place (place + run (drop place text)) at c.in_ok-at.ensures in
    let inside = end_inside run b text place at was.1 was.2 in
    (was.0, was.1, omega (arith, inside.0), inside.1, ends_more (g.S.Seam.glues c.args.seam.now) run b text place at was.1 was.2)

pub loop-at-preserved : goal.loop-at-preserved
loop-at-preserved g c =
    let text = c.args.text.now in
    let at = c.loop-at.at in
    let to = c.run_end-at.result in
    let inv = c.loop-at.invariant in
    let run = g.R.Rule.run c.args.below.now in
    let b = g.met.R.Rule.bounds c.args.below.now in
    let glues = g.S.Seam.glues c.args.seam.now in
    let holds : glues (get_or text (at - 1) 0) (get_or text at 0) ≡ true = search rules in
    let here = and_from _ _ (lt-ltb at (length text) c.loop-at-test.true) holds in
    let on = inv.4 ∙ cond-true _ _ _ here ∙ ends_more glues run b text at to c.loop-at-test.true c.run_end-at.ensures.value in
    (inv.0, inv.1, omega arith, c.run_end-at.ensures.within, on)
