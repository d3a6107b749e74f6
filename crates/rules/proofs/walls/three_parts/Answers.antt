use Rattle.std.proofs.Common.{◌≡◌, true, sym, ◌∙◌}
use Rattle.rules.specs.Answers.{wall_at}
use Rattle.rules.proofs.Lawful.{accepted, wall_joined}
use Rattle.rules.proofs.WallLaws.{parted_three}
use Rattle.rules.proofs.walls.three_parts.Goals as goal

pub returns-then-starts-clause-alone : goal.returns-then-starts-clause-alone
returns-then-starts-clause-alone g c =
    let text = c.args.text.now in
    let from = c.args.from in
    let to = c.args.to in
    let rule = c.args.rule.now in
    let run = g.R.Rule.run rule in
    let parts = g.R.Rule.parts rule in
    let b = g.met.R.Rule.bounds rule in
    let at_from = accepted text from (wall_at parts text from) c.in_ok-starts.starts c.in_ok-starts.ensures in
    let at-to = accepted text to (wall_at parts text to) c.in_ok-ends.ends c.in_ok-ends.ensures in
    let joined = wall_joined run b parts (g.met.R.Rule.joins rule) text in
    λ e.
    let ends : c.in_ok-ends.ends ≡ true = cc in
    parted_three run b text from to c.if-starts.true.0 (joined from (sym at_from.2 ∙ c.if-starts.true.1)) (joined to (sym at-to.2 ∙ ends))
