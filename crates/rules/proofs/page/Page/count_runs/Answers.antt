use Rattle.std.proofs.Common.{◌∙◌}
use Rattle.std.proofs.lemmas.Iterator.Consumers.{YieldsList-from_first, count_from_yields_List}
use Rattle.rules.specs.Cutting.{cutting}
use Rattle.rules.proofs.RunLists.{runs_size}
use Rattle.rules.proofs.page.Page.count_runs.Goals as goal

pub returns : goal.returns
returns g c =
    count_from_yields_List c.runs.result c.count.result c.count.ensures.ran (YieldsList-from_first (λ x. x) (λ rest. rest) _ c.runs.ensures)
    ∙ runs_size 0 0 (cutting (g.R.Rule.run c.args.self.now.rule.now) c.args.self.now.text.now)
