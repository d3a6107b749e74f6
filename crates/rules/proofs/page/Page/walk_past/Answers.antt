use Rattle.std.proofs.Common.{rules}
use Rattle.std.proofs.lemmas.Iterator.Consumers.{YieldsList-from_first, nth_from_yields_List}
use Rattle.rules.proofs.RunLists.{nth_from_place}
use Rattle.rules.proofs.page.Page.walk_past.Goals as goal

pub returns : goal.returns
returns g c =
    let page = c.args.self.now in
    let told = nth_from_place (g.R.Rule.run page.rule.now) (g.met.R.Rule.bounds page.rule.now) page.text.now c.args.from c.args.count c.nth.result c.requires
    (nth_from_yields_List c.nth.result c.nth.new.self c.args.count c.nth.ensures.ran (YieldsList-from_first (λ x. x) (λ rest. rest) _ c.runs_from.ensures)) in
    search (rules, told)
