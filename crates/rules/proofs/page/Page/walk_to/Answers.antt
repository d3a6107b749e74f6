use Rattle.std.proofs.Common.{arith, rules, tests}
use Rattle.std.proofs.lemmas.Iterator.Consumers.{YieldsList-from_first}
use Rattle.std.proofs.lemmas.Iterator.Search.{find_from_yields_List}
use Rattle.rules.proofs.RunLists.{found_from, was_found, passing}
use Rattle.rules.proofs.page.Page.walk_to.Goals as goal

pub unwrap-requires : goal.unwrap-requires
unwrap-requires g c =
    let page = c.args.self.now in
    let search-is = find_from_yields_List (passing c.args.place) _ _ c.find.result c.find.ensures.ran (YieldsList-from_first (λ x. x) (λ rest. rest) _ c.runs_from.ensures) (λ x d q k. search (rules, tests)) in
    was_found _ c.find.result (found_from (g.R.Rule.run page.rule.now) (g.met.R.Rule.bounds page.rule.now) page.text.now c.args.from c.args.place c.find.result c.requires.0 c.requires.1 search-is)

pub returns : goal.returns
returns g c =
    let page = c.args.self.now in
    let search-is = find_from_yields_List (passing c.args.place) _ _ c.find.result c.find.ensures.ran (YieldsList-from_first (λ x. x) (λ rest. rest) _ c.runs_from.ensures) (λ x d q k. search (rules, tests)) in
    let over = rw c.unwrap.ensures at (found_from (g.R.Rule.run page.rule.now) (g.met.R.Rule.bounds page.rule.now) page.text.now c.args.from c.args.place c.find.result c.requires.0 c.requires.1 search-is) in
    record { value = over.0; start = over.1.start; end = over.1.end; few = omega (arith, over.1.few) }
