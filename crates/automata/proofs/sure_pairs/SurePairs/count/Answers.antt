use Rattle.std.proofs.Common.{◌^◌, ◌∙◌, arith, rules}
use Rattle.std.proofs.lemmas.Iterator.{YieldsList-from_slice, YieldsList-from_map}
use Rattle.std.proofs.lemmas.Iterator.Adapters.{fits_from_length, at_most_from_yields_List}
use Rattle.std.proofs.lemmas.Iterator.Consumers.{sum_by_from_yields_List}
use borrow.Author.Tests.{tests}
use lib.Count.{ones}
use Rattle.automata.proofs.Counts.{rows_counted}
use Rattle.automata.proofs.sure_pairs.SurePairs.count.Goals as goal

pub sum-requires-clause-fits : goal.sum-requires-clause-fits
sum-requires-clause-fits c =
    fits_from_length _ _ 128 (2 ^ 64) (at_most_from_yields_List (YieldsList-from_slice c.args.self.now.rows cc) (search rules)) c.map.ensures.closure (omega arith)
    (λ x r q k. search (rules, tests))

pub returns : goal.returns
returns c =
    let rows = c.args.self.now.rows in
    sum_by_from_yields_List ones rows c.map.result c.sum.result c.sum.ensures.ran
    (YieldsList-from_map _ ones (YieldsList-from_slice rows cc) c.map.ensures.closure (λ x r q k. search (rules, tests)))
    ∙ rows_counted rows (search rules) (search rules)
