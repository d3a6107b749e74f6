use Rattle.std.proofs.Common.{rules}
use Rattle.pins.specs.Order.{up_to}
use Rattle.pins.specs.Kept.{kept}
use Rattle.books.proofs.Trues.{start_found, look_from}
use Rattle.books.proofs.book.read.run_over.Goals as goal

pub returns-clause-value : goal.returns-clause-value
returns-clause-value g c f =
    let rule = c.args.page.now.rule.now in
    let text = c.args.page.now.text.now in
    let run = g.R.Rule.run rule in
    let parts = g.R.Rule.parts rule in
    let bounds = g.met.R.Rule.bounds rule in
    let joins = g.met.R.Rule.joins rule in
    let pin = c.unwrap_or_default-pin.result in
    let start = start_found run bounds parts joins text (up_to c.args.place) (kept c.args.pins.now) f c.nearest.result c.nearest.ensures.value _ (λ q d. search rules) pin c.unwrap_or_default-pin.ensures in
    look_from run bounds parts joins text pin c.args.place start (search rules) c.walk_to-run.result c.walk_to-run.ensures.value
