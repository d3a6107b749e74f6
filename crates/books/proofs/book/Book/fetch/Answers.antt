use Rattle.std.proofs.Common.{Ok, ap, ◌∙◌, rules}
use Rattle.std.proofs.lemmas.Result.{err_from_is_err_and}
use Rattle.pins.specs.Order.{numbered_up_to}
use Rattle.pins.specs.Kept.{kept}
use Rattle.books.specs.Faithful.{places_of}
use Rattle.books.proofs.Chosen.{was_none, told_some, told_none}
use Rattle.books.proofs.Trues.{start_found, fetched_some, fetched_none}
use Rattle.books.proofs.book.Book.fetch.Goals as goal

pub returns-in_err-run-clause-plain : goal.returns-in_err-run-clause-plain
returns-in_err-run-clause-plain g c f =
    let book = c.args.self.now in
    let text = c.args.text.now in
    let run = g.R.Rule.run book.rule in
    let parts = g.R.Rule.parts book.rule in
    let bounds = g.met.R.Rule.bounds book.rule in
    let joins = g.met.R.Rule.joins book.rule in
    let pin = c.unwrap_or_default-pin.result in
    let start = start_found run bounds parts joins text (numbered_up_to c.args.number) (kept book.pins) f.are_true c.nearest_numbered.result c.nearest_numbered.ensures.value _ (λ q d. search rules) pin c.unwrap_or_default-pin.ensures in
    let none = was_none c.walk_past.result _ _ c.in_err-run.ensures.value in
    let p = err_from_is_err_and c.from_residual-in_err-run.result c.from_residual-in_err-run.ensures.1 in
    rw (p.1, p.2, none.1) (fetched_none run bounds parts joins text (places_of (kept book.pins)) pin c.args.number start (search rules) (told_none _ _ _ c.walk_past.ensures none.0))

pub returns-clause-plain : goal.returns-clause-plain
returns-clause-plain g c f =
    let book = c.args.self.now in
    let text = c.args.text.now in
    let run = g.R.Rule.run book.rule in
    let parts = g.R.Rule.parts book.rule in
    let bounds = g.met.R.Rule.bounds book.rule in
    let joins = g.met.R.Rule.joins book.rule in
    let pin = c.unwrap_or_default-pin.result in
    let walked = told_some _ _ _ c.walk_past.ensures c.in_ok-run.run' c.in_ok-run.ensures.ok_part in
    let start = start_found run bounds parts joins text (numbered_up_to c.args.number) (kept book.pins) f.are_true c.nearest_numbered.result c.nearest_numbered.ensures.value _ (λ q d. search rules) pin c.unwrap_or_default-pin.ensures in
    ap (λ s. Ok s) c.span.ensures ∙ fetched_some run bounds parts joins text (places_of (kept book.pins)) pin c.args.number c.in_ok-run.run' start (search rules) walked.0 walked.1
