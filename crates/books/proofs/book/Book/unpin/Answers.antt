use Rattle.std.proofs.Common.{IfSome, sym, ◌∙◌, subst, inr, arith}
use Rattle.std.proofs.lemmas.Result.{err_from_is_err_and}
use Rattle.pins.specs.Kept.{kept}
use Rattle.pins.specs.Order.{without, IsInside}
use Rattle.books.specs.Faithful.{TruePin}
use Rattle.books.proofs.Chosen.{was_none}
use Rattle.books.proofs.Pinnings.{at_there, at_none, all_without}
use Rattle.books.proofs.PinLaws.{follows_by, left_err, unpinned, not_pinned, left_unpinned}
use Rattle.books.proofs.book.Book.unpin.Goals as goal

pub returns-in_err-pin-clause-plain : goal.returns-in_err-pin-clause-plain
returns-in_err-pin-clause-plain g c f =
    let book = c.args.self.now in
    let text = c.args.text.now in
    let run = g.R.Rule.run book.rule in
    let none = was_none c.at.result _ _ c.in_err-pin.ensures.value in
    let p = err_from_is_err_and c.from_residual-in_err-pin.result c.from_residual-in_err-pin.ensures.1 in
    rw (p.1, p.2, none.1) (not_pinned run (g.met.R.Rule.bounds book.rule) (g.R.Rule.parts book.rule) (g.met.R.Rule.joins book.rule) text (kept book.pins) f.are_true c.args.place c.in_ok-check_place.ensures.1 (sym none.0 ∙ c.at.ensures.value))

pub returns-in_err-pin-clause-follows : goal.returns-in_err-pin-clause-follows
returns-in_err-pin-clause-follows g c f =
    let book = c.args.self.now in
    let text = c.args.text.now in
    let run = g.R.Rule.run book.rule in
    let none = was_none c.at.result _ _ c.in_err-pin.ensures.value in
    record {
      stays_faithful = f;
      is_plain = sym (left_err _ _ _ _ (not_pinned run (g.met.R.Rule.bounds book.rule) (g.R.Rule.parts book.rule) (g.met.R.Rule.joins book.rule) text (kept book.pins) f.are_true c.args.place c.in_ok-check_place.ensures.1 (sym none.0 ∙ c.at.ensures.value)));
    }

pub returns-in_err-pin-clause-strange : goal.returns-in_err-pin-clause-strange
returns-in_err-pin-clause-strange g c =
    let none = was_none c.at.result _ _ c.in_err-pin.ensures.value in
    let checked = c.in_ok-check_place.ensures in
    let p = err_from_is_err_and c.from_residual-in_err-pin.result c.from_residual-in_err-pin.ensures.1 in
    rw (p.1, p.2) (inr (checked.0, checked.1, at_none c.args.place (kept c.args.self.now.pins) (sym none.0 ∙ c.at.ensures.value), none.1))

pub returns-clause-plain : goal.returns-clause-plain
returns-clause-plain g c f =
    let book = c.args.self.now in
    unpinned (g.R.Rule.run book.rule) (g.met.R.Rule.bounds book.rule) (g.R.Rule.parts book.rule) (g.met.R.Rule.joins book.rule) c.args.text.now (kept book.pins) f.are_true c.args.place c.in_ok-check_place.ensures.1 c.in_ok-pin.pin
    (sym c.in_ok-pin.ensures.ok_part ∙ c.at.ensures.value)

pub returns-clause-follows : goal.returns-clause-follows
returns-clause-follows g c f =
    let book = c.args.self.now in
    let text = c.args.text.now in
    let run = g.R.Rule.run book.rule in
    let parts = g.R.Rule.parts book.rule in
    follows_by run parts _ text (without c.args.place (kept book.pins)) _
    (f.is_long ∙ sym c.without-self.ensures.size) c.without-self.ensures.value
    (all_without (TruePin run parts text) c.args.place (kept book.pins) f.are_true)
    (left_unpinned run (g.met.R.Rule.bounds book.rule) parts (g.met.R.Rule.joins book.rule) text (kept book.pins) f.are_true c.args.place c.in_ok-check_place.ensures.1 c.in_ok-pin.pin
    (sym c.in_ok-pin.ensures.ok_part ∙ c.at.ensures.value))

pub returns-clause-strange : goal.returns-clause-strange
returns-clause-strange g c =
    let book = c.args.self.now in
    let there = at_there c.args.place (kept book.pins) c.in_ok-pin.pin (sym c.in_ok-pin.ensures.ok_part ∙ c.at.ensures.value) in
    let inside = subst (λ o. IfSome o (IsInside book.pins.size)) c.in_ok-pin.ensures.ok_part c.at.ensures.inside in
    (omega (arith, inside.0, there.0), there.1)
