use Rattle.std.proofs.Common.{sym, refl, ap, ◌∙◌, inr, arith}
use Rattle.std.proofs.lemmas.Result.{err_from_is_err_and}
use Rattle.std.proofs.lemmas.Bool.{cond-true, cond-false}
use Rattle.rules.specs.declared.runs.Run.{Run}
use Rattle.pins.specs.Kept.{kept}
use Rattle.pins.specs.Order.{insert}
use Rattle.books.specs.Plain.{is_in}
use Rattle.books.specs.Faithful.{places_of}
use Rattle.books.proofs.Chosen.{was_none, told_some, told_none}
use Rattle.books.proofs.Trues.{a_pin}
use Rattle.books.proofs.Pinnings.{at_there, at_none}
use Rattle.books.proofs.PinLaws.{follows_by, pinned_again, pinned_new, pins_full, left_again, left_new}
use Rattle.books.proofs.book.Book.pin.Goals as goal

pub returns-in-Some : goal.returns-in-Some
returns-in-Some g c =
    let book = c.args.self.now in
    let text = c.args.text.now in
    let run = g.R.Rule.run book.rule in
    let parts = g.R.Rule.parts book.rule in
    let bounds = g.met.R.Rule.bounds book.rule in
    let joins = g.met.R.Rule.joins book.rule in
    let pins = kept book.pins in
    let wall = c.wall_not_above-wall.ensures in
    let found = sym c.in-Some.is ∙ c.at.ensures.value in
    let checked = c.in_ok-check_place.ensures in
    let there = at_there c.wall_not_above-wall.result (kept book.pins) c.in-Some.pin found in
    let inside = c.in-Some.ensures.inside in
    record {
      plain = λ f. pinned_again run bounds parts joins text pins f.are_true c.args.place checked.1 c.wall_not_above-wall.result wall.value wall.within wall.wall c.in-Some.pin found;
      follows = λ f.
          record {
            stays_faithful = f;
            is_plain = left_again run bounds parts joins text pins f.are_true c.args.place checked.1 c.wall_not_above-wall.result wall.value wall.within wall.wall c.in-Some.pin found;
          };
      strange = (record { few = inside.0; within = omega (arith, inside.1, checked.0) }, there.0 ∙ wall.value);
      keeps = (sym (cond-true _ _ _ (ap (λ n. is_in n (places_of (kept book.pins))) there.0 ∙ there.1)), refl);
      rule = refl;
      other = λ ne. absurd (ne checked.0);
    }

pub returns-in_err-self-clause-plain : goal.returns-in_err-self-clause-plain
returns-in_err-self-clause-plain g c f =
    let book = c.args.self.now in
    let text = c.args.text.now in
    let run = g.R.Rule.run book.rule in
    let parts = g.R.Rule.parts book.rule in
    let wall = c.wall_not_above-wall.ensures in
    let none = was_none c.with.result _ _ c.in_err-self.ensures.value in
    let full = told_none c.with.result _ _ c.with.ensures none.0 in
    let p = err_from_is_err_and c.from_residual-in_err-self.result c.from_residual-in_err-self.ensures.1 in
    rw (p.1, p.2, none.1) (pins_full run (g.met.R.Rule.bounds book.rule) parts (g.met.R.Rule.joins book.rule) text (kept book.pins) f.are_true c.args.place c.in_ok-check_place.ensures.1 c.wall_not_above-wall.result wall.value wall.within wall.wall
    (sym c.in_default.is ∙ c.at.ensures.value) full.0)

pub returns-in_err-self-clause-strange : goal.returns-in_err-self-clause-strange
returns-in_err-self-clause-strange g c =
    let book = c.args.self.now in
    let wall = c.wall_not_above-wall.ensures in
    let checked = c.in_ok-check_place.ensures in
    let none = was_none c.with.result _ _ c.in_err-self.ensures.value in
    let full = told_none c.with.result _ _ c.with.ensures none.0 in
    let p = err_from_is_err_and c.from_residual-in_err-self.result c.from_residual-in_err-self.ensures.1 in
    rw (p.1, p.2) (inr (checked.0, checked.1, ap (λ v. is_in v (places_of (kept book.pins))) (sym wall.value) ∙ at_none c.wall_not_above-wall.result (kept book.pins) (sym c.in_default.is ∙ c.at.ensures.value), full.0, none.1))

pub returns : goal.returns
returns g c =
    let book = c.args.self.now in
    let text = c.args.text.now in
    let run = g.R.Rule.run book.rule in
    let parts = g.R.Rule.parts book.rule in
    let bounds = g.met.R.Rule.bounds book.rule in
    let joins = g.met.R.Rule.joins book.rule in
    let pins = kept book.pins in
    let wall = c.wall_not_above-wall.ensures in
    let w = c.wall_not_above-wall.result in
    let n = c.run_over.result.number in
    let none = sym c.in_default.is ∙ c.at.ensures.value in
    let checked = c.in_ok-check_place.ensures in
    let with_it = told_some c.with.result _ _ c.with.ensures c.in_ok-self.field-0 c.in_ok-self.ensures.ok_part in
    let few = with_it.2 (sym none) in
    let within = c.run_over.ensures.within in
    record {
      plain = λ f. pinned_new run bounds parts joins text pins f.are_true c.args.place checked.1 w wall.value wall.within wall.wall n none few (ap (λ (r : Run). r.number) (c.run_over.ensures.value f.are_true));
      follows = λ f.
          let new = left_new run bounds parts joins text pins f.are_true c.args.place checked.1 w wall.value wall.within wall.wall n none few (ap (λ (r : Run). r.number) (c.run_over.ensures.value f.are_true)) in
          follows_by run parts _ text (insert (a_pin w n) pins) _ (f.is_long ∙ sym with_it.1) with_it.0 new.1 new.0;
      strange = (record { few = omega (arith, within.few, within.low); within = omega (arith, wall.within, checked.1) }, wall.value);
      keeps = (with_it.0 ∙ sym (cond-false _ _ _ (at_none w pins none)), with_it.1);
      rule = refl;
      other = λ ne. absurd (ne checked.0);
    }
