use Rattle.std.proofs.Common.{◌≡◌, ◌≤◌, [], length, vec_items, ◌∙◌, rules}
use Rattle.pins.specs.Kept.{kept}
use Rattle.books.specs.Plain.{opened, final}
use Rattle.books.proofs.StepLaws.{each_put_upsets, replayed, end_true}
use Rattle.books.proofs.FindLaws.{find_as_look, short_end}
use Rattle.books.proofs.book.replay.replay.Goals as goal

pub returns-in_err-open-clause-outside_the_window_nothing_moves : goal.returns-in_err-open-clause-outside_the_window_nothing_moves
returns-in_err-open-clause-outside_the_window_nothing_moves g c =
    let rule = c.args.rule in
    each_put_upsets (g.R.Rule.run rule) (g.met.R.Rule.bounds rule) (g.R.Rule.parts rule) (g.met.R.Rule.joins rule) (opened c.args.text.now) c.args.steps.now

pub returns-in_err-answers-clause-outside_the_window_nothing_moves : goal.returns-in_err-answers-clause-outside_the_window_nothing_moves
returns-in_err-answers-clause-outside_the_window_nothing_moves g c =
    let rule = c.args.rule in
    each_put_upsets (g.R.Rule.run rule) (g.met.R.Rule.bounds rule) (g.R.Rule.parts rule) (g.met.R.Rule.joins rule) (opened c.args.text.now) c.args.steps.now

pub returns : goal.returns
returns g c =
    let rule = c.args.rule in
    let run = g.R.Rule.run in
    let parts = g.R.Rule.parts in
    let text = c.args.text.now in
    let steps = c.args.steps.now in
    let book = c.open.new.self in
    let last = c.carry_out.new.self in
    let fresh : (length text ≤ 16383) × (book.pins.size ≡ length text) × (kept book.pins ≡ []) = search rules in
    let same = c.open.ensures.rule ∙ c.new-book.ensures.rule in
    let carried = replayed run parts rule book last text c.carry_out.new.text steps (vec_items c.in_ok-answers.answers) same fresh.1 fresh.2 c.in_ok-answers.ensures.told in
    let end = end_true (run rule) (parts rule) (opened text) last c.carry_out.new.text steps (vec_items c.in_ok-answers.answers) carried in
    record {
      answered_as_the_plain_book = carried.answers_are;
      text_of_the_plain_book = end.0;
      pins_are_true = end.1;
      outside_the_window_nothing_moves = each_put_upsets (run rule) (g.met.R.Rule.bounds rule) (parts rule) (g.met.R.Rule.joins rule) (opened text) steps;
      find_gives_what_look_gives = find_as_look (run rule) (final (run rule) (parts rule) (opened text) steps) (short_end (run rule) (parts rule) last c.carry_out.new.text _ carried.follows);
      not_begun = fresh.0;
    }
