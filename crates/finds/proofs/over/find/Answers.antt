use Rattle.std.proofs.Common.{◌≡◌, ℕ, ◌≤◌, ap, ◌∙◌, subst, rules}
use Rattle.rules.specs.Cutting.{cutting}
use Rattle.rules.specs.Runs.{over_from, run_over_byte, span_of}
use Rattle.rules.proofs.Lawful.{answers}
use Rattle.tables.specs.Meaning.{bytes_of}
use Rattle.breaks.specs.Meaning.{table_run}
use Rattle.finds.specs.Finds.{begin, found}
use Rattle.finds.proofs.SteadyWalls.{found_whole}
use Rattle.finds.proofs.over.find.Goals as goal

pub returns : goal.returns
returns c =
    let t = c.args.rule.now.table in
    let b = bytes_of t in
    let text = c.args.text.now in
    let place = c.args.place in
    let inside = c.in_ok-check_place.ensures.inside in
    let run = c.walk_to.result in
    let from = c.begin.result in
    let from_is : from ≡ begin b text place = search rules in
    let run_is : run ≡ over_from (table_run b) text from place = search rules in
    let low : begin b text place ≤ place = subst (λ (n : ℕ). n ≤ place) from_is c.begin.ensures.within in
    let spanned : c.span.result ≡ span_of run = c.span.ensures in
    let is : c.span.result ≡ found b text place = spanned ∙ ap span_of (run_is ∙ ap (λ (n : ℕ). over_from (table_run b) text n place) from_is) in
    record {
      value = answers text place (found b text place) inside.0 inside.1 c.span.result is;
      as_cut_whole = λ steady.
          answers text place (span_of (run_over_byte (cutting (table_run b) text) place)) inside.0 inside.1 c.span.result
          (is ∙ found_whole t steady text place low inside.1);
    }
