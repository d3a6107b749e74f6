use Rattle.std.proofs.Common.{◌≡◌, ℕ, List, ℤ, sym, ap, ◌∙◌, subst, arith, rules}
use Rattle.std.proofs.lemmas.List.{set-set, set-get_or}
use Rattle.std.proofs.lemmas.Int.{ints}
use Rattle.rules.specs.Cutting.{cutting}
use Rattle.rules.proofs.WallLaws.{inside}
use Rattle.windows.specs.Windows.{runs, edited, gained, window_begin, window_end, SameOutside}
use Rattle.windows.proofs.WindowLaws.{window_found, window_gained, outside_same}
use Rattle.windows.proofs.edit.Edit.window.Goals as goal

pub returns : goal.returns
returns g c =
    let rule = c.args.rule.now in
    let run = g.R.Rule.run rule in
    let parts = g.R.Rule.parts rule in
    let b = g.met.R.Rule.bounds rule in
    let joins = g.met.R.Rule.joins rule in
    let edit = c.args.self in
    let xs = c.args.text.now in
    let ys = edited edit xs in
    let from = c.window_from-from.result in
    let to = c.window_to-to.result in
    let left = c.window_to-to.new.text in
    let from_is : from ≡ window_begin parts xs ys edit.place = search rules in
    let to_is = c.window_to-to.ensures.value ∙ ap (λ (z : List ℕ). window_end parts z (edited edit z) edit.place) c.window_from-from.ensures.restored in
    let window = window_found parts xs ys edit.place from to (omega arith) from_is to_is in
    let old-text : left ≡ xs = cc in
    let new-text : c.view.result.now ≡ ys = cc in
    let old = c.runs_between-old.ensures.value ∙ ap (λ (z : List ℕ). runs run (inside from to z)) old-text in
    let new = c.runs_between-new.ensures.value ∙ ap (λ (z : List ℕ). runs run (inside from to z)) new-text in
    let whole = window_gained run b parts joins xs edit.place edit.byte from to window in
    let few-old = c.runs_between-old.ensures.small in
    let few-new = c.runs_between-new.ensures.small in
    let moved : (d : ℤ) → d ≡ gained run xs ys → SameOutside (cutting run xs) (cutting run ys) from to d =
    λ d e. subst (λ (z : ℤ). SameOutside (cutting run xs) (cutting run ys) from to z) (sym e) (outside_same run b parts joins xs edit.place edit.byte from to window) in
    record {
      restored = search (rules, set-set, set-get_or);
      from = from_is;
      to = to_is;
      difference = omega (arith, ints, old, new, whole);
      is_window = window;
      outside = moved _ (omega (arith, ints, old, new, whole));
      within = search rules;
      small = (omega (arith, ints), omega (arith, ints));
    }
