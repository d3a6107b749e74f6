use Rattle.std.proofs.Common.{◌≡◌, ℕ, ◌-◌, List, length, set, ℤ, ap, ◌∙◌, arith, w32, SFits, to_z, of_z, rules}
use Rattle.std.proofs.lemmas.List.{set-set, set-get_or}
use Rattle.std.proofs.lemmas.Int.{to_z-of_z}
use Rattle.pins.specs.Kept.{kept}
use Rattle.windows.specs.Windows.{window_end, gained}
use Rattle.books.specs.declared.call.Change.{Change}
use Rattle.books.specs.Moves.{renumbered}
use Rattle.books.proofs.Renumbers.{few_left, dropped_is}
use Rattle.books.proofs.book.Book.judge.Goals as goal
use Rattle.books.proofs.book.Book.judge.Goals.{After-renumber-left}

same-change : (f f' t t' n n' : ℕ) (d d' : ℤ) → f ≡ f' → t ≡ t' → d ≡ d' → n ≡ n'
    → ◌≡◌ {A = Change} (record { from = f; to = t; difference = d; dropped = n }) (record { from = f'; to = t'; difference = d'; dropped = n' })
same-change f f' t t' n n' d d' a b e h = cc

left_is : (g : _) (c : goal.After-renumber-left g)
    → kept c.renumber-left.result ≡ renumbered (g.R.Rule.parts c.args.self.now.rule) (set c.args.text.now c.args.edit.place c.args.edit.byte) (window_end (g.R.Rule.parts c.args.self.now.rule) c.args.text.now (set c.args.text.now c.args.edit.place c.args.edit.byte) c.args.edit.place) (gained (g.R.Rule.run c.args.self.now.rule) c.args.text.now (set c.args.text.now c.args.edit.place c.args.edit.byte)) (kept c.args.self.now.pins)
left_is g c =
    let parts = g.R.Rule.parts c.args.self.now.rule in
    let pins = kept c.args.self.now.pins in
    let xs = c.args.text.now in
    let found = c.window-window.ensures in
    let seen : c.view.result.now ≡ set xs c.args.edit.place c.args.edit.byte =
    c.view.ensures ∙ c.begin-trial.ensures.changed ∙ ap (λ (z : List ℕ). set z c.args.edit.place c.args.edit.byte) found.restored in
    let f : SFits w32 c.window-window.result.difference = search rules in
    let d = to_z-of_z w32 c.window-window.result.difference f ∙ found.difference in
    c.renumber-left.ensures.value
    ∙ ap (λ (z : List ℕ). renumbered parts z c.window-window.result.to (to_z w32 (of_z w32 c.window-window.result.difference)) pins) seen
    ∙ ap (λ (t : ℕ). renumbered parts (set xs c.args.edit.place c.args.edit.byte) t (to_z w32 (of_z w32 c.window-window.result.difference)) pins) found.to
    ∙ ap (λ (z : ℤ). renumbered parts (set xs c.args.edit.place c.args.edit.byte) (window_end parts xs (set xs c.args.edit.place c.args.edit.byte) c.args.edit.place) z pins) d

pub overflow_sub-result : goal.overflow_sub-result
overflow_sub-result g c =
    let parts = g.R.Rule.parts c.args.self.now.rule in
    let xs = c.args.text.now in
    let ys = set xs c.args.edit.place c.args.edit.byte in
    omega (arith, c.len.ensures.value, c.len-2.ensures.value, ap length (left_is g (goal.at.overflow_sub-result g c).After-renumber-left), few_left (window_end parts xs ys c.args.edit.place) (gained (g.R.Rule.run c.args.self.now.rule) xs ys) parts ys (kept c.args.self.now.pins))

pub returns : goal.returns
returns g c =
    let xs = c.args.text.now in
    let found = c.window-window.ensures in
    let f : SFits w32 c.window-window.result.difference = search rules in
    let left = left_is g (goal.at.returns g c).After-renumber-left in
    record {
      restored = search (rules, set-set, set-get_or);
      change =
          same-change _ _ _ _ _ _ _ _ found.from found.to (to_z-of_z w32 c.window-window.result.difference f ∙ found.difference)
          (ap (λ (n : ℕ). n - c.len-2.result) c.len.ensures.value
          ∙ dropped_is _ _ (g.R.Rule.parts c.args.self.now.rule) (set xs c.args.edit.place c.args.edit.byte) (kept c.args.self.now.pins) c.len-2.result (c.len-2.ensures.value ∙ ap length left));
      pins = left;
      size = c.renumber-left.ensures.size;
    }
