use Rattle.std.proofs.Common.{◌≡◌, ◌-◌, length}
use Rattle.windows.specs.Windows.{both_walls, edited, least, window_end}
use Rattle.windows.proofs.edit.Edit.window_to.Given as goal

-- the search goes on above
abbrev pub invariant-loop-to : goal.invariant-loop-to
invariant-loop-to g l =
    let xs = l.initial.text in
    let ys = edited l.self l.initial.text in
    (l.text ≡ xs) × (least (both_walls (g.R.Rule.parts l.rule) xs ys) (length xs - l.to) l.to ≡ window_end (g.R.Rule.parts l.rule) xs ys l.self.place)
