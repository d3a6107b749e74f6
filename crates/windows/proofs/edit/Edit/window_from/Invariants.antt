use Rattle.std.proofs.Common.{◌≡◌}
use Rattle.windows.specs.Windows.{both_walls, edited, greatest}
use Rattle.windows.proofs.edit.Edit.window_from.Given as goal

-- the search goes on below
abbrev pub invariant-loop-from : goal.invariant-loop-from
invariant-loop-from g l =
    let wall = both_walls (g.R.Rule.parts l.rule) l.initial.text (edited l.self l.initial.text) in
    (l.text ≡ l.initial.text) × (greatest wall l.from ≡ greatest wall l.self.place)
