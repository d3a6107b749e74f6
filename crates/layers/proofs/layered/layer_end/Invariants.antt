use Rattle.std.proofs.Common.{◌≡◌, ◌+◌, ◌-◌, ◌<◌, ◌≤◌, length, drop}
use Rattle.layers.specs.Layers.{layer_run}
use Rattle.layers.specs.LayerLaws.{ends_from}
use Rattle.layers.proofs.layered.layer_end.Given as goal

-- the runs below up to `at` are one run of the layer so far, and what is behind them gives its end
abbrev pub invariant-loop-at : goal.invariant-loop-at
invariant-loop-at g l =
    (length l.text ≤ 16383) × (l.place < length l.text) × (1 ≤ l.at) × (l.at ≤ length l.text)
    × (l.place + layer_run (g.S.Seam.glues l.seam) (g.R.Rule.run l.below) (drop l.place l.text) ≡ ends_from (g.S.Seam.glues l.seam) (g.R.Rule.run l.below) l.text l.at)

abbrev pub decreases-loop-at : goal.decreases-loop-at
decreases-loop-at g l = length l.text - l.at
