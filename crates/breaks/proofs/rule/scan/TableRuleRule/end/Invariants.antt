use Rattle.std.proofs.Common.{◌≡◌, ◌+◌, ◌-◌, ◌<◌, ◌≤◌, length, drop}
use Rattle.refusals.specs.declared.Direction.TheVariants.{Forward}
use Rattle.tables.specs.Layout.{machine, states}
use Rattle.tables.specs.Meaning.{bytes_of}
use Rattle.breaks.specs.Meaning.{characters, run_of}
use Rattle.breaks.specs.ScanLaws.{go}
use Rattle.breaks.proofs.rule.scan.TableRuleRule.end.Given as goal

-- the scan of what is left gives the end of the run
abbrev pub invariant-loop-at : goal.invariant-loop-at
invariant-loop-at l =
    (l.at ≤ length l.text) × (1 ≤ l.state) × (l.state < states (bytes_of l.self.table) Forward)
    × (go (machine (bytes_of l.self.table) Forward) l.state l.at l.mark (characters (bytes_of l.self.table) (drop l.at l.text)) ≡ l.place + run_of l.self (drop l.place l.text))

abbrev pub decreases-loop-at : goal.decreases-loop-at
decreases-loop-at l = length l.text - l.at
