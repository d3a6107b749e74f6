use Rattle.std.proofs.Common.{◌≡◌, ◌+◌, ◌-◌, ◌<◌, ◌≤◌, reverse}
use Rattle.refusals.specs.declared.Direction.TheVariants.{Backward}
use Rattle.tables.specs.Layout.{machine, states}
use Rattle.tables.specs.Meaning.{bytes_of}
use Rattle.tables.specs.Classes.{leads}
use Rattle.breaks.specs.Meaning.{characters}
use Rattle.breaks.specs.Places.{leads_before}
use Rattle.finds.specs.Finds.{starting_below, backward_from, scan_leads}
use Rattle.finds.proofs.BackScans.{go_back}
use Rattle.finds.proofs.back.scan_back.Given as goal

-- the scan of what is left leads to the same place; where the stretch begins below `at`, it is the one before the byte
-- at `at - 1`
abbrev pub invariant-loop-at : goal.invariant-loop-at
invariant-loop-at l =
    (l.at ≤ l.place + 1) × (l.mark ≤ l.place) × (1 ≤ l.state) × (l.state < states (bytes_of l.characters.table.now) Backward)
    × (go_back (machine (bytes_of l.characters.table.now) Backward) l.state l.mark (reverse (starting_below l.at (characters (bytes_of l.characters.table.now) l.characters.text.now))) ≡ scan_leads (bytes_of l.characters.table.now) (backward_from (bytes_of l.characters.table.now) l.characters.text.now l.place))
    × (l.stretch < l.at → leads_before (leads (bytes_of l.characters.table.now)) l.characters.text.now (l.at - 1) ≡ l.at - 1 - l.stretch)

abbrev pub decreases-loop-at : goal.decreases-loop-at
decreases-loop-at l = l.at
