use Rattle.std.proofs.Common.{ℕ, ◌<◌, ◌≤◌, None}
use Rattle.automata.proofs.state_table.StateTable.first_code.Given as goal

abbrev pub invariant-loop-state : goal.invariant-loop-state
invariant-loop-state g l = (t : ℕ) → t < l.state → 1 ≤ t → goal.F-post g l.first t None
