use Rattle.std.proofs.Common.{ℕ, ◌<◌, ◌≤◌}
use Rattle.automata.specs.Sets.{Has}
use Rattle.automata.specs.Check.{SpoilsToIn, SpoiltIn}
use Rattle.automata.proofs.state_table.steady.SteadyCheck.spoilt.Given as goal

abbrev pub invariant-loop-state : goal.invariant-loop-state
invariant-loop-state l =
    ((t : ℕ) → t < l.state → 1 ≤ t → (k : ℕ) → SpoilsToIn l.self t k → Has l.all.bits k)
    × ((k : ℕ) → Has l.all.bits k → SpoiltIn l.self k)
