use Rattle.std.proofs.Common.{ℕ, ◌-◌, ◌^◌}
use Rattle.automata.specs.Sets.{Has}
use Rattle.automata.specs.Reach.{From}
use Rattle.automata.specs.Parts.{code_of}
use Rattle.automata.proofs.state_table.StateTable.closure.Given as goal

abbrev pub invariant-loop-more : goal.invariant-loop-more
invariant-loop-more l =
    ((k : ℕ) → Has l.initial.set.bits k → Has l.set.bits k)
    × ((k : ℕ) → Has l.set.bits k → From l.quiet (code_of l.self) l.self.classes l.initial.set.bits k)

abbrev pub decreases-loop-more : goal.decreases-loop-more
decreases-loop-more l = 2 ^ 64 - l.set.bits
