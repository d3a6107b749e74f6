use Rattle.std.proofs.Common.{◌≡◌, ◌≤◌}
use Rattle.automata.specs.Machine.{next}
use Rattle.automata.specs.Sets.{Has}
use Rattle.automata.specs.Parts.{code_of}
use Rattle.automata.proofs.Gathers.{Gathers}
use Rattle.automata.proofs.state_table.StateTable.after.Given as goal

abbrev pub invariant-loop-state : goal.invariant-loop-state
invariant-loop-state l =
    Gathers l.self.states (λ s. (1 ≤ s) × Has l.set.bits s × (next (code_of l.self s l.class) ≡ 0 → ⊥)) (λ s. next (code_of l.self s l.class))
    l.initial.all.bits l.state l.all.bits
