use Rattle.automata.specs.Machine.{next}
use Rattle.automata.specs.Reach.{Goes}
use Rattle.automata.specs.Parts.{code_of}
use Rattle.automata.proofs.Gathers.{Gathers}
use Rattle.automata.proofs.state_table.StateTable.spread.Given as goal

abbrev pub invariant-loop-byte : goal.invariant-loop-byte
invariant-loop-byte l =
    Gathers l.self.classes (λ c. Goes l.quiet (code_of l.self l.state c)) (λ c. next (code_of l.self l.state c)) l.initial.all.bits l.byte-index l.all.bits
