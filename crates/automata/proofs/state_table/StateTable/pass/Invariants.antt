use Rattle.automata.specs.Parts.{code_of}
use Rattle.automata.proofs.Turns.{Passes}
use Rattle.automata.proofs.state_table.StateTable.pass.Given as goal

abbrev pub invariant-loop-state : goal.invariant-loop-state
invariant-loop-state l = Passes l.quiet (code_of l.self) l.self.classes l.initial.all.bits l.state l.all.bits
