use Rattle.automata.specs.Sure.{Stops}
use Rattle.automata.specs.Parts.{code_of}
use Rattle.automata.proofs.Digits.{Filled}
use Rattle.automata.proofs.state_table.StateTable.stop_row.Given as goal

abbrev pub invariant-loop-b : goal.invariant-loop-b
invariant-loop-b l = Filled (Stops (code_of l.self) l.self.states l.set.bits) l.row l.b
