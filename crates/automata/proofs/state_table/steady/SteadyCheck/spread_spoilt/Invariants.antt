use Rattle.std.proofs.Common.{ℕ}
use Rattle.automata.specs.Machine.{next}
use Rattle.automata.specs.Parts.{code_of}
use Rattle.automata.specs.Check.{SpoilsIn}
use Rattle.automata.proofs.Gathers.{Gathers}
use Rattle.automata.proofs.state_table.steady.SteadyCheck.spread_spoilt.Given as goal

abbrev pub invariant-loop-class : goal.invariant-loop-class
invariant-loop-class l =
    Gathers l.self.table.classes (SpoilsIn l.self l.to) (λ (d : ℕ). next (code_of l.self.table l.to d)) l.initial.all.bits l.class l.all.bits
