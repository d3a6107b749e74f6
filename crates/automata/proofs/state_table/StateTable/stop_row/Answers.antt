use Rattle.std.proofs.Common.{ℕ, ◌+◌, ◌<◌, sym, subst, arith}
use Rattle.std.proofs.lemmas.Bool.{both_ways}
use Rattle.automata.specs.Sure.{Stops}
use Rattle.automata.specs.Parts.{code_of}
use Rattle.automata.proofs.Digits.{Filled, fill_with, fill_without}
use Rattle.automata.proofs.state_table.StateTable.stop_row.Goals as goal
use Rattle.automata.proofs.state_table.StateTable.stop_row.Goals.{then-stops, else-stops}

pub loop-b-preserved : goal.loop-b-preserved
loop-b-preserved c =
    let Right : ℕ → Type 0 = Stops (code_of c.args.self.now) c.args.self.now.states c.args.set.bits in
    let Turned : ℕ → Type 0 = λ row. Filled Right row (c.loop-b.b + 1) in
    let few : c.loop-b.b < 128 = omega (arith, c.args.self.now.few) in
    elim c.if-stops.branch [
      | then-stops w ↦
          subst Turned (sym w.row-is)
          (fill_with Right c.loop-b.row c.loop-b.b few c.loop-b.invariant (c.stops.ensures.0 w.if-stops.true))
      | else-stops w ↦
          subst Turned (sym w.row-is)
          (fill_without Right c.loop-b.row c.loop-b.b c.loop-b.invariant (λ q. both_ways _ w.if-stops.false (c.stops.ensures.1 q)))
    ]
