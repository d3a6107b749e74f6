use Rattle.std.proofs.Common.{◌+◌, sym, subst}
use Rattle.std.proofs.lemmas.Bool.{both_ways}
use Rattle.automata.specs.Parts.{code_of}
use Rattle.automata.specs.declared.state_set.StateSet.{StateSet}
use Rattle.automata.proofs.Turns.{Passes, pass_has, pass_skips}
use Rattle.automata.proofs.state_table.StateTable.pass.Goals as goal
use Rattle.automata.proofs.state_table.StateTable.pass.Goals.{then-has, else-has}

pub loop-state-preserved : goal.loop-state-preserved
loop-state-preserved c =
    let code = code_of c.args.self.now in
    let C = c.args.self.now.classes in
    let Turned : StateSet → Type 0 =
    λ all. Passes c.args.quiet code C c.args.set.bits (c.loop-state.state + 1) all.bits in
    elim c.if-has.branch [
      | then-has w ↦
          let e = w.spread-all.ensures in
          subst Turned (sym w.all-is)
          (pass_has c.args.quiet code C c.args.set.bits c.loop-state.state c.loop-state.all.bits w.spread-all.result.bits
          (c.has.ensures.0 w.if-has.true) c.loop-state.invariant (e.grows, e.keeps, e.adds, e.only))
      | else-has w ↦
          subst Turned (sym w.all-is)
          (pass_skips c.args.quiet code C c.args.set.bits c.loop-state.state c.loop-state.all.bits
          (λ g. both_ways _ w.if-has.false (c.has.ensures.1 g)) c.loop-state.invariant)
    ]
