use Rattle.std.proofs.Common.{◌≡◌, ℕ, ◌+◌, ◌≤◌, sym, ap, ◌∙◌, subst}
use Rattle.std.proofs.lemmas.Bool.{both_ways, eqb-false, eqb-true}
use Rattle.automata.specs.Machine.{next}
use Rattle.automata.specs.Sets.{Has}
use Rattle.automata.specs.Parts.{code_of}
use Rattle.automata.specs.declared.state_set.StateSet.{StateSet}
use Rattle.automata.proofs.Gathers.{Gathers, gather_goes, gather_skips}
use Rattle.automata.proofs.state_table.StateTable.after.Goals as goal
use Rattle.automata.proofs.state_table.StateTable.after.Goals.{then-has+then-not-exits, then-has+else-not-exits, else-has}

pub loop-state-preserved : goal.loop-state-preserved
loop-state-preserved c =
    let table = c.args.self.now in
    let state = c.loop-state.state in
    let start = c.empty-all.result.bits in
    let all = c.loop-state.all.bits in
    let to : ℕ → ℕ = λ s. next (code_of table s c.args.class) in
    let P : ℕ → Type 0 = λ s. (1 ≤ s) × Has c.args.set.bits s × (to s ≡ 0 → ⊥) in
    let Turned : StateSet → Type 0 = λ set. Gathers table.states P to start (state + 1) set.bits in
    elim c.if-has.branch [
      | then-has+then-not-exits w ↦
          let e = w.with-all.ensures in
          let x = ap next w.code-code.ensures.value in
          subst Turned (sym w.all-is)
          (gather_goes table.states P to start state all w.with-all.result.bits w.next.result c.loop-state-test.true (w.next.ensures.value ∙ x)
          (c.loop-state.auto.state, c.has.ensures.0 w.if-has.true, λ z. eqb-false _ 0 (sym w.exits.ensures ∙ w.if-not-exits.true) (x ∙ z))
          c.loop-state.invariant (e.grows, e.adds, e.keeps, e.only))
      | then-has+else-not-exits w ↦
          subst Turned (sym w.all-is)
          (gather_skips table.states P to start state all
          (λ p. p.2 (sym (ap next w.code-code.ensures.value) ∙ eqb-true _ 0 (sym w.exits.ensures ∙ w.if-not-exits.false))) c.loop-state.invariant)
      | else-has w ↦
          subst Turned (sym w.all-is)
          (gather_skips table.states P to start state all (λ p. both_ways _ w.if-has.false (c.has.ensures.1 p.1)) c.loop-state.invariant)
    ]
