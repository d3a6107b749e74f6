use Rattle.std.proofs.Common.{ℕ, ◌+◌, sym, ap, ◌∙◌, subst}
use Rattle.std.proofs.lemmas.Bool.{both_ways}
use Rattle.automata.specs.Machine.{next}
use Rattle.automata.specs.Parts.{code_of}
use Rattle.automata.specs.Check.{SpoilsIn}
use Rattle.automata.specs.declared.state_set.StateSet.{StateSet}
use Rattle.automata.proofs.Gathers.{Gathers, gather_goes, gather_skips}
use Rattle.automata.proofs.state_table.steady.SteadyCheck.spread_spoilt.Goals as goal
use Rattle.automata.proofs.state_table.steady.SteadyCheck.spread_spoilt.Goals.{then-spoils, else-spoils}

pub loop-class-preserved : goal.loop-class-preserved
loop-class-preserved c =
    let check = c.args.self.now in
    let table = check.table in
    let C = table.classes in
    let class = c.loop-class.class in
    let start = c.args.set.bits in
    let all = c.loop-class.all.bits in
    let P : ℕ → Type 0 = SpoilsIn check c.args.to in
    let to : ℕ → ℕ = λ d. next (code_of table c.args.to d) in
    let Turned : StateSet → Type 0 = λ set. Gathers C P to start (class + 1) set.bits in
    elim c.if-spoils.branch [
      | then-spoils w ↦
          let e = w.with-all.ensures in
          subst Turned (sym w.all-is)
          (gather_goes C P to start class all w.with-all.result.bits w.next.result c.loop-class-test.true (w.next.ensures.value ∙ ap next w.code.ensures.value)
          (c.spoils.ensures.0 w.if-spoils.true) c.loop-class.invariant (e.grows, e.adds, e.keeps, e.only))
      | else-spoils w ↦
          subst Turned (sym w.all-is)
          (gather_skips C P to start class all (λ p. both_ways _ w.if-spoils.false (c.spoils.ensures.1 p)) c.loop-class.invariant)
    ]
