use Rattle.std.proofs.Common.{inl, inr, arith, below_more}
use Rattle.automata.proofs.state_table.steady.SteadyCheck.spoilt.Goals as goal

pub loop-state-preserved : goal.loop-state-preserved
loop-state-preserved c =
    let e = c.spread_spoilt-all.ensures in (
      below_more _ _ (λ t lt lo k p. e.keeps k (c.loop-state.invariant.0 t lt lo k p)) (λ lo k p. e.adds k p),
      λ k h. elim (e.only k h) [
        | inl o ↦ c.loop-state.invariant.1 k o
        | inr p ↦ (c.loop-state.state, c.loop-state.auto.state, c.loop-state-test.true, p)
      ],
    )

pub returns : goal.returns
returns c =
    record {
      sound = c.loop-state.invariant.1;
      complete = λ k p. c.loop-state.invariant.0 p.0 (omega arith) p.1 k p.3;
    }
