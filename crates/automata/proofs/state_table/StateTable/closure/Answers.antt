use Rattle.std.proofs.Common.{◌≡◌, ℕ, subst, rules}
use Rattle.automata.specs.Sets.{Has}
use Rattle.automata.specs.Parts.{code_of}
use Rattle.automata.proofs.Tables.{next_within}
use Rattle.automata.proofs.Rows.{stays, from_from}
use Rattle.automata.proofs.state_table.StateTable.closure.Goals as goal

pub returns-then-eq : goal.returns-then-eq
returns-then-eq c =
    let table = c.args.self.now in
    let same : c.pass-more.result.bits ≡ c.loop-more.set.bits = search rules in
    record {
      sound = c.loop-more.invariant.1;
      complete = λ k f.
          let i = c.requires f.0 f.1 in
          stays c.args.quiet (code_of table) table.classes table.states (next_within table) c.loop-more.set.bits
          (λ s lo hi h r t. subst (λ (n : ℕ). Has n r) same (c.pass-more.ensures.adds s lo hi h r t))
          f.0 f.2.0 k i.0 i.1 (c.loop-more.invariant.0 f.0 f.1) f.2.1;
    }

pub loop-more-preserved : goal.loop-more-preserved
loop-more-preserved c =
    let table = c.args.self.now in (
      λ k h. c.pass-more.ensures.keeps k (c.loop-more.invariant.0 k h),
      λ k h. from_from c.args.quiet (code_of table) table.classes c.args.start.bits c.loop-more.set.bits c.loop-more.invariant.1 k (c.pass-more.ensures.only k h),
    )
