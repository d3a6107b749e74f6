use Rattle.std.proofs.Common.{ℕ, ◌∙◌, sym, subst, arith}
use Rattle.std.proofs.lemmas.List.{length-set}
use Rattle.automata.specs.Sure.{HaltsIn}
use Rattle.automata.specs.Parts.{code_of}
use Rattle.automata.proofs.Tables.{next_within}
use Rattle.automata.proofs.Digits.{HasRow, FilledRows, rows_filled, each_set}
use Rattle.automata.proofs.Sures.{sure_where_halts}
use Rattle.automata.proofs.state_table.StateTable.sure_pairs.Goals as goal

pub loop-a-preserved : goal.loop-a-preserved
loop-a-preserved c =
    let table = c.args.self.now in
    let Right : ℕ → ℕ → Type 0 = HasRow (HaltsIn (code_of table) table.states c.reach-reached.result.bits) table.classes in
    let rows = c.loop-a.row-items in
    let i = c.loop-a.a in
    let row = c.halt_row.ensures in
    (length-set rows i _ ∙ c.loop-a.invariant.0, each_set Right rows i c.halt_row.result (omega (arith, c.loop-a.invariant.0)) c.loop-a.invariant.1 (row.within, row.beyond, row.none))

pub returns : goal.returns
returns c =
    let table = c.args.self.now in
    let reached = c.reach-reached.ensures in
    let Halts : ℕ → ℕ → Type 0 = HaltsIn (code_of table) table.states c.reach-reached.result.bits in
    let rows = subst (FilledRows Halts table.classes) (sym c.new.ensures)
    (rows_filled Halts table.classes c.loop-a.row-items (omega (arith, table.few)) c.loop-a.invariant.0 (λ a lt. c.loop-a.invariant.1 a (omega arith))) in
    record {
      sure = λ a b ha hb.
          sure_where_halts (code_of table) table.states table.classes table.low (next_within table)
          c.reach-reached.result.bits reached.sound reached.complete _ a b (rows.0 a b ha hb);
      first = rows.1;
      second = rows.2;
    }
