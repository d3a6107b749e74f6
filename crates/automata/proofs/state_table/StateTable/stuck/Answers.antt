use Rattle.std.proofs.Common.{◌-◌, false, arith, rules}
use Rattle.std.proofs.lemmas.Nat.{mul-add-lt}
use Rattle.automata.specs.Stuck.{ExitsOn}
use Rattle.automata.specs.Parts.{code_of}
use Rattle.automata.proofs.Tables.{next_within}
use Rattle.automata.proofs.Stucks.{first_stuck, first_least, stuck_least}
use Rattle.automata.proofs.state_table.StateTable.stuck.Goals as goal

pub returns-in-Some : goal.returns-in-Some
returns-in-Some c =
    let table = c.args.self.now in
    let e = c.in-Some.ensures in
    let x : ExitsOn false (code_of table) table.classes 1 c.in-Some.class = (e.0.0, (e.0.1.0, search rules)) in
    let first = mul-add-lt 0 table.classes c.in-Some.class (table.states - 1) (omega (arith, table.low)) e.0.0 in
    record {
      least = (
        first_stuck (code_of table) table.classes c.in-Some.class x,
        first_least (code_of table) table.classes c.in-Some.class e.0.0 (λ d y. e.1 d (y.0, (y.1.0, search rules))),
      );
      within = omega arith;
    }

pub returns : goal.returns
returns c =
    let table = c.args.self.now in
    let e = c.spread-after.ensures in
    let f = c.closure-set.ensures in
    record {
      least =
          stuck_least (code_of table) table.states table.classes c.spread-after.result.bits c.empty.result.bits table.low (next_within table) c.empty.ensures e.adds e.only
          c.closure-set.result.bits f.sound f.complete c.in_default.ensures
          c.first_quit.result c.first_quit.ensures.least;
      within = c.first_quit.ensures.within;
    }
