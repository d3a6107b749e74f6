use Rattle.automata.specs.Parts.{code_of}
use Rattle.automata.proofs.Tables.{next_within}
use Rattle.automata.proofs.Sures.{halts_where_stops}
use Rattle.automata.proofs.state_table.StateTable.halt_row.Goals as goal

pub returns-clause-within : goal.returns-clause-within
returns-clause-within c lt b le =
    let table = c.args.self.now in
    halts_where_stops (code_of table) table.states table.classes c.args.set.bits c.args.a (next_within table) lt
    c.after.result.bits c.after.ensures.sound c.after.ensures.complete _ b (c.stop_row.ensures.within b le)
