use Rattle.std.proofs.Common.{ℕ, true, rules}
use Rattle.automata.specs.Sets.{Has}
use Rattle.automata.specs.Reach.{From}
use Rattle.automata.specs.Sure.{holds}
use Rattle.automata.specs.Parts.{code_of}
use Rattle.automata.proofs.Tables.{next_within}
use Rattle.automata.proofs.Unsteadies.{unsteady_least}
use Rattle.automata.proofs.state_table.StateTable.unsteady.Goals as goal

pub returns : goal.returns
returns c =
    let table = c.args.self.now in
    let reached = c.reach.ensures in
    let after = c.spoilt-after.ensures in
    let late = c.closure-late.result.bits in
    let late-sound : (k : ℕ) → Has late k → From true (code_of table) table.classes c.spoilt-after.result.bits k = search rules in
    let late-complete : (k : ℕ) → From true (code_of table) table.classes c.spoilt-after.result.bits k → Has late k = search rules in
    record {
      least =
          unsteady_least (code_of table) table.states table.classes (holds c.args.sure.now.rows) table.low (next_within table)
          c.reach.result.bits c.spoilt-after.result.bits after.sound reached.sound reached.complete after.complete
          late late-sound late-complete c.first_shaky_code.result c.first_shaky_code.ensures.least;
      within = c.first_shaky_code.ensures.within;
    }
