use Rattle.std.proofs.Common.{rules}
use borrow.Author.Tests.{tests}
use Rattle.automata.specs.Stuck.{QuitsOn}
use Rattle.automata.specs.Parts.{code_of}
use Rattle.automata.proofs.Stucks.{least_code, least_same}
use Rattle.automata.proofs.state_table.StateTable.first_quit.Goals as goal

pub returns-clause-least : goal.returns-clause-least
returns-clause-least c =
    let table = c.args.self.now in
    least_same _ _ (λ k q. (q.0, q.1, q.2, q.3, q.4.0, q.4.1, q.5)) (λ k q. (q.0, q.1, q.2, q.3, (q.4, q.5), q.6)) c.first_code.result
    (least_code (QuitsOn (code_of table) table.classes c.args.set.bits) table.states table.classes c.first_code.result c.first_code.ensures.first
    (λ s r lo hi g. search (rules, tests)) (λ s d p. p.1.0))
