use Rattle.std.proofs.Common.{rules}
use borrow.Author.Tests.{tests}
use Rattle.automata.specs.Check.{ShakyIn}
use Rattle.automata.proofs.Stucks.{least_code}
use Rattle.automata.proofs.state_table.steady.ExitCheck.first_shaky_code.Goals as goal

pub returns-clause-least : goal.returns-clause-least
returns-clause-least c =
    let check = c.args.self.now.check in
    least_code (ShakyIn check c.args.self.now.late.bits) check.table.states check.table.classes c.first_code.result c.first_code.ensures.first
    (λ s r lo hi g. search (rules, tests)) (λ s d p. p.0)
