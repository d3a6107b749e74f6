use Rattle.std.proofs.Common.{ℕ, refl, rules}
use borrow.Author.Tests.{tests}
use Rattle.automata.specs.Check.{ShakyIn}
use Rattle.automata.proofs.Searches.{least_number}
use Rattle.automata.proofs.state_table.steady.ExitCheck.first_shaky.Goals as goal

pub returns : goal.returns
returns c =
    let P : ℕ → Type 0 = ShakyIn c.args.self.now.check c.args.self.now.late.bits c.args.state in
    least_number _ _ _ c.find.result P refl c.find.ensures.ran (λ x q k. search (rules, tests)) (λ x q k. search (rules, tests)) (λ k p. p.0)
