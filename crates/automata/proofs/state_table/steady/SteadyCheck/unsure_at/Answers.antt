use Rattle.std.proofs.Common.{ℕ, rules}
use borrow.Author.Tests.{tests}
use Rattle.automata.specs.Sets.{Has}
use Rattle.automata.specs.Check.{EntersIn}
use Rattle.automata.proofs.Searches.{any_number}
use Rattle.automata.proofs.state_table.steady.SteadyCheck.unsure_at.Goals as goal

pub returns : goal.returns
returns c =
    let check = c.args.self.now in
    let P : ℕ → Type 0 = λ s. Has check.reached.bits s × EntersIn check c.args.to c.args.class s in
    let d = any_number _ _ _ P c.any.result c.any.ensures.ran (λ x q k. search (rules, tests)) (λ x q k. search (rules, tests)) in
    (λ e. let p = d.0 e in (p.0, p.1, p.2, p.3.0, p.3.1), λ u. d.1 (u.0, u.1, u.2, (u.3, u.4)))
