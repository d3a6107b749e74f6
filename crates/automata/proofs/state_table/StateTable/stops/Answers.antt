use Rattle.std.proofs.Common.{ℕ, rules}
use borrow.Author.Tests.{tests}
use Rattle.automata.specs.Sets.{Has}
use Rattle.automata.specs.Sure.{Ends}
use Rattle.automata.specs.Parts.{code_of}
use Rattle.automata.proofs.Searches.{all_numbers}
use Rattle.automata.proofs.state_table.StateTable.stops.Goals as goal

pub returns : goal.returns
returns c =
    let table = c.args.self.now in
    let P : ℕ → Type 0 = λ s. Has c.args.set.bits s → Ends (code_of table s c.args.class) in
    let d = all_numbers _ _ _ P c.all.result c.all.ensures.ran (λ x q k. search (rules, tests)) (λ x q k. search (rules, tests)) in
    (λ e s lo hi. d.0 e s lo hi, λ f. d.1 (λ s lo hi. f s lo hi))
