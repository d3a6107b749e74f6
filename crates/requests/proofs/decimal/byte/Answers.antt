use Rattle.std.proofs.Common.{ℕ, ◌<◌, arith, rules}
use Rattle.requests.specs.Decimals.{Decimal}
use Rattle.requests.proofs.decimal.byte.Goals as goal

pub returns-in_err-number : goal.returns-in_err-number
returns-in_err-number c =
    let none : (n : ℕ) → n < 256 → Decimal c.args.word.now n → ⊥ = λ n low d. c.in_err-number.ensures n (omega arith) d in
    search rules
