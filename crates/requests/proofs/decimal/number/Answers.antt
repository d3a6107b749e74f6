use Rattle.std.proofs.Common.{◌≡◌, ℕ, ◌^◌, ◌<◌, get_or, Option, sym, arith, subst, rules, MatchOption}
use Rattle.std.proofs.lemmas.Str.Pattern.{starts_char}
use Rattle.requests.specs.Decimals.{Decimal}
use Rattle.requests.proofs.Numerals.{read_plain}
use Rattle.requests.proofs.decimal.number.Goals as goal

pub returns : goal.returns
returns c =
    let word = c.args.word.now in
    let starts = starts_char 43 word c.starts_with.result c.starts_with.ensures.cases (omega arith) (omega arith) in
    let plain : get_or word 0 0 ≡ 43 → ⊥ = λ e. let yes = starts.1 e in let not = c.if-starts_with.false in search rules in
    let read = read_plain word c.parse.result c.parse.ensures.value.0 plain in
    subst (λ (r : Option ℕ). MatchOption r ((n : ℕ) → n < 2 ^ 64 → Decimal c.args.word.now n → ⊥) (Decimal c.args.word.now)) (sym c.ok.ensures.value) read
