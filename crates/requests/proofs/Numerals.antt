-- What `parse` reads, in the words of the contracts.
use Rattle.std.proofs.Common.{◌≡◌, ℕ, ◌^◌, ◌<◌, true, List, length, get_or, Ok, Err, Result, subst, MatchOption}
use Rattle.std.specs.Result.{OkIff, result_ok}
use Rattle.std.specs.Str.Parse.{digits_value, ParsesUnsigned}
use Rattle.std.specs.Str.{all_ascii_digits}
use Rattle.std.proofs.lemmas.Str.Parse.{IsNumeralModel, numerals_by_value, tells_all_ascii_digits, parse_plain}
use Rattle.requests.specs.Decimals.{Decimal}

own : IsNumeralModel (λ ds. all_ascii_digits ds ≡ true) (digits_value 10)
own = numerals_by_value _ tells_all_ascii_digits

told : {E : Type 0} (word : List ℕ) (r : Result ℕ E) → OkIff r ((all_ascii_digits word ≡ true) × (0 < length word) × (digits_value 10 word < 2 ^ 64)) (digits_value 10 word)
    → MatchOption (result_ok r) ((n : ℕ) → n < 2 ^ 64 → Decimal word n → ⊥) (Decimal word)
told word (Ok x) c = record { digits = c.0.0; some = c.0.1; is = c.1 }
told word (Err e) c = λ n low d. c (d.digits, d.some, subst (λ (k : ℕ). k < 2 ^ 64) d.is low)

-- what is read of a word with no plus in front
pub read_plain : {E : Type 0} (word : List ℕ) (r : Result ℕ E) → ParsesUnsigned 64 10 word r → (get_or word 0 0 ≡ 43 → ⊥)
    → MatchOption (result_ok r) ((n : ℕ) → n < 2 ^ 64 → Decimal word n → ⊥) (Decimal word)
read_plain word r h plain = told word r (parse_plain own 64 word r h plain)
