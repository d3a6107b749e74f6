use Rattle.std.proofs.Common.{◌≡◌, ℕ, get_or, sym, ap, ◌∙◌, arith}
use Rattle.std.proofs.lemmas.Option.{gets}
use Rattle.std.proofs.lemmas.Bool.{le-ltb}
use Rattle.automata.proofs.Digits.{set_in, unset_past}
use Rattle.automata.proofs.sure_pairs.SurePairs.has.Goals as goal

pub returns-else-b-lt128 : goal.returns-else-b-lt128
returns-else-b-lt128 c =
    let is : c.unwrap_or-row.result ≡ get_or c.args.self.now.rows c.args.a 0 = grind (arith, gets) in
    le-ltb _ _ c.if-b-lt128.false ∙ sym (unset_past c.unwrap_or-row.result 128 c.args.b (omega (arith, c.unwrap_or-row.type_inv)) c.if-b-lt128.false) ∙ ap (λ (n : ℕ). set_in n c.args.b) is
