use Rattle.std.proofs.Common.{◌≡◌, ℕ, ◌+◌, ◌≤◌, ℤ, pos, ◌+ℤ◌, ap, ◌∙◌, arith, w16, w32, SFits, to_z, of_z, rules}
use Rattle.std.proofs.lemmas.Int.{ints}
use Rattle.tables.specs.Words.{word}
use Rattle.tables.proofs.lead.Lead.signed_row_place.Goals as goal

-- the sum fits, so that it is that of the numbers
plain : (at : ℕ) (w r : ℤ) → at ≤ 32768 → SFits w16 w → r ≡ to_z w16 (of_z w16 w)
    → to_z w32 (of_z w32 (to_z w32 at +ℤ to_z w32 (of_z w32 r))) ≡ pos at +ℤ w
plain at w r h f e = omega (arith, ints)

pub returns : goal.returns
returns c =
    let b = c.args.self.now.parts.bytes.now in
    let f : SFits w16 c.word.result = search rules in
    let at = c.auxiliary_place-at.ensures.value in
    plain c.auxiliary_place-at.result c.word.result c.from.result c.auxiliary_place-at.ensures.low f c.from.ensures
    ∙ ap (λ (z : ℤ). pos c.auxiliary_place-at.result +ℤ z) c.word.ensures
    ∙ ap (λ (n : ℕ). pos n +ℤ word b (n + c.args.self.now.k)) at
