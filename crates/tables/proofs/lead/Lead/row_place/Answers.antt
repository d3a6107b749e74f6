use Rattle.std.proofs.Common.{◌≡◌, ℕ, ◌+◌, ◌≤◌, List, length, ℤ, nat_abs, IfSome, is_some, None, Some, Option, sym, ap, ◌∙◌, arith, w32, SFits, rules}
use Rattle.std.proofs.lemmas.Int.{to_z-of_z}
use Rattle.tables.specs.Layout.{size, fits}
use Rattle.tables.proofs.Numbers.{fits_inside}
use Rattle.tables.proofs.Heads.{head}
use Rattle.tables.proofs.lead.Lead.row_place.Goals as goal

-- a row that lies inside the table, as the code asks, lies inside the bytes
inside : (b h : List ℕ) (z w : ℤ) (r : Option ℕ) → h ≡ b → z ≡ w → size b ≤ length b
    → is_some r ≡ fits h z 256 → IfSome r (λ at. at ≡ nat_abs z) → IfSome r (λ at. (at ≡ nat_abs w) × (at + 256 ≤ length b))
inside b h z w None e is whole f p = p
inside b h z w (Some at) e is whole f p =
    let there : at ≡ nat_abs w = p ∙ ap nat_abs is in
    let end = fits_inside b w 256 (ap (λ (x : ℤ). fits b x 256) (sym is) ∙ ap (λ (l : List ℕ). fits l z 256) (sym e) ∙ sym f) in
    (there, omega arith)

pub returns-clause-place : goal.returns-clause-place
returns-clause-place c =
    let b = c.args.self.now.parts.bytes.now in
    let f : SFits w32 c.signed_row_place.result = search rules in
    inside b _ _ _ c.inside.result c.head.ensures (to_z-of_z w32 _ f ∙ c.signed_row_place.ensures) (head b c.args.self.now.parts.sound).size_high c.inside.ensures.fits c.inside.ensures.place
