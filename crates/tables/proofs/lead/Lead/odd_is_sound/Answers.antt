use Rattle.std.proofs.Common.{◌≡◌, ℕ, ◌≤◌, Bool, true, false, ◌&&◌, List, ℤ, pos, sym, ap, ◌∙◌, arith, w16, w32, SFits, to_z, of_z, rules}
use lib.Signed.{non_neg, le_z}
use Rattle.std.proofs.lemmas.Bool.{cond-true, cond-false}
use Rattle.std.proofs.lemmas.Int.{to_z-of_z}
use Rattle.tables.specs.Words.{word}
use Rattle.tables.specs.Layout.{fits, auxiliary}
use Rattle.tables.specs.Classes.{is_class, own_place, shared}
use Rattle.tables.proofs.Heads.{head}
use Rattle.tables.proofs.Numbers.{fits_inside, ge0_whole, place_bits}
use Rattle.tables.proofs.lead.Lead.odd_is_sound.Goals as goal

-- the test of the word that all first bytes share
sign : (b : List ℕ) (at : ℕ) (w : ℤ) (t : Bool) → w ≡ word b at → at ≡ auxiliary b → SFits w16 w → le_z (pos 0) (to_z w16 (of_z w16 w)) ≡ t → non_neg (shared b) ≡ t
sign b at w t is e f p = ap non_neg (sym (is ∙ ap (word b) e)) ∙ sym (ge0_whole w f) ∙ p

pub returns-then-shared-ge0 : goal.returns-then-shared-ge0
returns-then-shared-ge0 c =
    let b = c.args.self.now.parts.bytes.now in
    let f : SFits w16 c.word-shared.result = search rules in
    let at = c.auxiliary_place.ensures.value in
    c.is_class.ensures ∙ ap (is_class b) (to_z-of_z w16 _ f ∙ c.word-shared.ensures ∙ ap (word b) at)
    ∙ sym (cond-true _ _ _ (sign b _ _ true c.word-shared.ensures at f c.if-shared-ge0.true))

-- whether the class's own word lies inside, as the code asks
own-fits : (b h : List ℕ) (own k : ℕ) → h ≡ b → own ≡ own_place b k → own ≤ 66000 → fits h (to_z w32 own) 2 ≡ fits b (pos (own_place b k)) 2
own-fits b h own k e is low = ap (λ (l : List ℕ). fits l (to_z w32 own) 2) e ∙ ap (λ (z : ℤ). fits b z 2) (place_bits own (omega arith) ∙ ap pos is)

pub word-requires : goal.word-requires
word-requires c =
    let b = c.args.self.now.parts.bytes.now in
    let own = c.own_class_place-own.ensures in
    let is = own.value in
    let inside = fits_inside b (pos (own_place b c.args.self.now.k)) 2 (sym (own-fits b _ _ c.args.self.now.k c.head.ensures own.value own.low) ∙ sym c.fits.ensures ∙ c.if-fits.true) in
    let whole = (head b c.args.self.now.parts.sound).size_high in
    omega arith

pub returns-then-fits : goal.returns-then-fits
returns-then-fits c =
    let b = c.args.self.now.parts.bytes.now in
    let k = c.args.self.now.k in
    let f : SFits w16 c.word-shared.result = search rules in
    let g : SFits w16 c.word.result = search rules in
    let own = c.own_class_place-own.ensures in
    let first = sym (own-fits b _ _ k c.head.ensures own.value own.low) ∙ sym c.fits.ensures ∙ c.if-fits.true in
    c.is_class-then-fits.ensures ∙ ap (is_class b) (to_z-of_z w16 _ g ∙ c.word.ensures ∙ ap (word b) own.value)
    ∙ ap (λ (t : Bool). t && is_class b (word b (own_place b k))) (sym first)
    ∙ sym (cond-false _ _ _ (sign b _ _ false c.word-shared.ensures c.auxiliary_place.ensures.value f c.if-shared-ge0.false))

pub returns-else-fits : goal.returns-else-fits
returns-else-fits c =
    let b = c.args.self.now.parts.bytes.now in
    let k = c.args.self.now.k in
    let f : SFits w16 c.word-shared.result = search rules in
    let own = c.own_class_place-own.ensures in
    let first = sym (own-fits b _ _ k c.head.ensures own.value own.low) ∙ sym c.fits.ensures ∙ c.if-fits.false in
    c.if-fits.false
    ∙ ap (λ (t : Bool). t && is_class b (word b (own_place b k))) (sym first)
    ∙ sym (cond-false _ _ _ (sign b _ _ false c.word-shared.ensures c.auxiliary_place.ensures.value f c.if-shared-ge0.false))
