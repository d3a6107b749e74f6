use Rattle.std.proofs.Common.{◌≡◌, ℕ, false, List, ℤ, pos, nat_abs, sym, ap, ◌∙◌, arith, w16, SFits, to_z, of_z, rules}
use lib.Signed.{non_neg, le_z}
use Rattle.std.proofs.lemmas.Bool.{cond-false}
use Rattle.tables.specs.Words.{word}
use Rattle.tables.specs.Layout.{auxiliary}
use Rattle.tables.specs.Classes.{shared}
use Rattle.tables.proofs.Heads.{head}
use Rattle.tables.proofs.Tabled.{header_passes}
use Rattle.tables.proofs.Classed.{odd_own}
use Rattle.tables.proofs.Numbers.{ge0_whole, absolute}
use Rattle.tables.proofs.lead.Lead.odd_class.Goals as goal

-- the word that all first bytes share is negative, where the code finds it so
shared-below : (b : List ℕ) (at : ℕ) (w : ℤ) → w ≡ word b at → at ≡ auxiliary b → SFits w16 w → le_z (pos 0) (to_z w16 (of_z w16 w)) ≡ false → non_neg (shared b) ≡ false
shared-below b at w is e f p = ap non_neg (sym (is ∙ ap (word b) e)) ∙ sym (ge0_whole w f) ∙ p

pub word-requires : goal.word-requires
word-requires c =
    let b = c.args.self.now.parts.bytes.now in
    let f : SFits w16 c.word-shared.result = search rules in
    let neg = shared-below b _ _ c.word-shared.ensures c.auxiliary_place.ensures.value f c.if-shared-ge0.false in
    let own = odd_own b c.requires.0 c.args.self.now.k c.requires.1 neg in
    let is = c.own_class_place.ensures.value in
    let whole = (head b (header_passes b c.requires.0)).size_high in
    omega arith

pub returns-else-shared-ge0 : goal.returns-else-shared-ge0
returns-else-shared-ge0 c =
    let b = c.args.self.now.parts.bytes.now in
    let f : SFits w16 c.word-shared.result = search rules in
    let g : SFits w16 c.word.result = search rules in
    let neg = shared-below b _ _ c.word-shared.ensures c.auxiliary_place.ensures.value f c.if-shared-ge0.false in
    c.magnitude-else-shared-ge0.ensures.value ∙ absolute _ _ g (c.word.ensures ∙ ap (word b) c.own_class_place.ensures.value)
    ∙ ap nat_abs (sym (cond-false (non_neg (shared b)) _ _ neg))
