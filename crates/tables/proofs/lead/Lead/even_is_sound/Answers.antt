use Rattle.std.proofs.Common.{◌≡◌, ℕ, ◌+◌, ◌≤◌, Bool, ◌&&◌, List, take, drop, ℤ, pos, sym, ap, ◌∙◌, arith, w32, to_z}
use Rattle.tables.specs.Words.{byte}
use Rattle.tables.specs.Layout.{fits, auxiliary}
use Rattle.tables.specs.Classes.{is_class, every, row_start, even_class}
use Rattle.tables.proofs.Heads.{head}
use Rattle.tables.proofs.Numbers.{fits_inside, place_bits}
use Rattle.tables.proofs.lead.Lead.even_is_sound.Goals as goal

-- whether the word that leads to the row lies inside, as the code asks
word-fits : (b h : List ℕ) (at k : ℕ) → h ≡ b → at ≡ auxiliary b → at ≤ 32768 → k ≤ 128 → fits h (to_z w32 (at + k)) 2 ≡ fits b (pos (auxiliary b + k)) 2
word-fits b h at k e is low m =
    ap (λ (l : List ℕ). fits l (to_z w32 (at + k)) 2) e ∙ ap (λ (z : ℤ). fits b z 2) (place_bits (at + k) (omega arith) ∙ ap (λ (n : ℕ). pos (n + k)) is)

pub row_place-requires : goal.row_place-requires
row_place-requires c =
    let b = c.args.self.now.parts.bytes.now in
    let k = c.args.self.now.k in
    let at = c.auxiliary_place.ensures in
    let first = sym (word-fits b _ _ k c.head.ensures at.value at.low c.args.self.now.high) ∙ sym c.fits.ensures ∙ c.if-not-fits.false in
    let in_table = fits_inside b (pos (auxiliary b + k)) 2 first in
    let whole = (head b c.args.self.now.parts.sound).size_high in
    omega arith

pub returns : goal.returns
returns c =
    let b = c.args.self.now.parts.bytes.now in
    let k = c.args.self.now.k in
    let e = c.in-Some.ensures in
    let at = c.auxiliary_place.ensures in
    let first = sym (word-fits b _ _ k c.head.ensures at.value at.low c.args.self.now.high) ∙ sym c.fits.ensures ∙ c.if-not-fits.false in
    c.row_is_sound.ensures ∙ ap (λ (s : ℕ). every (λ y. is_class b (byte (take 256 (drop s b)) y)) 256) e.place.0
    ∙ ap (λ (t : Bool). t && every (λ y. is_class b (even_class b k y)) 256) e.fits
    ∙ ap (λ (t : Bool). t && (fits b (row_start b k) 256 && every (λ y. is_class b (even_class b k y)) 256)) (sym first)
