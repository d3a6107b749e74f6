use Rattle.std.proofs.Common.{◌≡◌, ℕ, ◌+◌, ◌<◌, ◌≤◌, length, get_or, drop, nat_abs, Some, Option, IfSome, sym, ap, ◌∙◌, subst, arith}
use lib.Signed.{non_neg}
use Rattle.std.proofs.lemmas.List.{get_or-take, get_or-drop}
use Rattle.tables.specs.Words.{signed8}
use Rattle.tables.specs.Classes.{row_start, row_bytes}
use Rattle.tables.proofs.Numbers.{byte_above, byte_whole}
use Rattle.tables.proofs.Heads.{head}
use Rattle.tables.proofs.Tabled.{header_passes}
use Rattle.tables.proofs.Classed.{even_word, even_row, even_whole}
use Rattle.tables.proofs.lead.Lead.even_class.Goals as goal

pub row_place-requires : goal.row_place-requires
row_place-requires c =
    let b = c.args.self.now.parts.bytes.now in
    let p = c.requires.0 in
    let word = even_word b p c.args.self.now.k c.requires.1 in
    let whole = (head b (header_passes b p)).size_high in
    omega arith

pub unwrap-at-requires : goal.unwrap-at-requires
unwrap-at-requires c =
    c.row_place.ensures.fits ∙ even_row c.args.self.now.parts.bytes.now c.requires.0 c.args.self.now.k c.requires.1

-- what is said of a place that is told is said of the one taken out
taken : (o : Option ℕ) (at : ℕ) (P : ℕ → Type 0) → o ≡ Some at → IfSome o P → P at
taken o at P e p = subst (λ (x : Option ℕ). IfSome x P) e p

pub returns : goal.returns
returns c =
    let b = c.args.self.now.parts.bytes.now in
    let k = c.args.self.now.k in
    let y = c.args.second in
    let at = (taken c.row_place.result c.unwrap-at.result (λ at. (at ≡ nat_abs (row_start b k)) × (at + 256 ≤ length b)) c.unwrap-at.ensures c.row_place.ensures.place).0 in
    let f = c.ranges.second in
    let lt : y < 256 = omega arith in
    let x = get_or b (c.unwrap-at.result + y) 0 in
    let there : get_or (row_bytes b k) y 0 ≡ x =
    get_or-take 256 (drop (nat_abs (row_start b k)) b) y 0 lt ∙ get_or-drop (nat_abs (row_start b k)) b y 0 ∙ ap (λ (n : ℕ). get_or b (n + y) 0) (sym at) in
    let read : c.byte.result ≡ x = c.byte.ensures ∙ ap (λ (n : ℕ). get_or b (c.unwrap-at.result + n) 0) c.from.ensures in
    let small = c.byte.type_inv in
    let whole : non_neg (signed8 x) ≡ _ = ap (λ (n : ℕ). non_neg (signed8 n)) (sym there) ∙ even_whole b c.requires.0 k y c.requires.1 lt in
    c.from-2.ensures ∙ read ∙ sym (ap (λ (n : ℕ). nat_abs (signed8 n)) there ∙ ap nat_abs (byte_above x (byte_whole x (omega arith) whole)))
