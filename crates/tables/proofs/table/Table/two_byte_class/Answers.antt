use Rattle.std.proofs.Common.{◌≡◌, ℕ, ◌-◌, ◌<◌, true, cond, List, nat_abs, sym, ap, ◌∙◌, subst, arith}
use lib.Signed.{non_neg}
use Rattle.std.proofs.lemmas.Bool.{cond-true, cond-false}
use Rattle.tables.specs.Words.{signed8, even}
use Rattle.tables.specs.Classes.{entry, leads, even_class, odd_class, even_sound, odd_sound, two_class}
use Rattle.tables.specs.Checks.{Passes, checks}
use Rattle.tables.specs.Meaning.{bytes_of}
use Rattle.tables.proofs.Numbers.{byte_negative}
use Rattle.tables.proofs.Classed.{lead_of}
use Rattle.tables.proofs.Kept.{table_passes}
use Rattle.tables.proofs.table.Table.two_byte_class.Goals as goal

-- of a first byte x with the entry byte e, which is the entry -k, read from the slice s of a table's bytes b
module _ (b s : List ℕ) (x e k : ℕ) (p : Passes (checks b)) (same : s ≡ b) (lead : leads b x ≡ true) (is : signed8 e ≡ entry b x) (small : e < 256) (minus : k ≡ 256 - e) where
  k-is : k ≡ nat_abs (entry b x)
  k-is = minus ∙ sym (byte_negative e small (ap non_neg is ∙ (lead_of b p x lead).negative)).1 ∙ ap nat_abs is

  passes : Passes (checks s)
  passes = subst (λ (l : List ℕ). Passes (checks l)) (sym same) p

  under : cond (even k) (even_sound s k) (odd_sound s k) ≡ true
  under =
      ap (λ (l : List ℕ). cond (even k) (even_sound l k) (odd_sound l k)) same
      ∙ ap (λ (n : ℕ). cond (even n) (even_sound b n) (odd_sound b n)) k-is ∙ (lead_of b p x lead).under

  class-is : (y : ℕ) → nat_abs (cond (even k) (even_class s k y) (odd_class s k)) ≡ two_class b x y
  class-is y =
      ap (λ (l : List ℕ). nat_abs (cond (even k) (even_class l k y) (odd_class l k))) same
      ∙ ap (λ (n : ℕ). nat_abs (cond (even n) (even_class b n y) (odd_class b n))) k-is

pub odd_class-requires : goal.odd_class-requires
odd_class-requires c =
    let t = c.args.self.now in
    let small : c.entry.result < 256 = let o = c.entry.type_inv in omega arith in
    let n = c.new.ensures in
    let same = n.bytes ∙ c.parts-parts.ensures ∙ c.passed.ensures in
    let minus = n.k ∙ c.in-Odd.ensures.1 in (
      passes (bytes_of t) _ c.args.first c.entry.result c.new.result.k (table_passes t) same c.requires c.entry.ensures small minus,
      sym (cond-false _ _ _ (ap even n.k ∙ c.in-Odd.ensures.2)) ∙ under (bytes_of t) _ c.args.first c.entry.result c.new.result.k (table_passes t) same c.requires c.entry.ensures small minus,
    )

pub even_class-requires : goal.even_class-requires
even_class-requires c =
    let t = c.args.self.now in
    let small : c.entry.result < 256 = let o = c.entry.type_inv in omega arith in
    let n = c.new-in-Even.ensures in
    let same = n.bytes ∙ c.parts-parts.ensures ∙ c.passed.ensures in
    let minus = n.k ∙ c.in-Even.ensures.1 in (
      passes (bytes_of t) _ c.args.first c.entry.result c.new-in-Even.result.k (table_passes t) same c.requires c.entry.ensures small minus,
      sym (cond-true _ _ _ (ap even n.k ∙ c.in-Even.ensures.2)) ∙ under (bytes_of t) _ c.args.first c.entry.result c.new-in-Even.result.k (table_passes t) same c.requires c.entry.ensures small minus,
    )

pub returns-in-Odd : goal.returns-in-Odd
returns-in-Odd c =
    let t = c.args.self.now in
    let small : c.entry.result < 256 = let o = c.entry.type_inv in omega arith in
    let n = c.new.ensures in
    let same = n.bytes ∙ c.parts-parts.ensures ∙ c.passed.ensures in
    c.odd_class.ensures ∙ ap nat_abs (sym (cond-false _ _ _ (ap even n.k ∙ c.in-Odd.ensures.2)))
    ∙ class-is (bytes_of t) _ c.args.first c.entry.result c.new.result.k (table_passes t) same c.requires c.entry.ensures small (n.k ∙ c.in-Odd.ensures.1) c.args.second

pub returns-in-Even : goal.returns-in-Even
returns-in-Even c =
    let t = c.args.self.now in
    let small : c.entry.result < 256 = let o = c.entry.type_inv in omega arith in
    let n = c.new-in-Even.ensures in
    let same = n.bytes ∙ c.parts-parts.ensures ∙ c.passed.ensures in
    c.even_class.ensures ∙ ap nat_abs (sym (cond-true _ (even_class c.new-in-Even.result.parts.bytes.now c.new-in-Even.result.k c.args.second) (odd_class c.new-in-Even.result.parts.bytes.now c.new-in-Even.result.k) (ap even n.k ∙ c.in-Even.ensures.2)))
    ∙ class-is (bytes_of t) _ c.args.first c.entry.result c.new-in-Even.result.k (table_passes t) same c.requires c.entry.ensures small (n.k ∙ c.in-Even.ensures.1) c.args.second
