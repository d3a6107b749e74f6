use Rattle.std.proofs.Common.{◌≡◌, ℕ, Bool, true, false, not, ◌||◌, List, [], ◌∷◌, length, leb, get_or, ℤ, Some, sym, ap, ◌∙◌, w16, SFits, to_z, of_z, rules}
use Rattle.std.proofs.lemmas.Bool.{cond-true, cond-false, le-leb}
use Rattle.std.proofs.lemmas.Int.{to_z-of_z}
use Rattle.std.proofs.lemmas.Result.{err_from_is_err_and}
use Rattle.refusals.specs.declared.Refusal.{Refusal}
use Rattle.refusals.specs.declared.Refusal.TheVariants.{OffsetOutside}
use Rattle.tables.specs.Words.{word, within}
use Rattle.tables.specs.Layout.{fits, two_byte}
use Rattle.tables.specs.Checks.{Check, first_failed, header_checks}
use Rattle.tables.proofs.parts.Parts.check.Goals as goal

-- the last check of a header
abbrev last : List ℕ → List Check
last b = (not (two_byte b) || fits b (word b 6) 2, OffsetOutside 6) ∷ []

-- the header h is that of the bytes b
module _ (b h : List ℕ) (same : h ≡ b) where
  fits-here : (field need : ℕ) → fits h (word h field) need ≡ true → fits b (word b field) need ≡ true
  fits-here field need t = ap (λ (l : List ℕ). fits l (word l field) need) (sym same) ∙ t

  auxiliary-here : (t : Bool) → (not (two_byte h) || fits h (word h 6) 2) ≡ t → (not (two_byte b) || fits b (word b 6) 2) ≡ t
  auxiliary-here t e = ap (λ (l : List ℕ). not (two_byte l) || fits l (word l 6) 2) (sym same) ∙ e

  length-here : (w : ℤ) (r : Bool) → w ≡ word h 14 → SFits w16 w → r ≡ within (to_z w16 (of_z w16 w)) 272 (length b) → r ≡ true → within (word b 14) 272 (length b) ≡ true
  length-here w r is f e t = ap (λ (z : ℤ). within z 272 (length b)) (sym (to_z-of_z w16 w f ∙ is ∙ ap (λ (l : List ℕ). word l 14) same)) ∙ sym e ∙ t

  to_last : leb 272 (length b) ≡ true → within (word b 14) 272 (length b) ≡ true → leb 128 (get_or b 0 0) ≡ true
      → fits h (word h 4) 256 ≡ true → fits h (word h 10) 6 ≡ true → fits h (word h 8) 6 ≡ true → first_failed (header_checks b) ≡ first_failed (last b)
  to_last long size flags classes forward backward =
      cond-true _ _ _ long ∙ cond-true _ _ _ size ∙ cond-true _ _ _ flags
      ∙ cond-true _ _ _ (fits-here 4 256 classes) ∙ cond-true _ _ _ (fits-here 10 6 forward) ∙ cond-true _ _ _ (fits-here 8 6 backward)

pub returns-in_err-check_auxiliary-clause-checked : goal.returns-in_err-check_auxiliary-clause-checked
returns-in_err-check_auxiliary-clause-checked c =
    let p = err_from_is_err_and c.from_residual-in_err-check_auxiliary.result c.from_residual-in_err-check_auxiliary.ensures.1 in
    let b = c.args.bytes.now in
    let h = c.new-head.result.bytes.now in
    let same = c.new-head.ensures in
    let f : SFits w16 c.word.result = search rules in
    rw (p.1, p.2)
    (to_last b h same (le-leb _ _ c.if-bytes-lt-LEAST.false) (length-here b h same _ _ c.word.ensures f c.is_within.ensures c.if-not-is_within.false) (le-leb _ _ c.if-bytes-lt128.false)
    c.in_ok-check_offset.ensures c.in_ok-check_offset-2.ensures c.in_ok-check_offset-3.ensures
    ∙ cond-false _ _ _ (auxiliary-here b h same false c.in_err-check_auxiliary.ensures.0)
    ∙ ap (λ (e : Refusal). Some e) (sym c.in_err-check_auxiliary.ensures.1))

pub invariant_of-result : goal.invariant_of-result
invariant_of-result c =
    let b = c.args.bytes.now in
    let h = c.new-head.result.bytes.now in
    let same = c.new-head.ensures in
    let f : SFits w16 c.word.result = search rules in
    record {
      sound =
          to_last b h same (le-leb _ _ c.if-bytes-lt-LEAST.false) (length-here b h same _ _ c.word.ensures f c.is_within.ensures c.if-not-is_within.false) (le-leb _ _ c.if-bytes-lt128.false)
          c.in_ok-check_offset.ensures c.in_ok-check_offset-2.ensures c.in_ok-check_offset-3.ensures
          ∙ cond-true _ _ _ (auxiliary-here b h same true c.in_ok-check_auxiliary.ensures);
    }
