-- The last pin that passes a test.
use Rattle.std.proofs.Common.{◌≡◌, ℕ, zero, suc, ◌-◌, ◌≤◌, Bool, true, false, cond, List, [], ◌∷◌, length, take, reverse, Some, None, Option, sym, refl, ap, ◌∙◌, subst, ⊎_elim, arith}
use Rattle.std.specs.List.{AllByRecursion, AllWithin, find, slice_get}
use Rattle.std.specs.List.Sorted.{IsPartitionPoint}
use Rattle.std.specs.Option.{option_or, IfSome}
use Rattle.std.proofs.lemmas.List.{reverse-append}
use Rattle.std.proofs.lemmas.List.Folds.{find-append}
use Rattle.std.proofs.lemmas.Option.{slice_get-get_or}
use Rattle.std.proofs.lemmas.Bool.{cond-true, cond-false, cases_Bool}
use Rattle.pins.specs.declared.pin.Pin.{Pin}
use Rattle.pins.specs.Order.{or_else, last_by, rising, nought, IsInside}
use Rattle.pins.proofs.Rising.{all_inside}

-- it is what is found from the end
last_is_found : (test : Pin → Bool) (qs : List Pin) → find test (reverse qs) ≡ last_by test qs
last_is_found test [] = refl
last_is_found test (q ∷ qs) =
    ap (find test) (reverse-append (q ∷ []) qs) ∙ find-append test (reverse qs) (q ∷ []) ∙ as_or (find test (reverse qs)) _
    ∙ ap (λ (r : Option Pin). or_else r (cond (test q) (Some q) None)) (last_is_found test qs)
  where
    as_or : (a b : Option Pin) → option_or a b ≡ or_else a b
    as_or None b = refl
    as_or (Some p) b = refl

-- it is one of the pins, and passes
pub last_of : (P : Pin → Type 0) (test : Pin → Bool) (qs : List Pin) (p : Pin) → AllByRecursion P qs → Some p ≡ last_by test qs → P p × (test p ≡ true)
last_of P test [] p a e = absurd (let z : ◌≡◌ {A = ℕ} 0 1 = cc in omega arith)
last_of P test (q ∷ qs) p a e = go (last_by test qs) (last_of P test qs p a.1) e
  where
    go : (r : Option Pin) → (Some p ≡ r → P p × (test p ≡ true)) → Some p ≡ or_else r (cond (test q) (Some q) None) → P p × (test p ≡ true)
    go None rest e =
        ⊎_elim
        (λ (yes : test q ≡ true).
        let same : Some p ≡ Some q = e ∙ cond-true _ _ _ yes in
        let is : q ≡ p = cc in
        (subst P is a.0, ap test (sym is) ∙ yes))
        (λ (no : test q ≡ false). let bad : Some p ≡ None = e ∙ cond-false _ _ _ no in absurd (let z : ◌≡◌ {A = ℕ} 0 1 = cc in omega arith))
        (cases_Bool (test q))
    go (Some x) rest e = rest e

last_inside : (size : ℕ) (test : Pin → Bool) (qs : List Pin) (o : Option Pin) → rising size qs ≡ true → o ≡ last_by test qs → IfSome o (λ p. IsInside size p × (test p ≡ true))
last_inside size test qs None s e = tt
last_inside size test qs (Some p) s e = last_of (IsInside size) test qs p (all_inside size qs s) e

-- what is found from the end of a rising list
pub found_last : (size : ℕ) (test : Pin → Bool) (qs : List Pin) (o : Option Pin) → rising size qs ≡ true → o ≡ find test (reverse qs)
    → (o ≡ last_by test qs) × IfSome o (λ p. IsInside size p × (test p ≡ true))
found_last size test qs o s e = let is = e ∙ last_is_found test qs in (is, last_inside size test qs o s is)

-- of the pins up to a place, which come first in a rising list, it is the last
last_more : (q : Pin) (rs : List Pin) → or_else (slice_get rs (length rs - 1)) (Some q) ≡ slice_get (q ∷ rs) (length (q ∷ rs) - 1)
last_more q [] = refl
last_more q (r ∷ rs) =
    let i : suc (length rs) - 1 ≡ length rs = omega arith in
    let e = slice_get-get_or (r ∷ rs) (length rs) nought (omega arith) in
    let j : suc (suc (length rs)) - 1 ≡ suc (length rs) = omega arith in
    ap (λ (o : Option Pin). or_else o (Some q)) (ap (slice_get (r ∷ rs)) i ∙ e) ∙ sym e ∙ sym (ap (slice_get (q ∷ r ∷ rs)) j)

last_taken : (test : Pin → Bool) (qs : List Pin) (n : ℕ) → AllWithin (λ q. test q ≡ true) qs 0 n → AllWithin (λ q. test q ≡ false) qs n (length qs) → n ≤ length qs
    → last_by test qs ≡ slice_get (take n qs) (length (take n qs) - 1)
last_taken test [] zero here rest le = refl
last_taken test [] (suc n) here rest le = refl
last_taken test (q ∷ qs) zero here rest le =
    ap (or_else (last_by test qs)) (cond-false _ _ _ (rest 0 nought (omega arith) (omega arith)))
    ∙ ap (λ (r : Option Pin). or_else r None) (last_taken test qs zero (λ i d l h. absurd (let z : ⊥ = omega arith in z)) (λ i d l h. rest (suc i) d (omega arith) (omega arith)) (omega arith))
last_taken test (q ∷ qs) (suc n) here rest le =
    ap (or_else (last_by test qs)) (cond-true _ _ _ (here 0 nought (omega arith) (omega arith)))
    ∙ ap (λ (r : Option Pin). or_else r (Some q)) (last_taken test qs n (λ i d l h. here (suc i) d (omega arith) (omega arith)) (λ i d l h. rest (suc i) d (omega arith) (omega arith)) (omega arith))
    ∙ last_more q (take n qs)

pub parted_last : (size : ℕ) (test : Pin → Bool) (qs : List Pin) (n : ℕ) (o : Option Pin) → rising size qs ≡ true → n ≤ length qs → IsPartitionPoint (λ q. test q ≡ true) (λ q. test q ≡ false) qs n
    → o ≡ slice_get (take n qs) (length (take n qs) - 1) → (o ≡ last_by test qs) × IfSome o (λ p. IsInside size p × (test p ≡ true))
parted_last size test qs n o s le point e = let is = e ∙ sym (last_taken test qs n point.0 point.1 le) in (is, last_inside size test qs o s is)
