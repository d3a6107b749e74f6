-- Pins put in and taken out, beside the list of their places.
use Rattle.std.proofs.Common.{◌≡◌, ℕ, true, false, cond, eqb, ltb, List, [], ◌∷◌, Some, None, sym, refl, ap, ◌∙◌, subst, ⊎_elim, arith}
use Rattle.std.specs.List.{AllByRecursion}
use Rattle.std.proofs.lemmas.Bool.{cond-true, cond-false, cond_both, cases_Bool, eqb-true, true≢false}
use Rattle.pins.specs.declared.pin.Pin.{Pin}
use Rattle.pins.specs.Order.{insert, without, pin_at}
use Rattle.books.specs.Plain.{is_in, placed, taken_out}
use Rattle.books.specs.Faithful.{places_of}

-- the pin at a place is one of the pins, and is there
pub at_some : (P : Pin → Type 0) (place : ℕ) (qs : List Pin) (p : Pin) → AllByRecursion P qs → Some p ≡ pin_at place qs → P p × (p.place ≡ place) × (is_in place (places_of qs) ≡ true)
at_some P place [] p a e = absurd (let z : ◌≡◌ {A = ℕ} 0 1 = cc in omega arith)
at_some P place (q ∷ qs) p a e =
    ⊎_elim
    (λ (yes : eqb q.place place ≡ true).
    let same : Some p ≡ Some q = e ∙ cond-true _ _ _ yes in
    let is : q ≡ p = cc in
    (subst P is a.0, ap (λ (r : Pin). r.place) (sym is) ∙ eqb-true q.place place yes, cond-true _ _ _ yes))
    (λ (no : eqb q.place place ≡ false).
    let rest = at_some P place qs p a.1 (e ∙ cond-false _ _ _ no) in
    (rest.0, rest.1, cond-false _ _ _ no ∙ rest.2))
    (cases_Bool (eqb q.place place))

pub at_there : (place : ℕ) (qs : List Pin) (p : Pin) → Some p ≡ pin_at place qs → (p.place ≡ place) × (is_in place (places_of qs) ≡ true)
at_there place qs p e = let one = at_some (λ _. Unit {0}) place qs p (every qs) e in (one.1, one.2)
  where
    every : (qs : List Pin) → AllByRecursion (λ (_ : Pin). Unit {0}) qs
    every [] = tt
    every (q ∷ qs) = (tt, every qs)

pub at_none : (place : ℕ) (qs : List Pin) → None ≡ pin_at place qs → is_in place (places_of qs) ≡ false
at_none place [] e = refl
at_none place (q ∷ qs) e =
    ⊎_elim
    (λ (yes : eqb q.place place ≡ true). let bad : None ≡ Some q = e ∙ cond-true _ _ _ yes in absurd (let z : ◌≡◌ {A = ℕ} 0 1 = cc in omega arith))
    (λ (no : eqb q.place place ≡ false). cond-false _ _ _ no ∙ at_none place qs (e ∙ cond-false _ _ _ no))
    (cases_Bool (eqb q.place place))

-- a new pin goes in where its place does
pub places_insert : (p : Pin) (qs : List Pin) → is_in p.place (places_of qs) ≡ false → places_of (insert p qs) ≡ placed p.place (places_of qs)
places_insert p [] n = refl
places_insert p (q ∷ qs) n =
    ⊎_elim
    (λ (same : eqb q.place p.place ≡ true). absurd (true≢false (sym (cond-true _ _ _ same) ∙ n)))
    (λ (other : eqb q.place p.place ≡ false).
    let rest = places_insert p qs (sym (cond-false _ _ _ other) ∙ n) in
    ⊎_elim
    (λ (yes : ltb q.place p.place ≡ true). ap places_of (cond-true _ _ _ yes) ∙ ap (λ (l : List ℕ). q.place ∷ l) rest ∙ sym (cond-true _ _ _ yes))
    (λ (no : ltb q.place p.place ≡ false). ap places_of (cond-false _ _ _ no ∙ cond-false _ _ _ other) ∙ sym (cond-false _ _ _ no))
    (cases_Bool (ltb q.place p.place)))
    (cases_Bool (eqb q.place p.place))

pub places_without : (place : ℕ) (qs : List Pin) → places_of (without place qs) ≡ taken_out place (places_of qs)
places_without place [] = refl
places_without place (q ∷ qs) =
    ⊎_elim
    (λ (yes : eqb q.place place ≡ true). ap places_of (cond-true _ _ _ yes) ∙ sym (cond-true _ _ _ yes))
    (λ (no : eqb q.place place ≡ false). ap places_of (cond-false _ _ _ no) ∙ ap (λ (l : List ℕ). q.place ∷ l) (places_without place qs) ∙ sym (cond-false _ _ _ no))
    (cases_Bool (eqb q.place place))

pub all_insert : (P : Pin → Type 0) (p : Pin) (qs : List Pin) → P p → AllByRecursion P qs → AllByRecursion P (insert p qs)
all_insert P p [] h a = (h, tt)
all_insert P p (q ∷ qs) h a =
    cond_both (ltb q.place p.place) (q ∷ insert p qs) (cond (eqb q.place p.place) (q ∷ qs) (p ∷ q ∷ qs)) (AllByRecursion P)
    (λ e. (a.0, all_insert P p qs h a.1))
    (λ e. cond_both (eqb q.place p.place) (q ∷ qs) (p ∷ q ∷ qs) (AllByRecursion P) (λ e. a) (λ e. (h, a)))

pub all_without : (P : Pin → Type 0) (place : ℕ) (qs : List Pin) → AllByRecursion P qs → AllByRecursion P (without place qs)
all_without P place [] a = tt
all_without P place (q ∷ qs) a = cond_both (eqb q.place place) qs (q ∷ without place qs) (AllByRecursion P) (λ e. a.1) (λ e. (a.0, all_without P place qs a.1))
