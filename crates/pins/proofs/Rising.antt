-- What rising lists of pins keep, and where a pin goes in or comes out.
use Rattle.std.proofs.Common.{◌≡◌, ℕ, zero, suc, ◌<◌, ◌≤◌, Bool, true, false, T, eqb, List, [], ◌∷◌, length, get_or, Some, None, Option, Ok, Err, Result, sym, refl, ap, ◌∙◌, subst, ⊎_elim, le_refl, arith}
use Rattle.std.specs.List.{insert as inserted, remove}
use Rattle.std.specs.List.{slice_get, AllByRecursion}
use Rattle.std.specs.List.Sorted.{IsSearchInRange, IsBinarySearchResult, IsPartitionedBy}
use Rattle.std.specs.Result.{result_ok}
use Rattle.std.specs.Option.{MatchOption, IfSome}
use Rattle.std.specs.Ordering.{nat_cmp, ordering_index}
use Rattle.std.proofs.lemmas.Option.{slice_get_cases, get_or_from_slice_get}
use Rattle.std.proofs.lemmas.Bool.Decides.{nat_tests}
use Rattle.std.proofs.lemmas.Bool.{cases_lt, cond-true, cond-false, ne_eqb, eq-eqb, ltb-true, lt-ltb, le-ltb}
use Rattle.std.proofs.lemmas.List.Sorted.{IsNonDecreasingBy-from_default, IsPartitionedBy-leb}
use Rattle.pins.specs.declared.pin.Pin.{Pin}
use Rattle.pins.specs.Order.{above, rising, insert, without, pin_at, nought, up_to, IsInside, IsSpot}

pub T_true : (b : Bool) → T b → b ≡ true
T_true true t = refl
T_true false t = absurd t

pub true_T : (b : Bool) → b ≡ true → T b
true_T b e = subst T (sym e) tt

-- ---- order is kept
above_insert : (n : ℕ) (p : Pin) (qs : List Pin) → above n qs ≡ true → n < p.place → above n (insert p qs) ≡ true
above_insert n p [] a h = grind (arith, nat_tests)
above_insert n p (q ∷ qs) a h = grind (arith, nat_tests)

pub rising_insert : (size : ℕ) (p : Pin) (qs : List Pin) → p.number ≤ p.place → p.place < size → rising size qs ≡ true → rising size (insert p qs) ≡ true
rising_insert size p [] h i s = grind (arith, nat_tests)
rising_insert size p (q ∷ qs) h i s = grind (arith, nat_tests, rising_insert size p qs h i, above_insert q.place p qs)

above_without : (size m n : ℕ) (qs : List Pin) → above m qs ≡ true → rising size qs ≡ true → above m (without n qs) ≡ true
above_without size m n [] a s = refl
above_without size m n (q ∷ []) a s = grind (arith, nat_tests)
above_without size m n (q ∷ r ∷ rs) a s = grind (arith, nat_tests)

pub rising_without : (size n : ℕ) (qs : List Pin) → rising size qs ≡ true → rising size (without n qs) ≡ true
rising_without size n [] s = refl
rising_without size n (q ∷ qs) s = grind (arith, nat_tests, rising_without size n qs, above_without size q.place n qs)

-- ---- entries of a rising list
above_all : (size n : ℕ) (qs : List Pin) → above n qs ≡ true → rising size qs ≡ true → (j : ℕ) → j < length qs → n < (get_or qs j nought).place
above_all size n [] a s j h = omega arith
above_all size n (q ∷ qs) a s zero h = grind (arith, nat_tests)
above_all size n (q ∷ qs) a s (suc j) h =
    let r : q.place < (get_or qs j nought).place = above_all size q.place qs (grind (arith, nat_tests)) (grind (arith, nat_tests)) j (omega arith) in
    omega (arith, ltb-true n q.place a)

pub rises : (size : ℕ) (qs : List Pin) → rising size qs ≡ true → (i j : ℕ) → i < j → j < length qs → (get_or qs i nought).place < (get_or qs j nought).place
rises size [] s i j h l = omega arith
rises size (q ∷ qs) s i zero h l = omega arith
rises size (q ∷ qs) s zero (suc j) h l = above_all size q.place qs (grind (arith, nat_tests)) (grind (arith, nat_tests)) j (omega arith)
rises size (q ∷ qs) s (suc i) (suc j) h l = rises size qs (grind (arith, nat_tests)) i j (omega arith) (omega arith)

pub low_in : (size : ℕ) (qs : List Pin) → rising size qs ≡ true → (j : ℕ) → j < length qs → IsInside size (get_or qs j nought)
low_in size [] s j h = absurd (let z : ⊥ = omega arith in z)
low_in size (q ∷ qs) s zero h = (grind (arith, nat_tests), grind (arith, nat_tests))
low_in size (q ∷ qs) s (suc j) h = low_in size qs (grind (arith, nat_tests)) j (omega arith)

-- ---- the spot of a place
-- a pin goes in at its spot
insert_new : (p : Pin) (qs : List Pin) (k : ℕ) → k ≤ length qs → ((i : ℕ) → i < k → (get_or qs i nought).place < p.place)
    → ((i : ℕ) → k ≤ i → i < length qs → p.place < (get_or qs i nought).place) → insert p qs ≡ inserted qs k p
insert_new p [] k le lower upper = let e : k ≡ 0 = omega arith in rw e refl
insert_new p (q ∷ qs) zero le lower upper =
    let l : p.place < q.place = upper 0 (omega arith) (omega arith) in
    cond-false _ _ _ (le-ltb q.place p.place (omega arith)) ∙ cond-false _ _ _ (ne_eqb q.place p.place (omega arith))
insert_new p (q ∷ qs) (suc k) le lower upper =
    cond-true _ _ _ (lt-ltb _ _ (lower 0 (omega arith)))
    ∙ ap (λ (z : List Pin). q ∷ z) (insert_new p qs k (omega arith) (λ i l. lower (suc i) (omega arith)) (λ i h l. upper (suc i) (omega arith) (omega arith)))

insert_again : (p : Pin) (qs : List Pin) (k : ℕ) → k < length qs → ((i : ℕ) → i < k → (get_or qs i nought).place < p.place) → (get_or qs k nought).place ≡ p.place → insert p qs ≡ qs
insert_again p [] k h lower e = absurd (let z : ⊥ = omega arith in z)
insert_again p (q ∷ qs) zero h lower e = cond-false _ _ _ (le-ltb q.place p.place (omega arith)) ∙ cond-true _ _ _ (eq-eqb q.place p.place e)
insert_again p (q ∷ qs) (suc k) h lower e =
    cond-true _ _ _ (lt-ltb _ _ (lower 0 (omega arith)))
    ∙ ap (λ (z : List Pin). q ∷ z) (insert_again p qs k (omega arith) (λ i l. lower (suc i) (omega arith)) e)

absent : (n : ℕ) (qs : List Pin) → ((i : ℕ) → i < length qs → (get_or qs i nought).place ≡ n → ⊥) → (without n qs ≡ qs) × (pin_at n qs ≡ None)
absent n [] f = (refl, refl)
absent n (q ∷ qs) f =
    let e : eqb q.place n ≡ false = ne_eqb _ _ (f 0 (omega arith)) in
    let r = absent n qs (λ i h. f (suc i) (omega arith)) in
    (cond-false _ _ _ e ∙ ap (λ (z : List Pin). q ∷ z) r.0, cond-false _ _ _ e ∙ r.1)

present : (n : ℕ) (qs : List Pin) (k : ℕ) → k < length qs → ((i : ℕ) → i < k → (get_or qs i nought).place < n) → (get_or qs k nought).place ≡ n
    → (without n qs ≡ remove qs k) × (pin_at n qs ≡ Some (get_or qs k nought))
present n [] k h f e = absurd (let z : ⊥ = omega arith in z)
present n (q ∷ qs) zero h f e = (cond-true _ _ _ (eq-eqb _ _ e), cond-true _ _ _ (eq-eqb _ _ e))
present n (q ∷ qs) (suc k) h f e =
    let l : q.place < n = f 0 (omega arith) in
    let d : eqb q.place n ≡ false = ne_eqb _ _ (omega arith) in
    let r = present n qs k (omega arith) (λ i l. f (suc i) (omega arith)) e in
    (cond-false _ _ _ d ∙ ap (λ (z : List Pin). q ∷ z) r.0, cond-false _ _ _ d ∙ r.1)

module _ (size n : ℕ) (qs : List Pin) (rise : rising size qs ≡ true) where
  -- a pin is at the place
  module _ (k : ℕ) (spot : IsSpot n qs (Ok k)) where
    lower : (i : ℕ) → i < k → (get_or qs i nought).place < n
    lower i l = omega (arith, rises size qs rise i k l spot.0, spot.1)

    pub there : (without n qs ≡ remove qs k) × (pin_at n qs ≡ Some (get_or qs k nought))
    there = present n qs k spot.0 lower spot.1

    pub put_again : (p : Pin) → p.place ≡ n → insert p qs ≡ qs
    put_again p e = insert_again p qs k spot.0 (λ i l. omega (arith, lower i l)) (spot.1 ∙ sym e)

  -- none is
  module _ (k : ℕ) (spot : IsSpot n qs (Err k)) where
    pub nowhere : (without n qs ≡ qs) × (pin_at n qs ≡ None)
    nowhere = absent n qs (λ i h e. ⊎_elim (λ l. omega (arith, spot.1 i l)) (λ g. omega (arith, spot.2 i g h)) (cases_lt i k))

    pub put_new : (p : Pin) → p.place ≡ n → insert p qs ≡ inserted qs k p
    put_new p e = insert_new p qs k spot.0 (λ i l. omega (arith, spot.1 i l)) (λ i g h. omega (arith, spot.2 i g h))

  -- what is found at the spot, if it is the place of a pin
  pub at_spot : (r : Result ℕ ℕ) (k : ℕ) → IsSpot n qs r → Some k ≡ result_ok r → (k < length qs) × (pin_at n qs ≡ Some (get_or qs k nought))
  at_spot (Ok j) k spot e = let same : j ≡ k = cc in rw (sym same) (spot.0, (there j spot).1)
  at_spot (Err j) k spot e = absurd cc

  pub off_spot : (r : Result ℕ ℕ) → IsSpot n qs r → None ≡ result_ok r → pin_at n qs ≡ None
  off_spot (Ok j) spot e = absurd cc
  off_spot (Err j) spot e = (nowhere j spot).1

  -- no place is above a later one
  up : (i j : ℕ) → i ≤ j → j < length qs → (get_or qs i nought).place ≤ (get_or qs j nought).place
  up i j le h =
      ⊎_elim (λ l. omega (arith, rises size qs rise i j l h)) (λ g. let e : i ≡ j = omega arith in rw e (le_refl _)) (cases_lt i j)

  pub parts_at : IsPartitionedBy (up_to n) qs
  parts_at = IsPartitionedBy-leb (λ q. q.place) qs n (IsNonDecreasingBy-from_default (λ q. q.place) qs nought up)

  -- what a binary search for the place says
  compares_up : (i j : ℕ) → i ≤ j → j < length qs → ordering_index (nat_cmp (get_or qs i nought).place n) ≤ ordering_index (nat_cmp (get_or qs j nought).place n)
  compares_up i j le h = let l = up i j le h in grind (arith, nat_tests)

  pub spot_found : (r : Result ℕ ℕ) → IsSearchInRange r (length qs) → IsBinarySearchResult (λ q. nat_cmp q.place n) qs r → IsSpot n qs r
  spot_found (Ok k) within b = (within, let e = b nought in grind (arith, nat_tests))
  spot_found (Err k) within b =
      let point = b (IsNonDecreasingBy-from_default (λ q. ordering_index (nat_cmp q.place n)) qs nought compares_up) in (
        within,
        λ i l. let e = point.0 i nought (omega arith) l in grind (arith, nat_tests),
        λ i g h. let e = point.1 i nought g h in grind (arith, nat_tests),
      )

-- what is read of a rising list
pub got : (size : ℕ) (qs : List Pin) → rising size qs ≡ true → (k : ℕ) (o : Option Pin) → o ≡ slice_get qs k
    → MatchOption o (length qs ≤ k) (λ p. (k < length qs) × (p ≡ get_or qs k nought)) × IfSome o (IsInside size)
got size qs rise k o e =
    ⊎_elim
    (λ h. let is = get_or_from_slice_get qs k h.0 nought h.2 in rw (e ∙ h.2) ((h.1, sym is), subst (IsInside size) is (low_in size qs rise k h.1)))
    (λ h. rw (e ∙ h.1) (h.0, tt))
    (slice_get_cases qs k).1

pub read_within : (qs : List Pin) (k : ℕ) (o : Option Pin) → MatchOption o (length qs ≤ k) (λ p. (k < length qs) × (p ≡ get_or qs k nought)) → k < length qs → o ≡ Some (get_or qs k nought)
read_within qs k None h lt = absurd (let z : ⊥ = omega arith in z)
read_within qs k (Some p) h lt = ap (λ (z : Pin). Some z) h.1

pub all_inside : (size : ℕ) (qs : List Pin) → rising size qs ≡ true → AllByRecursion (IsInside size) qs
all_inside size [] s = tt
all_inside size (q ∷ qs) s = ((grind (arith, nat_tests), grind (arith, nat_tests)), all_inside size qs (grind (arith, nat_tests)))
