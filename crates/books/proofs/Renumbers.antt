-- The pins after a written byte.
use Rattle.std.proofs.Common.{◌≡◌, ℕ, zero, suc, ◌+◌, ◌-◌, ◌<◌, ◌≤◌, min, Bool, true, false, cond, not, ◌&&◌, ltb, leb, List, [], ◌∷◌, ◌++◌, map, length, get_or, take, set, ℤ, pos, negsuc, ◌+ℤ◌, filter, sym, refl, ap, ◌∙◌, ⊎_elim, arith}
use Rattle.std.specs.List.{AllByRecursion}
use Rattle.std.proofs.lemmas.List.Elements.{filter_more}
use Rattle.std.proofs.lemmas.List.Filters.{length-filter_both}
use Rattle.std.proofs.lemmas.List.{map-append, append-nil, length-map, length-take, length-set}
use Rattle.std.proofs.lemmas.Bool.{cond_both, cond-true, cond-false, cases_lt, and_parts, and_from, ltb-true, lt-ltb, le-ltb, leb-true, le-leb}
use Rattle.rules.specs.Cutting.{cutting, Bounded, Joined}
use Rattle.rules.specs.Answers.{wall_at}
use Rattle.rules.specs.Cuts.{runs_few}
use Rattle.rules.proofs.WallLaws.{parted_number}
use Rattle.pins.specs.declared.pin.Pin.{Pin}
use Rattle.pins.specs.Order.{rising, above, nought}
use Rattle.windows.specs.Windows.{gained, both_walls, IsWindow}
use Rattle.windows.proofs.WindowLaws.{outside_of, both_parted}
use Rattle.windows.proofs.Numbers.{number_early, number_late}
use Rattle.books.specs.Plain.{stands, number_at}
use Rattle.books.specs.Faithful.{TruePin, places_of}
use Rattle.books.specs.Moves.{held, moved, standing, renumbered}

-- ---- order is kept
module _ (size : ℕ) where
  rising_parts : (q : Pin) (qs : List Pin) → rising size (q ∷ qs) ≡ true → (q.number ≤ q.place) × (q.place < size) × (above q.place qs ≡ true) × (rising size qs ≡ true)
  rising_parts q qs s =
      let a = and_parts (leb q.number q.place) (ltb q.place size && (above q.place qs && rising size qs)) s in
      let b = and_parts (ltb q.place size) (above q.place qs && rising size qs) a.1 in
      let c = and_parts (above q.place qs) (rising size qs) b.1 in
      (leb-true q.number q.place a.0, ltb-true q.place size b.0, c.0, c.1)

  rising_from : (q : Pin) (qs : List Pin) → q.number ≤ q.place → q.place < size → above q.place qs ≡ true → rising size qs ≡ true → rising size (q ∷ qs) ≡ true
  rising_from q qs h l a s = and_from _ _ (le-leb _ _ h) (and_from _ _ (lt-ltb _ _ l) (and_from _ _ a s))

  above_take : (n k : ℕ) (qs : List Pin) → above n qs ≡ true → above n (take k qs) ≡ true
  above_take n zero qs a = refl
  above_take n (suc k) [] a = refl
  above_take n (suc k) (r ∷ rs) a = a

  rising_take : (k : ℕ) (qs : List Pin) → rising size qs ≡ true → rising size (take k qs) ≡ true
  rising_take zero qs s = refl
  rising_take (suc k) [] s = refl
  rising_take (suc k) (q ∷ qs) s =
      let p = rising_parts q qs s in
      rising_from q (take k qs) p.0 p.1 (above_take q.place k qs p.2) (rising_take k qs p.3)

  above_lower : (n m : ℕ) (qs : List Pin) → n ≤ m → above m qs ≡ true → above n qs ≡ true
  above_lower n m [] h a = refl
  above_lower n m (q ∷ qs) h a = lt-ltb n q.place (omega (arith, ltb-true m q.place a))

  above_kept : (test : Pin → Bool) (n : ℕ) (qs : List Pin) → above n qs ≡ true → rising size qs ≡ true → above n (filter test qs) ≡ true
  above_kept test n [] a s = refl
  above_kept test n (q ∷ qs) a s =
      let p = rising_parts q qs s in
      let lt = ltb-true n q.place a in
      cond_both (test q) (q ∷ filter test qs) (filter test qs) (λ (l : List Pin). above n l ≡ true)
      (λ e. a) (λ e. above_kept test n qs (above_lower n q.place qs (omega arith) p.2) p.3)

  rising_kept : (test : Pin → Bool) (qs : List Pin) → rising size qs ≡ true → rising size (filter test qs) ≡ true
  rising_kept test [] s = refl
  rising_kept test (q ∷ qs) s =
      let p = rising_parts q qs s in
      cond_both (test q) (q ∷ filter test qs) (filter test qs) (λ (l : List Pin). rising size l ≡ true)
      (λ e. rising_from q (filter test qs) p.0 p.1 (above_kept test q.place qs p.2 p.3) (rising_kept test qs p.3))
      (λ e. rising_kept test qs p.3)

held_low : (place : ℕ) (z : ℤ) → held place z ≤ place
held_low place (pos n) = omega arith
held_low place (negsuc n) = omega arith

abbrev elsewhere : ℤ → Pin → Pin
elsewhere by q = record { place = q.place; number = held q.place (pos q.number +ℤ by) }

-- a pin inside the text stands where a wall does
pub standing_at : (parts : List ℕ → List ℕ → Bool) (text : List ℕ) (qs : List Pin) (k : ℕ) (q : Pin) → q ≡ get_or qs k nought → q.place < length text
    → stands parts text (get_or qs k nought).place ≡ wall_at parts text q.place
standing_at parts text qs k q e h =
    ap (λ (p : Pin). stands parts text p.place) (sym e) ∙ ap (λ v. v && wall_at parts text q.place) (lt-ltb q.place (length text) h)

module _ (to : ℕ) (by : ℤ) where
  pub moved_place : (q : Pin) → (moved to by q).place ≡ q.place
  moved_place q = cond_both (ltb q.place to) q (elsewhere by q) (λ (r : Pin). r.place ≡ q.place) (λ e. refl) (λ e. refl)

  moved_low : (q : Pin) → q.number ≤ q.place → (moved to by q).number ≤ (moved to by q).place
  moved_low q h =
      cond_both (ltb q.place to) q (elsewhere by q) (λ (r : Pin). r.number ≤ r.place) (λ e. h) (λ e. held_low q.place (pos q.number +ℤ by))

  above_moved : (n : ℕ) (qs : List Pin) → above n (map (moved to by) qs) ≡ above n qs
  above_moved n [] = refl
  above_moved n (q ∷ qs) = ap (ltb n) (moved_place q)

  rising_moved : (size : ℕ) (qs : List Pin) → rising size qs ≡ true → rising size (map (moved to by) qs) ≡ true
  rising_moved size [] s = refl
  rising_moved size (q ∷ qs) s =
      let p = rising_parts size q qs s in
      rising_from size (moved to by q) (map (moved to by) qs) (moved_low q p.0) (omega (arith, moved_place q, p.1))
      (ap (λ n. above n (map (moved to by) qs)) (moved_place q) ∙ above_moved q.place qs ∙ p.2) (rising_moved size qs p.3)

  -- one pin further
  module _ (parts : List ℕ → List ℕ → Bool) (text : List ℕ) (qs : List Pin) where
    pub renumbered_more : (k : ℕ) → k < length qs → stands parts text (get_or qs k nought).place ≡ true
        → renumbered parts text to by (take (k + 1) qs) ≡ renumbered parts text to by (take k qs) ++ moved to by (get_or qs k nought) ∷ []
    renumbered_more k h e =
        ap (map (moved to by)) (filter_more (λ (q : Pin). stands parts text q.place) qs k nought h ∙ ap (λ (l : List Pin). standing parts text (take k qs) ++ l) (cond-true _ _ _ e))
        ∙ map-append (moved to by) (standing parts text (take k qs)) (get_or qs k nought ∷ [])

    pub renumbered_same : (k : ℕ) → k < length qs → stands parts text (get_or qs k nought).place ≡ false
        → renumbered parts text to by (take (k + 1) qs) ≡ renumbered parts text to by (take k qs)
    renumbered_same k h e =
        ap (map (moved to by)) (filter_more (λ (q : Pin). stands parts text q.place) qs k nought h ∙ ap (λ (l : List Pin). standing parts text (take k qs) ++ l) (cond-false _ _ _ e) ∙ append-nil (standing parts text (take k qs)))

    pub rising_renumbered : (size k : ℕ) → rising size qs ≡ true → rising size (renumbered parts text to by (take k qs)) ≡ true
    rising_renumbered size k s =
        rising_moved size (standing parts text (take k qs)) (rising_kept size (λ (q : Pin). stands parts text q.place) (take k qs) (rising_take size k qs s))

    pub few_renumbered : (k : ℕ) → length (renumbered parts text to by (take k qs)) ≤ k
    few_renumbered k =
        omega (arith, length-map (standing parts text (take k qs)) (moved to by), length-filter_both (λ (q : Pin). stands parts text q.place) (λ (q : Pin). not (stands parts text q.place)) (λ q. refl) (take k qs), length-take k qs)

  module _ (parts : List ℕ → List ℕ → Bool) (text : List ℕ) where
    -- the places left are those that stand
    pub places_renumbered : (qs : List Pin) → places_of (renumbered parts text to by qs) ≡ filter (stands parts text) (places_of qs)
    places_renumbered [] = refl
    places_renumbered (q ∷ qs) = go (places_renumbered qs) (stands parts text q.place)
      where
        go : places_of (renumbered parts text to by qs) ≡ filter (stands parts text) (places_of qs)
            → (b : Bool) → places_of (map (moved to by) (cond b (q ∷ standing parts text qs) (standing parts text qs))) ≡ cond b (q.place ∷ filter (stands parts text) (places_of qs)) (filter (stands parts text) (places_of qs))
        go rest true = ap (λ (n : ℕ). n ∷ places_of (renumbered parts text to by qs)) (moved_place q) ∙ ap (λ (l : List ℕ). q.place ∷ l) rest
        go rest false = rest

    pub few_left : (qs : List Pin) → length (renumbered parts text to by qs) ≤ length qs
    few_left qs =
        omega (arith, length-map (standing parts text qs) (moved to by), length-filter_both (λ (q : Pin). stands parts text q.place) (λ (q : Pin). not (stands parts text q.place)) (λ q. refl) qs)

    pub dropped_is : (qs : List Pin) (left : ℕ) → left ≡ length (renumbered parts text to by qs) → length qs - left ≡ length (filter (λ q. not (stands parts text q)) (places_of qs))
    dropped_is qs left e =
        let a : length (places_of (renumbered parts text to by qs)) ≡ left = length-map (renumbered parts text to by qs) (λ (q : Pin). q.place) ∙ sym e in
        let b = ap length (places_renumbered qs) in
        omega (arith, a, b, length-map qs (λ (q : Pin). q.place), length-filter_both (stands parts text) (λ q. not (stands parts text q)) (λ q. refl) (places_of qs))

-- ---- numbers stay true
module _ (run : List ℕ → ℕ) (b : Bounded run) (parts : List ℕ → List ℕ → Bool)
    (joins : (before after : List ℕ) → parts before after ≡ true → Joined run before after) (xs : List ℕ) (p v from to : ℕ)
    (w : IsWindow parts xs (set xs p v) p from to) where
  few_before : (text : List ℕ) (q : ℕ) → length (cutting run (take q text)) ≤ q
  few_before text q = omega (arith, runs_few run b (take q text), length-take q text)

  true_after : (q : Pin) → TruePin run parts xs q → stands parts (set xs p v) q.place ≡ true
      → (moved to (gained run xs (set xs p v)) q).number ≡ number_at run (set xs p v) q.place
  true_after q old new =
      let x = and_parts (ltb q.place (length xs)) (wall_at parts xs q.place) old.is_wall in
      let y = and_parts (ltb q.place (length (set xs p v))) (wall_at parts (set xs p v) q.place) new in
      let inside = ltb-true q.place (length xs) x.0 in
      let sized = length-set xs p v in
      let two : both_walls parts xs (set xs p v) q.place ≡ true = and_from _ _ x.1 y.1 in
      let parted = both_parted run b parts joins xs (set xs p v) q.place two in
      let before = parted_number run b xs q.place (omega arith) parted.0 in
      let after = parted_number run b (set xs p v) q.place (omega arith) parted.1 in
      ⊎_elim
      (λ (lt : q.place < to).
      let le : q.place ≤ p = ⊎_elim (λ (a : q.place ≤ from). omega (arith, w.low)) (λ (a : to ≤ q.place). absurd (let z : ⊥ = omega arith in z)) (outside_of parts xs (set xs p v) p from to w q.place two) in
      ap (λ (r : Pin). r.number) (cond-true (ltb q.place to) q (elsewhere (gained run xs (set xs p v)) q) (lt-ltb q.place to lt))
      ∙ old.is_numbered ∙ before ∙ sym (number_early run b xs p v q.place le) ∙ sym after)
      (λ (ge : to ≤ q.place).
      let late : pos (length (cutting run (take q.place (set xs p v)))) ≡ pos (length (cutting run (take q.place xs))) +ℤ gained run xs (set xs p v) =
      number_late run b xs p v q.place (omega (arith, w.high)) parted.0 parted.1 in
      let few = few_before (set xs p v) q.place in
      let top : min (length (cutting run (take q.place (set xs p v)))) q.place ≡ length (cutting run (take q.place (set xs p v))) = omega arith in
      ap (λ (r : Pin). r.number) (cond-false (ltb q.place to) q (elsewhere (gained run xs (set xs p v)) q) (le-ltb q.place to ge))
      ∙ ap (λ (n : ℕ). held q.place (pos n +ℤ gained run xs (set xs p v))) (old.is_numbered ∙ before)
      ∙ ap (held q.place) (sym late) ∙ top ∙ sym after)
      (cases_lt q.place to)

  pub all_true_after : (qs : List Pin) → AllByRecursion (TruePin run parts xs) qs → AllByRecursion (TruePin run parts (set xs p v)) (renumbered parts (set xs p v) to (gained run xs (set xs p v)) qs)
  all_true_after [] a = tt
  all_true_after (q ∷ qs) a =
      let rest = all_true_after qs a.1 in
      cond_both (stands parts (set xs p v) q.place) (q ∷ standing parts (set xs p v) qs) (standing parts (set xs p v) qs)
      (λ (l : List Pin). AllByRecursion (TruePin run parts (set xs p v)) (map (moved to (gained run xs (set xs p v))) l))
      (λ new.
      let there = moved_place to (gained run xs (set xs p v)) q in
      (record { is_wall = ap (stands parts (set xs p v)) there ∙ new; is_numbered = true_after q a.0 new ∙ ap (number_at run (set xs p v)) (sym there) }, rest))
      (λ no. rest)
