-- What pin and unpin answer and leave, beside the plain book.
use Rattle.std.proofs.Common.{◌≡◌, ℕ, ◌-◌, ◌<◌, ◌≤◌, Bool, true, cond, leb, List, length, drop, is_ok, Some, None, Ok, Err, Result, sym, refl, ap, ◌∙◌, subst, arith, length-drop}
use Rattle.std.specs.List.{AllByRecursion}
use Rattle.std.proofs.lemmas.Bool.{cond-true, cond-false, and_from, lt-ltb, le-ltb, lt-leb}
use Rattle.std.proofs.lemmas.List.{length-map}
use Rattle.refusals.specs.declared.Refusal.{Refusal}
use Rattle.refusals.specs.declared.Refusal.TheVariants.{PinsFull, NoPin}
use Rattle.rules.specs.Cutting.{cutting, Bounded, Joined}
use Rattle.rules.specs.Answers.{wall_at}
use Rattle.rules.specs.Runs.{number_over}
use Rattle.rules.specs.Cuts.{cutting_some}
use Rattle.rules.proofs.Lawful.{wall_joined}
use Rattle.rules.proofs.WallLaws.{parted_number}
use Rattle.rules.proofs.RunLaws.{over_parted}
use Rattle.pins.specs.declared.pin.Pin.{Pin}
use Rattle.pins.specs.Kept.{kept}
use Rattle.pins.specs.Order.{insert, without, pin_at}
use Rattle.books.specs.declared.book.Book.{Book}
use Rattle.books.specs.Plain.{Plain, is_in, added, placed, taken_out, stands, number_at, pinned_at, nearest_wall, pin_answer, unpin_answer, after_pin, after_unpin}
use Rattle.books.specs.Faithful.{TruePin, Follows, places_of}
use Rattle.books.proofs.Refusing.{place_taken}
use Rattle.books.proofs.Trues.{a_pin}
use Rattle.books.proofs.Pinnings.{at_some, at_none, places_insert, places_without, all_insert}

-- what is left after a call that was answered, or refused
pub left_ok : {V X : Type 0} (r : Result V Refusal) (v : V) (x y : X) → Ok v ≡ r → cond (is_ok r) x y ≡ x
left_ok r v x y e = cond-true _ _ _ (sym (ap is_ok e))

pub left_err : {V X : Type 0} (r : Result V Refusal) (z : Refusal) (x y : X) → Err z ≡ r → cond (is_ok r) x y ≡ y
left_err r z x y e = cond-false _ _ _ (sym (ap is_ok e))

abbrev plainly : List ℕ → List Pin → Plain
plainly text qs = record { bytes = text; places = places_of qs }

-- a book that keeps other true pins over the same text
pub follows_by : {R : Type 0} (run : List ℕ → ℕ) (parts : List ℕ → List ℕ → Bool) (c : Book R) (new : List ℕ) (qs : List Pin) (plain : Plain)
    → length new ≡ c.pins.size → kept c.pins ≡ qs → AllByRecursion (TruePin run parts new) qs → record { bytes = new; places = places_of qs } ≡ plain
    → Follows run parts c new plain
follows_by run parts c new qs plain long keeps a is =
    record {
      stays_faithful = record { is_long = long; are_true = subst (AllByRecursion (TruePin run parts new)) (sym keeps) a };
      is_plain = ap (plainly new) keeps ∙ is;
    }

module _ (run : List ℕ → ℕ) (b : Bounded run) (parts : List ℕ → List ℕ → Bool)
    (joins : (before after : List ℕ) → parts before after ≡ true → Joined run before after) (text : List ℕ) (qs : List Pin) (a : AllByRecursion (TruePin run parts text) qs) where
  -- at a wall as many runs end at or before it as start below it
  number_there : (w : ℕ) → w < length text → wall_at parts text w ≡ true → number_over w (cutting run text) ≡ number_at run text w
  number_there w h e =
      let parted = wall_joined run b parts joins text w e in
      let one : 1 ≤ length (drop w text) = simp length-drop (omega arith) in
      let some = b.some (drop w text) one in
      let none : number_over (w - w) (cutting run (drop w text)) ≡ 0 =
      ap (number_over (w - w)) (cutting_some run b (drop w text) one)
      ∙ cond-false (leb (run (drop w text)) (w - w)) _ _ (lt-leb _ _ (omega arith)) in
      let over = over_parted run b text w parted (omega arith) w (omega arith) in
      let number = parted_number run b text w (omega arith) parted in
      omega (arith, over.2, none, number)

  true_there : (w n : ℕ) → w < length text → wall_at parts text w ≡ true → n ≡ number_over w (cutting run text) → TruePin run parts text (a_pin w n)
  true_there w n h e is =
      record { is_wall = and_from _ _ (lt-ltb w (length text) h) e; is_numbered = is ∙ number_there w h e }

  true_is : (p : Pin) → TruePin run parts text p → p ≡ pinned_at run text p.place
  true_is p t = ap (λ n. a_pin p.place n) t.is_numbered

  module _ (place : ℕ) (inside : place < length text) where
    answered : {V : Type 0} (r s : Result V Refusal) → r ≡ s → r ≡ Rattle.books.specs.Plain.inside (length text) (length text) place s
    answered r s e = e ∙ place_taken s (length text) (length text) place (length text) refl refl inside

    -- unpin
    pub unpinned : (p : Pin) → Some p ≡ pin_at place qs → Ok p.number ≡ unpin_answer run (plainly text qs) (length text) place
    unpinned p e =
        let one = at_some (TruePin run parts text) place qs p a e in
        answered _ _ (ap (λ n. Ok n) (one.0.is_numbered ∙ ap (number_at run text) one.1) ∙ sym (cond-true _ _ _ one.2))

    pub not_pinned : None ≡ pin_at place qs → Err (NoPin place) ≡ unpin_answer run (plainly text qs) (length text) place
    not_pinned e = answered _ _ (sym (cond-false _ _ _ (at_none place qs e)))

    pub left_unpinned : (p : Pin) → Some p ≡ pin_at place qs → plainly text (without place qs) ≡ after_unpin run (plainly text qs) (length text) place
    left_unpinned p e =
        ap (λ (l : List ℕ). record { bytes = text; places = l }) (places_without place qs)
        ∙ sym (left_ok _ p.number _ _ (unpinned p e))

    -- pin, with the wall that is to be kept
    module _ (w : ℕ) (is : w ≡ nearest_wall parts text place) (within : w ≤ place) (wall : wall_at parts text w ≡ true) where
      pub pinned_again : (p : Pin) → Some p ≡ pin_at w qs → Ok p ≡ pin_answer run parts (plainly text qs) (length text) place
      pinned_again p e =
          let one = at_some (TruePin run parts text) w qs p a e in
          answered _ _ (ap (λ (q : Pin). Ok q) (true_is p one.0 ∙ ap (pinned_at run text) (one.1 ∙ is)) ∙ sym (cond-true _ _ _ (ap (λ n. is_in n (places_of qs)) (sym is) ∙ one.2)))

      pub pinned_new : (n : ℕ) → None ≡ pin_at w qs → length qs < 64 → n ≡ number_over w (cutting run text) → Ok (a_pin w n) ≡ pin_answer run parts (plainly text qs) (length text) place
      pinned_new n e few number =
          let true-one = true_there w n (omega arith) wall number in
          let less : length (places_of qs) < 64 = simp length-map few in
          answered _ _ (ap (λ (q : Pin). Ok q) (true_is (a_pin w n) true-one ∙ ap (pinned_at run text) is) ∙ sym (cond-true _ _ _ (lt-ltb _ _ less)) ∙ sym (cond-false _ _ _ (ap (λ n. is_in n (places_of qs)) (sym is) ∙ at_none w qs e)))

      pub pins_full : None ≡ pin_at w qs → length qs ≡ 64 → Err PinsFull ≡ pin_answer run parts (plainly text qs) (length text) place
      pins_full e full =
          let many : 64 ≤ length (places_of qs) = simp length-map (omega arith) in
          answered _ _ (sym (cond-false _ _ _ (le-ltb _ _ many)) ∙ sym (cond-false _ _ _ (ap (λ n. is_in n (places_of qs)) (sym is) ∙ at_none w qs e)))

      pub left_again : (p : Pin) → Some p ≡ pin_at w qs → plainly text qs ≡ after_pin run parts (plainly text qs) (length text) place
      left_again p e =
          let one = at_some (TruePin run parts text) w qs p a e in
          ap (λ (l : List ℕ). record { bytes = text; places = l }) (sym (cond-true _ _ _ (ap (λ n. is_in n (places_of qs)) (sym is) ∙ one.2)))
          ∙ sym (left_ok _ p _ _ (pinned_again p e))

      pub left_new : (n : ℕ) → None ≡ pin_at w qs → length qs < 64 → n ≡ number_over w (cutting run text)
          → (plainly text (insert (a_pin w n) qs) ≡ after_pin run parts (plainly text qs) (length text) place) × AllByRecursion (TruePin run parts text) (insert (a_pin w n) qs)
      left_new n e few number =
          let absent = at_none w qs e in
          let places : places_of (insert (a_pin w n) qs) ≡ added (nearest_wall parts text place) (places_of qs) =
          places_insert (a_pin w n) qs absent ∙ ap (λ v. placed v (places_of qs)) is ∙ sym (cond-false _ _ _ (ap (λ v. is_in v (places_of qs)) (sym is) ∙ absent)) in (
            ap (λ (l : List ℕ). record { bytes = text; places = l }) places ∙ sym (left_ok _ (a_pin w n) _ _ (pinned_new n e few number)),
            all_insert (TruePin run parts text) (a_pin w n) qs (true_there w n (omega arith) wall number) a,
          )
