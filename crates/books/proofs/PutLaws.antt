-- What put answers and leaves, beside the plain book.
use Rattle.std.proofs.Common.{◌≡◌, ℕ, zero, suc, ◌+◌, ◌-◌, ◌<◌, Bool, true, false, cond, ◌&&◌, List, length, set, neg_ℤ, Ok, sym, refl, ap, ◌∙◌, subst, arith}
use Rattle.std.specs.List.{AllByRecursion}
use Rattle.std.proofs.lemmas.List.{length-set}
use Rattle.std.proofs.lemmas.Int.{ints}
use Rattle.rules.specs.Cutting.{Bounded, Joined}
use Rattle.rules.specs.Answers.{wall_at}
use Rattle.pins.specs.declared.pin.Pin.{Pin}
use Rattle.pins.specs.Kept.{kept}
use Rattle.windows.specs.Windows.{gained, both_walls, greatest, least, window_begin, window_end}
use Rattle.windows.proofs.WindowLaws.{window_is, window_outside}
use Rattle.books.specs.declared.book.Book.{Book}
use Rattle.books.specs.declared.call.Change.{Change}
use Rattle.books.specs.Plain.{Plain, upset_by, put_answer, after_put}
use Rattle.books.specs.Faithful.{TruePin, Follows, places_of}
use Rattle.books.specs.Moves.{renumbered, Upset}
use Rattle.books.proofs.Refusing.{place_taken}
use Rattle.books.proofs.PinLaws.{follows_by, left_ok}
use Rattle.books.proofs.Renumbers.{places_renumbered, all_true_after}

-- ---- a byte that goes back
greatest_alike : (f g : ℕ → Bool) → ((q : ℕ) → f q ≡ g q) → (p : ℕ) → greatest f p ≡ greatest g p
unfolding greatest
greatest_alike f g e zero = refl
greatest_alike f g e (suc p) =
    ap (λ t. cond t (suc p) (greatest f p)) (e (suc p)) ∙ ap (cond (g (suc p)) (suc p)) (greatest_alike f g e p)

least_alike : (f g : ℕ → Bool) → ((q : ℕ) → f q ≡ g q) → (n p : ℕ) → least f n p ≡ least g n p
unfolding least
least_alike f g e zero p = refl
least_alike f g e (suc n) p =
    ap (λ t. cond t p (least f n (suc p))) (e p) ∙ ap (cond (g p) p) (least_alike f g e n (suc p))

and_turned : (x y : Bool) → (x && y) ≡ (y && x)
and_turned true true = refl
and_turned true false = refl
and_turned false true = refl
and_turned false false = refl

module _ (parts : List ℕ → List ℕ → Bool) (xs ys : List ℕ) (p : ℕ) where
  turned : (q : ℕ) → both_walls parts ys xs q ≡ both_walls parts xs ys q
  turned q = and_turned (wall_at parts ys q) (wall_at parts xs q)

  from_back : window_begin parts ys xs p ≡ window_begin parts xs ys p
  from_back = greatest_alike (both_walls parts ys xs) (both_walls parts xs ys) turned p

  to_back : length ys ≡ length xs → window_end parts ys xs p ≡ window_end parts xs ys p
  to_back e =
      ap (λ n. least (both_walls parts ys xs) (n - (p + 1)) (p + 1)) e
      ∙ least_alike (both_walls parts ys xs) (both_walls parts xs ys) turned (length xs - (p + 1)) (p + 1)

gained_back : (run : List ℕ → ℕ) (xs ys : List ℕ) → gained run ys xs ≡ neg_ℤ (gained run xs ys)
gained_back run xs ys = omega (arith, ints)

module _ (run : List ℕ → ℕ) (b : Bounded run) (parts : List ℕ → List ℕ → Bool)
    (joins : (before after : List ℕ) → parts before after ≡ true → Joined run before after) (xs : List ℕ) (p v : ℕ) (inside : p < length xs) where
  pub upset_is : (places : List ℕ) → Upset run parts xs (set xs p v) p (upset_by run parts (record { bytes = xs; places = places }) p v)
  upset_is places =
      record {
        is_window = window_is parts xs (set xs p v) p inside;
        same_outside = window_outside run b parts joins xs p v inside;
        same_window_back = (from_back parts xs (set xs p v) p, to_back parts xs (set xs p v) p (length-set xs p v));
        negated_back = gained_back run xs (set xs p v);
      }

  pub upset_by_it : (places : List ℕ) (c : Change) → c ≡ upset_by run parts (record { bytes = xs; places = places }) p v → Upset run parts xs (set xs p v) p c
  upset_by_it places c e = subst (Upset run parts xs (set xs p v) p) (sym e) (upset_is places)

  -- the pins that put leaves are true in the new text, and the plain book's
  follows_set : {R : Type 0} (qs : List Pin) (book : Book R) → AllByRecursion (TruePin run parts xs) qs → length xs ≡ book.pins.size
      → kept book.pins ≡ renumbered parts (set xs p v) (window_end parts xs (set xs p v) p) (gained run xs (set xs p v)) qs
      → Follows run parts book (set xs p v) (after_put run parts (record { bytes = xs; places = places_of qs }) (length xs) p v)
  follows_set qs book a long keeps =
      let plain : Plain = record { bytes = xs; places = places_of qs } in
      let answered : Ok (upset_by run parts plain p v) ≡ put_answer run parts plain (length xs) p v = place_taken _ (length xs) (length xs) p (length xs) refl refl inside in
      follows_by run parts book (set xs p v) (renumbered parts (set xs p v) (window_end parts xs (set xs p v) p) (gained run xs (set xs p v)) qs) _
      (length-set xs p v ∙ long) keeps
      (all_true_after run b parts joins xs p v (window_begin parts xs (set xs p v) p) (window_end parts xs (set xs p v) p) (window_is parts xs (set xs p v) p inside) qs a)
      (ap (λ (l : List ℕ). record { bytes = set xs p v; places = l }) (places_renumbered _ _ parts (set xs p v) qs) ∙ sym (left_ok _ (upset_by run parts plain p v) _ _ answered))

  pub follows_put : {R : Type 0} (qs : List Pin) (book : Book R) (zs : List ℕ) → zs ≡ set xs p v → AllByRecursion (TruePin run parts xs) qs → length xs ≡ book.pins.size
      → kept book.pins ≡ renumbered parts (set xs p v) (window_end parts xs (set xs p v) p) (gained run xs (set xs p v)) qs
      → Follows run parts book zs (after_put run parts (record { bytes = xs; places = places_of qs }) (length xs) p v)
  follows_put qs book zs e a long keeps =
      subst (λ (l : List ℕ). Follows run parts book l (after_put run parts (record { bytes = xs; places = places_of qs }) (length xs) p v)) (sym e) (follows_set qs book a long keeps)
