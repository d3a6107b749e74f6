-- Walking from a true pin.
use Rattle.std.proofs.Common.{◌≡◌, ℕ, ◌+◌, ◌-◌, ◌<◌, ◌≤◌, Bool, true, ltb, List, length, get_or, take, drop, Some, None, Ok, Err, Option, sym, refl, ap, ◌∙◌, subst, arith, length-append}
use Rattle.std.specs.Option.{UnwrapsOrElse}
use Rattle.std.specs.List.{AllByRecursion}
use Rattle.std.proofs.lemmas.Bool.{and_parts, ltb-true, cond-true, cond-false, lt-ltb, le-ltb}
use Rattle.std.proofs.lemmas.List.{length-map, get_or-map}
use Rattle.std.proofs.ByRecursion.{All-get_or}
use Rattle.refusals.specs.declared.Refusal.TheVariants.{NumberOutside}
use Rattle.rules.specs.Cutting.{cutting, Bounded, Joined}
use Rattle.rules.specs.Answers.{wall_at}
use Rattle.rules.specs.Runs.{nth_from, over_from, run_over_byte, starts_at, ends_at, span_of}
use Rattle.rules.specs.declared.runs.Run.{Run}
use Rattle.rules.specs.declared.runs.Span.{Span}
use Rattle.rules.specs.Cuts.{cutting_none}
use Rattle.rules.proofs.Lawful.{wall_joined}
use Rattle.rules.proofs.WallLaws.{Parted, parted_cutting, parted_number}
use Rattle.rules.proofs.RunLaws.{a_run, over_later_parted, nth_parted}
use Rattle.windows.specs.Windows.{runs}
use Rattle.pins.specs.declared.pin.Pin.{Pin}
use Rattle.pins.specs.Order.{last_by, nought}
use Rattle.pins.proofs.Lasts.{last_of}
use Rattle.books.specs.Plain.{number_at, pinned_at, fetch_answer, read_answer}
use Rattle.books.specs.Faithful.{TruePin, places_of}
use Rattle.books.proofs.Refusing.{length_taken}

abbrev pub a_pin : ℕ → ℕ → Pin
a_pin p n = record { place = p; number = n }

abbrev a_span : ℕ → ℕ → Span
a_span s e = record { start = s; end = e }

module _ (run : List ℕ → ℕ) (b : Bounded run) (parts : List ℕ → List ℕ → Bool)
    (joins : (before after : List ℕ) → parts before after ≡ true → Joined run before after) (text : List ℕ) where
  -- a place to walk from: the text is cut apart there, and the number of runs before it is known
  pub record Start (q : Pin) : Type 0 where
    pub parted : Parted run b text q.place
    pub short : q.place ≤ length text
    pub counted : q.number ≡ length (cutting run (take q.place text))

  pub true_start : (q : Pin) → TruePin run parts text q → Start q
  true_start q t =
      let two = and_parts (ltb q.place (length text)) (wall_at parts text q.place) t.is_wall in
      let inside = ltb-true q.place (length text) two.0 in
      let parted = wall_joined run b parts joins text q.place two.1 in
      record {
        parted = parted;
        short = omega arith;
        counted = t.is_numbered ∙ parted_number run b text q.place (omega arith) parted;
      }

  first_start : Start nought
  first_start =
      record {
        parted = wall_joined run b parts joins text 0 refl;
        short = omega arith;
        counted = sym (ap length (cutting_none run b));
      }

  -- the pin that was found, or the text's start
  pub start_found : (test : Pin → Bool) (qs : List Pin) → AllByRecursion (TruePin run parts text) qs → (r : Option Pin) → r ≡ last_by test qs
      → (P : Pin → Type 0) → ((q : Pin) → P q → q ≡ nought) → (q : Pin) → UnwrapsOrElse r P q → Start q
  start_found test qs a None e P default q is = subst Start (sym (default q is)) first_start
  start_found test qs a (Some p) e P default q is = subst Start (sym is) (true_start p (last_of (TruePin run parts text) test qs p a e).0)

  -- the run over a place
  pub look_from : (q : Pin) (place : ℕ) → Start q → q.place ≤ place → (r : Run) → r ≡ over_from run text q.place place → a_run (q.number + r.number) r.start r.end ≡ run_over_byte (cutting run text) place
  look_from q place s h r e =
      ap (λ (v : Run). a_run (q.number + v.number) v.start v.end) e
      ∙ ap (λ n. a_run (n + (over_from run text q.place place).number) (over_from run text q.place place).start (over_from run text q.place place).end) s.counted
      ∙ sym (over_later_parted run b text q.place s.parted s.short place h)

  -- the run of a number
  pub fetch_from : (q : Pin) (number : ℕ) → Start q → q.number ≤ number
      → (runs run text ≡ q.number + length (cutting run (drop q.place text)))
      × (record { start = starts_at (cutting run text) number; end = ends_at (cutting run text) number } ≡ span_of (nth_from q.place (cutting run (drop q.place text)) (number - q.number)))
  fetch_from q number s h =
      let front = length (cutting run (take q.place text)) in
      let counted = s.counted in
      let all = ap length (parted_cutting run b text q.place s.parted) ∙ length-append (cutting run (take q.place text)) (cutting run (drop q.place text)) in
      let e : number ≡ length (cutting run (take q.place text)) + (number - q.number) = omega arith in
      let n = nth_parted run b text q.place s.parted s.short (number - q.number) in
      let bare : record { start = starts_at (cutting run text) number; end = ends_at (cutting run text) number } ≡ span_of (nth_from 0 (cutting run text) number) = nothing_added (starts_at (cutting run text) number) (ends_at (cutting run text) number) in
      (omega arith, bare ∙ ap (λ m. span_of (nth_from 0 (cutting run text) m)) e ∙ ap span_of n)
    where
      nothing_added : (x y : ℕ) → a_span x y ≡ a_span (0 + x) (0 + y)
      nothing_added x y =
          let p : x ≡ 0 + x = omega arith in
          let r : y ≡ 0 + y = omega arith in
          ap (λ v. a_span v y) p ∙ ap (a_span (0 + x)) r

  pub fetched_some : (ps : List ℕ) (q : Pin) (number : ℕ) (r : Run) → Start q → q.number ≤ number → number - q.number < length (cutting run (drop q.place text))
      → r ≡ nth_from q.place (cutting run (drop q.place text)) (number - q.number)
      → Ok (a_span r.start r.end) ≡ fetch_answer run (record { bytes = text; places = ps }) (length text) number
  fetched_some ps q number r s h l e =
      let f = fetch_from q number s h in
      let few : number < runs run text = omega arith in
      ap (λ (v : Run). Ok (span_of v)) e ∙ ap (λ (v : Span). Ok v) (sym f.1)
      ∙ sym (cond-true _ _ _ (lt-ltb number (runs run text) few)) ∙ length_taken _ (length text) (length text) (length text) refl refl

  pub fetched_none : (ps : List ℕ) (q : Pin) (number : ℕ) → Start q → q.number ≤ number → length (cutting run (drop q.place text)) ≤ number - q.number
      → Err (NumberOutside number) ≡ fetch_answer run (record { bytes = text; places = ps }) (length text) number
  fetched_none ps q number s h l =
      let f = fetch_from q number s h in
      let many : runs run text ≤ number = omega arith in
      sym (cond-false _ _ _ (le-ltb number (runs run text) many)) ∙ length_taken _ (length text) (length text) (length text) refl refl

  -- the pin of an index
  pub read_some : (qs : List Pin) (k : ℕ) (q : Pin) → AllByRecursion (TruePin run parts text) qs → k < length qs → q ≡ get_or qs k nought
      → Ok q ≡ read_answer run (record { bytes = text; places = places_of qs }) (length text) k
  read_some qs k q a h e =
      let true-one = All-get_or (TruePin run parts text) qs k nought h a in
      let place : q.place ≡ get_or (places_of qs) k 0 = ap (λ (p : Pin). p.place) e ∙ sym (get_or-map (λ (p : Pin). p.place) qs k nought 0 h) in
      let number : q.number ≡ number_at run text q.place = ap (λ (p : Pin). p.number) e ∙ true-one.is_numbered ∙ ap (λ (p : Pin). number_at run text p.place) (sym e) in
      let same : q ≡ pinned_at run text q.place = ap (λ n. a_pin q.place n) number in
      let few : k < length (places_of qs) = simp length-map h in
      ap (λ (p : Pin). Ok p) (same ∙ ap (pinned_at run text) place)
      ∙ sym (cond-true _ _ _ (lt-ltb k (length (places_of qs)) few)) ∙ length_taken _ (length text) (length text) (length text) refl refl

  pub read_none : (qs : List Pin) (k : ℕ) → length qs ≤ k → Err (NumberOutside k) ≡ read_answer run (record { bytes = text; places = places_of qs }) (length text) k
  read_none qs k h =
      let many : length (places_of qs) ≤ k = simp length-map h in
      sym (cond-false _ _ _ (le-ltb k (length (places_of qs)) many)) ∙ length_taken _ (length text) (length text) (length text) refl refl
