-- The runs of a text as a list, one after the other.
use Rattle.std.proofs.Common.{◌≡◌, ℕ, zero, suc, ◌+◌, ◌<◌, ◌≤◌, ltb, Bool, List, [], ◌∷◌, ◌++◌, length, drop, Option, Some, None, IsSome, MatchOption, slice_get, option_map, sym, refl, ap, ◌∙◌, subst, ⊎_elim, arith}
use Rattle.std.specs.List.{find}
use Rattle.std.proofs.lemmas.List.{drop_all}
use Rattle.std.proofs.lemmas.Bool.{cond-true, cond-false, cases_lt, lt-ltb, le-ltb}
use Rattle.std.proofs.lemmas.Iterator.Adapters.{option_map_id}
use Rattle.rules.specs.Cutting.{cutting, Bounded}
use Rattle.rules.specs.CutFiles.{record_of, records}
use Rattle.rules.specs.Runs.{nth_from, over_from, runs_of}
use Rattle.rules.specs.declared.runs.Run.{Run}
use Rattle.rules.specs.Cuts.{cutting_from, cutting_none, end_inside}
use Rattle.rules.proofs.RunLaws.{a_run, same_run, later_by, walk_ends, walk_goes, nth_ends, nth_goes, runs_goes}

pub runs_size : (number place : ℕ) (ks : List ℕ) → length (runs_of number place ks) ≡ length ks
runs_size number place [] = refl
runs_size number place (k ∷ ks) = ap (λ (n : ℕ). suc n) (runs_size (number + 1) (place + k) ks)

-- the records of a list of runs
abbrev pub all_records : List Run → List ℕ
all_records [] = []
all_records (r ∷ rs) = record_of r.start r.end ++ all_records rs

pub records_of_runs : (number place : ℕ) (ks : List ℕ) → all_records (runs_of number place ks) ≡ records place ks
records_of_runs number place [] = refl
records_of_runs number place (k ∷ ks) = ap (λ (l : List ℕ). record_of place (place + k) ++ l) (records_of_runs (number + 1) (place + k) ks)

-- each run has a byte, and ends at or before a place
abbrev pub Within : ℕ → List Run → Type 0
Within top [] = Unit {0}
Within top (r ∷ rs) = (r.start < r.end) × (r.end ≤ top) × Within top rs

-- a run ends past a place
abbrev pub passing : ℕ → Run → Bool
passing place r = ltb place r.end

-- that something was found
pub was_found : {X : Type 0} (Q : X → Type 0) (o : Option X) → MatchOption o ⊥ Q → IsSome o
was_found Q None h = absurd h
was_found Q (Some x) h = refl

later_none : (r : Run) → later_by 0 r ≡ r
later_none r = ap (λ (n : ℕ). a_run n r.start r.end) (omega arith)

module _ (run : List ℕ → ℕ) (b : Bounded run) (text : List ℕ) where
  -- the runs from a place on
  abbrev pub from_place : ℕ → ℕ → List Run
  from_place number at = runs_of number at (cutting run (drop at text))

  pub none_left : (number at : ℕ) → length text ≤ at → from_place number at ≡ []
  none_left number at h = ap (λ (l : List ℕ). runs_of number at (cutting run l)) (drop_all at text h) ∙ ap (runs_of number at) (cutting_none run b)

  pub first_left : (number at end : ℕ) → at < length text → end ≡ at + run (drop at text) → from_place number at ≡ a_run number at end ∷ from_place (number + 1) end
  first_left number at end h e =
      ap (runs_of number at) (cutting_from run b text at end h e)
      ∙ ap (λ (n : ℕ). a_run number at n ∷ runs_of (number + 1) n (cutting run (drop end text))) (sym e)

  -- what holds of no runs at the end, and of a run more where it holds of those that follow, holds of the runs from each place
  module _ (P : ℕ → ℕ → List Run → Type 0)
      (none : (number at : ℕ) → at ≡ length text → P number at [])
      (more : (number at end : ℕ) → at < end → end ≤ length text → at < length text → end ≡ at + run (drop at text) → P (number + 1) end (from_place (number + 1) end) → P number at (a_run number at end ∷ from_place (number + 1) end)) where
    turns : (n number at : ℕ) → length text ≤ at + n → at ≤ length text → P number at (from_place number at)
    turns zero number at h l = subst (P number at) (sym (none_left number at (omega arith))) (none number at (omega arith))
    turns (suc n) number at h l =
        ⊎_elim
        (λ (inside : at < length text).
        let end = at + run (drop at text) in
        let there = end_inside run b text at end inside refl in
        subst (P number at) (sym (first_left number at end inside refl))
        (more number at end there.0 there.1 inside refl (turns n (number + 1) end (omega arith) there.1)))
        (λ (past : length text ≤ at). subst (P number at) (sym (none_left number at past)) (none number at (omega arith)))
        (cases_lt at (length text))

    pub along : (number at : ℕ) → at ≤ length text → P number at (from_place number at)
    along number at l = turns (length text) number at (omega arith) l

  pub within_text : (number at : ℕ) → at ≤ length text → Within (length text) (from_place number at)
  within_text = along (λ _ _ rs. Within (length text) rs) (λ _ _ _. tt) (λ _ _ _ l h _ _ rest. (l, h, rest))

  -- what is so of the first run that ends past a place
  pub record Over (number at place : ℕ) (r : Run) : Type 0 where
    pub value : r ≡ later_by number (over_from run text at place)
    pub start : (at ≤ r.start) × (r.start ≤ place)
    pub end : (place < r.end) × (r.end ≤ length text)
    pub few : r.number + at ≤ number + r.start

  found : (place number at : ℕ) → at ≤ length text → at ≤ place → place < length text
      → (r : Run) × (find (passing place) (from_place number at) ≡ Some r) × Over number at place r
  found place =
      along (λ number at rs. at ≤ place → place < length text → (r : Run) × (find (passing place) rs ≡ Some r) × Over number at place r)
      (λ number at is h l. absurd (omega arith))
      (λ number at end some within inside is rest h l.
      ⊎_elim
      (λ (here : place < end). (
        a_run number at end,
        cond-true _ _ _ (lt-ltb place end here),
        record {
          value =
              same_run number (number + 0) at at end end (omega arith) refl refl ∙ ap (later_by number) (sym (walk_ends run b text at end inside is place h here));
          start = (omega arith, h);
          end = (here, within);
          few = omega arith;
        },
      ))
      (λ (past : end ≤ place).
      let on = rest past l in (
        on.0,
        cond-false _ _ _ (le-ltb place end past) ∙ on.1,
        record {
          value =
              on.2.value ∙ later_twice number (over_from run text end place) ∙ ap (later_by number) (sym (walk_goes run b text at end inside is place past));
          start = (omega arith, on.2.start.1);
          end = on.2.end;
          few = omega arith;
        },
      ))
      (cases_lt place end))
    where
      later_twice : (n : ℕ) (r : Run) → later_by (n + 1) r ≡ later_by n (later_by 1 r)
      later_twice n r = ap (λ (m : ℕ). a_run m r.start r.end) (omega arith)

  -- a search from a place finds it
  pub found_from : (at place : ℕ) (o : Option Run) → at ≤ place → place < length text
      → option_map (λ (r : Run). r) o ≡ find (passing place) (from_place 0 at)
      → MatchOption o ⊥ (λ r. (r ≡ over_from run text at place) × Over 0 at place r)
  found_from at place o h l e =
      let first = found place 0 at (omega arith) h l in
      subst (λ (q : Option Run). MatchOption q ⊥ (λ r. (r ≡ over_from run text at place) × Over 0 at place r))
      (sym (sym (option_map_id o) ∙ e ∙ first.1)) (first.2.value ∙ later_none _, first.2)

  -- the run that so many come before
  pub record Nth (number at count : ℕ) (r : Run) : Type 0 where
    pub there : count < length (cutting run (drop at text))
    pub value : r ≡ later_by number (nth_from at (cutting run (drop at text)) count)
    pub some : r.start < r.end
    pub within : r.end ≤ length text

  nth : (count number at : ℕ) → at ≤ length text
      → MatchOption (slice_get (from_place number at) count) (length (cutting run (drop at text)) ≤ count) (Nth number at count)
  nth count number at l =
      along (λ number at rs. (count : ℕ) → MatchOption (slice_get rs count) (length (cutting run (drop at text)) ≤ count) (Nth number at count))
      (λ number at is count. omega (arith, ap (λ (l : List ℕ). length (cutting run l)) (drop_all at text (omega arith)), ap (λ (l : List ℕ). length l) (cutting_none run b)))
      (λ number at end some within inside is rest. nth_more number at end some within inside is rest)
      number at l count
    where
      further : (n : ℕ) (r s : Run) → s ≡ later_by 1 r → later_by (n + 1) r ≡ later_by n s
      further n r s e = ap (λ (m : ℕ). a_run m r.start r.end) (omega arith) ∙ ap (later_by n) (sym e)

      nth_more : (number at end : ℕ) → at < end → end ≤ length text → at < length text → end ≡ at + run (drop at text)
          → ((count : ℕ) → MatchOption (slice_get (from_place (number + 1) end) count) (length (cutting run (drop end text)) ≤ count) (Nth (number + 1) end count))
          → (count : ℕ) → MatchOption (slice_get (a_run number at end ∷ from_place (number + 1) end) count) (length (cutting run (drop at text)) ≤ count) (Nth number at count)
      nth_more number at end some within inside is rest zero =
          let size = runs_goes run b text at end inside is in
          record {
            there = omega arith;
            value =
                same_run number (number + 0) at at end end (omega arith) refl refl ∙ ap (later_by number) (sym (nth_ends run b text at end inside is));
            some = some;
            within = within;
          }
      nth_more number at end some within inside is rest (suc count) =
          let size = runs_goes run b text at end inside is in
          let next : suc count ≡ 1 + count = omega arith in
          let on = ap (nth_from at (cutting run (drop at text))) next ∙ nth_goes run b text at end inside is count in
          elim (slice_get (from_place (number + 1) end) count) as (λ o. MatchOption o (length (cutting run (drop end text)) ≤ count) (Nth (number + 1) end count) → MatchOption o (length (cutting run (drop at text)) ≤ suc count) (Nth number at (suc count))) [
            | None ↦ λ h. omega arith
            | Some r ↦ λ h. record {
              there = omega arith;
              value = h.value ∙ further number (nth_from end (cutting run (drop end text)) count) _ on;
              some = h.some;
              within = h.within;
            }
          ] (rest count)

  -- and what is taken at that number is it, where there is one
  pub nth_from_place : (at count : ℕ) (o : Option Run) → at ≤ length text
      → option_map (λ (r : Run). r) o ≡ slice_get (from_place 0 at) count
      → MatchOption o (length (cutting run (drop at text)) ≤ count)
      (λ v. (count < length (cutting run (drop at text))) × (v ≡ nth_from at (cutting run (drop at text)) count) × (v.start < v.end) × (v.end ≤ length text))
  nth_from_place at count o l e = told o (subst (λ (q : Option Run). MatchOption q (length (cutting run (drop at text)) ≤ count) (Nth 0 at count)) (sym (sym (option_map_id o) ∙ e)) (nth count 0 at l))
    where
      told : (o : Option Run) → MatchOption o (length (cutting run (drop at text)) ≤ count) (Nth 0 at count)
          → MatchOption o (length (cutting run (drop at text)) ≤ count)
          (λ v. (count < length (cutting run (drop at text))) × (v ≡ nth_from at (cutting run (drop at text)) count) × (v.start < v.end) × (v.end ≤ length text))
      told None h = h
      told (Some r) h = (h.there, h.value ∙ later_none _, h.some, h.within)
