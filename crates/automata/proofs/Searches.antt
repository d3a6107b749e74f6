-- What a search has found: over a range of numbers, or the place of an element of a slice.
use Rattle.std.proofs.Common.{◌≡◌, ℕ, ◌+◌, ◌-◌, ◌<◌, ◌≤◌, Bool, true, false, List, length, get_or, refl, Some, None, Option, Decides, sym, subst, inl, inr, arith}
use Rattle.std.specs.Option.{MatchOption}
use Rattle.std.specs.Bool.{MatchBool, ⊤}
use Rattle.std.specs.Fn.{Called, CalledAt}
use Rattle.std.specs.Iterator.{YieldsThen}
use Rattle.std.specs.List.{range_with_len, FoldsTo, AllWithin, HoldsAt}
use Rattle.std.specs.declared.ops.Range.{Range}
use Rattle.std.proofs.iter.Yields.{nat_range_steps}
use Rattle.std.proofs.lemmas.Bool.{cases_lt, false≢true}
use Rattle.std.proofs.lemmas.Iterator.{YieldsList-from_range, cases_from_all, cases_from_any, first_from_Range}
use Rattle.std.proofs.lemmas.List.FromFn.{length-range_with_len, get_or-range_with_len}
use denote.Param.Members.{Mut}
use denote.Ref.{Bor}
use Rattle.automata.specs.Stuck.{Least}

-- the first place of which P holds, or none below n
pub least_first : (P : ℕ → Type 0) (n : ℕ) (r : Option ℕ) → ((k : ℕ) → P k → k < n)
    → MatchOption r ((k : ℕ) → k < n → P k → ⊥) (λ i. P i × ((k : ℕ) → k < i → P k → ⊥)) → Least P r
least_first P n None below h = λ k p. h k (below k p) p
least_first P n (Some i) below h = (h.0, λ j p. elim (cases_lt j i) [ inl l ↦ absurd (h.1 j l p) | inr g ↦ g ])

module _ (s : Range ℕ) where
  number_at : (k : ℕ) → k < length (range_with_len s.start (s.end - s.start)) → get_or (range_with_len s.start (s.end - s.start)) k 0 ≡ s.start + k
  number_at k h = get_or-range_with_len s.start (s.end - s.start) k 0 (omega (arith, length-range_with_len s.start (s.end - s.start)))

  place_of : (k : ℕ) → s.start ≤ k → k < s.end → k - s.start < length (range_with_len s.start (s.end - s.start))
  place_of k a b = omega (arith, length-range_with_len s.start (s.end - s.start))

module _ {F : Type 0} {g : Mut F (ℕ × Unit {0}) Bool} (s u : Range ℕ) (f : F) (P : ℕ → Type 0) where
  -- `all` over a range
  pub all_numbers : (r : Bool)
      → (xs : List ℕ) × (o : Option ℕ) × (j : F) × YieldsThen nat_range_steps s xs o u × FoldsTo (λ p x q. Called g p (x, tt) true q) f xs j
      × MatchOption o (r ≡ true) (λ x. (r ≡ false) × ((h : F) × Called g j (x, tt) false h))
      → ((x : ℕ) (q : F) → Called g f (x, tt) true q → (q ≡ f) × P x) → ((x : ℕ) (q : F) → Called g f (x, tt) false q → P x → ⊥)
      → Decides r ((k : ℕ) → s.start ≤ k → k < s.end → P k)
  all_numbers r ran hit miss =
      by r (cases_from_all u f r P (λ k. P k → ⊥) ran (YieldsList-from_range s.start s.end _ refl refl) hit miss)
    where
      all : List ℕ
      all = range_with_len s.start (s.end - s.start)

      by : (t : Bool) → MatchBool t (AllWithin P all 0 (length all)) ((k : ℕ) × (k < length all) × HoldsAt (λ k. P k → ⊥) all k)
          → Decides t ((k : ℕ) → s.start ≤ k → k < s.end → P k)
      by true h = (λ _ k a b. subst P (omega (arith, number_at s (k - s.start) (place_of s k a b))) (h (k - s.start) 0 (omega arith) (place_of s k a b)), λ _. refl)
      by false h = (
        λ e. absurd (false≢true e),
        λ p. absurd (h.2 0 (subst P (sym (number_at s h.0 h.1)) (p (s.start + h.0) (omega arith) (omega (arith, h.1, length-range_with_len s.start (s.end - s.start)))))),
      )

  -- `any` over a range
  pub any_number : (r : Bool)
      → (xs : List ℕ) × (o : Option ℕ) × (j : F) × YieldsThen nat_range_steps s xs o u × FoldsTo (λ p x q. Called g p (x, tt) false q) f xs j
      × MatchOption o (r ≡ false) (λ x. (r ≡ true) × ((h : F) × Called g j (x, tt) true h))
      → ((x : ℕ) (q : F) → Called g f (x, tt) true q → P x) → ((x : ℕ) (q : F) → Called g f (x, tt) false q → (q ≡ f) × (P x → ⊥))
      → Decides r ((k : ℕ) × (s.start ≤ k) × (k < s.end) × P k)
  any_number r ran hit miss =
      by r (cases_from_any u f r P (λ k. P k → ⊥) ran (YieldsList-from_range s.start s.end _ refl refl) hit miss)
    where
      all : List ℕ
      all = range_with_len s.start (s.end - s.start)

      by : (t : Bool) → MatchBool t ((k : ℕ) × (k < length all) × HoldsAt P all k) (AllWithin (λ k. P k → ⊥) all 0 (length all))
          → Decides t ((k : ℕ) × (s.start ≤ k) × (k < s.end) × P k)
      by true h = (
        λ _. (s.start + h.0, omega arith, omega (arith, h.1, length-range_with_len s.start (s.end - s.start)), subst P (number_at s h.0 h.1) (h.2 0)),
        λ _. refl,
      )
      by false h = (
        λ e. absurd (false≢true e),
        λ p. let i = place_of s p.0 p.1 p.2 in
            absurd (h (p.0 - s.start) 0 (omega arith) i (subst P (omega (arith, number_at s (p.0 - s.start) i)) p.3)),
      )

-- `find` over the numbers below an end
pub least_number : {F : Type 0} {g : Mut F (Bor ℕ × Unit {0}) Bool} (s u : Range ℕ) (f : F) (r : Option ℕ) (P : ℕ → Type 0) → s.start ≡ 0
    → (xs : List ℕ) × (j : F) × YieldsThen nat_range_steps s xs r u × FoldsTo (λ p x q. CalledAt g p x false q) f xs j × MatchOption r ⊤ (λ x. (h : F) × CalledAt g j x true h)
    → ((x : ℕ) (q : F) → CalledAt g f x true q → P x) → ((x : ℕ) (q : F) → CalledAt g f x false q → (q ≡ f) × (P x → ⊥))
    → ((k : ℕ) → P k → k < s.end) → Least P r
least_number s u f r P low ran hit miss below = least_first P s.end r below (by r (first_from_Range s u f r P (λ k. P k → ⊥) ran hit miss))
  where
    by : (o : Option ℕ) → MatchOption o ((k : ℕ) → s.start ≤ k → k < s.end → P k → ⊥) (λ i. (s.start ≤ i) × (i < s.end) × P i × ((k : ℕ) → s.start ≤ k → k < i → P k → ⊥))
        → MatchOption o ((k : ℕ) → k < s.end → P k → ⊥) (λ i. P i × ((k : ℕ) → k < i → P k → ⊥))
    by None h = λ k b. h k (omega arith) b
    by (Some i) h = (h.2, λ k l. h.3 k (omega arith) l)
