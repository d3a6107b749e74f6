-- Lists of checks: what passes, and which fails first.
use Rattle.std.proofs.Common.{◌≡◌, ℕ, zero, suc, ◌+◌, ◌<◌, ◌≤◌, Bool, true, false, List, [], ◌∷◌, ◌++◌, is_some, Some, None, Ok, Err, Option, Result, sym, refl, ap, ◌∙◌, subst, inl, inr, arith}
use Rattle.std.proofs.lemmas.Bool.{cond-true, cond-false, cases_Bool, cases_eq, true≢false}
use Rattle.refusals.specs.declared.Refusal.{Refusal}
use Rattle.tables.specs.Checks.{Check, first_failed, Passes, Checked, each}

none_some : {X : Type 0} (x : Option Refusal) (e : Refusal) → x ≡ Some e → x ≡ None → X
none_some x e p q = let z : ◌≡◌ {A = ℕ} 0 1 = cc in absurd (omega arith)

-- no check failed
pub none_failed : (x : Option Refusal) → is_some x ≡ false → x ≡ None
none_failed None e = refl
none_failed (Some r) e = let z : ◌≡◌ {A = Bool} true false = e in absurd (true≢false z)

-- of a list that passes, each check passes
pub head_passes : (c : Check) (cs : List Check) → Passes (c ∷ cs) → c.0 ≡ true
head_passes c cs p = elim (cases_Bool c.0) [ inl t ↦ t | inr f ↦ none_some _ c.1 (cond-false _ _ _ f) p ]

pub tail_passes : (c : Check) (cs : List Check) → Passes (c ∷ cs) → Passes cs
tail_passes c cs p = sym (cond-true _ _ _ (head_passes c cs p)) ∙ p

-- the same, one after the other
abbrev pub AllPass : List Check → Type 0
AllPass [] = Unit {0}
AllPass (c ∷ cs) = (c.0 ≡ true) × AllPass cs

pub all_pass : (cs : List Check) → Passes cs → AllPass cs
all_pass [] p = tt
all_pass (c ∷ cs) p = (head_passes c cs p, all_pass cs (tail_passes c cs p))

-- two lists, one after the other
pub append_passes : (cs ds : List Check) → Passes cs → first_failed (cs ++ ds) ≡ first_failed ds
append_passes [] ds p = refl
append_passes (c ∷ cs) ds p = cond-true _ _ _ (head_passes c cs p) ∙ append_passes cs ds (tail_passes c cs p)

pub append_fails : (cs ds : List Check) (e : Refusal) → first_failed cs ≡ Some e → first_failed (cs ++ ds) ≡ Some e
append_fails [] ds e p = none_some _ e p refl
append_fails (c ∷ cs) ds e p =
    elim (cases_Bool c.0) [
      | inl t ↦ cond-true _ _ _ t ∙ append_fails cs ds e (sym (cond-true _ _ _ t) ∙ p)
      | inr f ↦ cond-false _ _ _ f ∙ sym (cond-false _ _ _ f) ∙ p
    ]

pub left_passes : (cs ds : List Check) → Passes (cs ++ ds) → Passes cs
left_passes [] ds p = refl
left_passes (c ∷ cs) ds p =
    cond-true _ _ _ (head_passes c (cs ++ ds) p) ∙ left_passes cs ds (tail_passes c (cs ++ ds) p)

pub right_passes : (cs ds : List Check) → Passes (cs ++ ds) → Passes ds
right_passes cs ds p = sym (append_passes cs ds (left_passes cs ds p)) ∙ p

-- an answer to checks that come to the same
pub checked_same : {V : Type 0} (cs ds : List Check) → first_failed cs ≡ first_failed ds → (r : Result V Refusal) → Checked ds r → Checked cs r
checked_same cs ds e (Ok v) p = e ∙ p
checked_same cs ds e (Err f) p = e ∙ p

-- an answer to the checks behind some that pass
pub checked_behind : {V : Type 0} (cs ds : List Check) → Passes cs → (r : Result V Refusal) → Checked ds r → Checked (cs ++ ds) r
checked_behind cs ds p = checked_same (cs ++ ds) ds (append_passes cs ds p)

-- a check for each of n numbers, from i on
module _ (f : ℕ → Check) where
  pub each_passes : (i n : ℕ) → ((k : ℕ) → i ≤ k → k < i + n → (f k).0 ≡ true) → Passes (each f i n)
  unfolding each
  each_passes i zero h = refl
  each_passes i (suc n) h =
      cond-true _ _ _ (h i (omega arith) (omega arith)) ∙ each_passes (suc i) n (λ k lo hi. h k (omega arith) (omega arith))

  pub each_fails : (i n k : ℕ) → i ≤ k → k < i + n → ((j : ℕ) → i ≤ j → j < k → (f j).0 ≡ true) → (f k).0 ≡ false → first_failed (each f i n) ≡ Some (f k).1
  unfolding each
  each_fails i zero k lo hi h e = absurd (omega arith)
  each_fails i (suc n) k lo hi h e =
      elim (cases_eq i k) [
        | inl q ↦
            let here : (f i).0 ≡ false = subst (λ (m : ℕ). (f m).0 ≡ false) (sym q) e in
            cond-false _ _ _ here ∙ ap (λ (m : ℕ). Some (f m).1) q
        | inr m ↦ cond-true _ _ _ (h i (omega arith) (omega arith)) ∙ each_fails (suc i) n k (omega arith) (omega arith) (λ j l u. h j (omega arith) u) e
      ]

  pub passes_each : (i n : ℕ) → Passes (each f i n) → (k : ℕ) → i ≤ k → k < i + n → (f k).0 ≡ true
  unfolding each
  passes_each i zero p k lo hi = absurd (omega arith)
  passes_each i (suc n) p k lo hi =
      elim (cases_eq i k) [
        | inl q ↦ subst (λ (m : ℕ). (f m).0 ≡ true) q (head_passes (f i) (each f (suc i) n) p)
        | inr m ↦ passes_each (suc i) n (tail_passes (f i) (each f (suc i) n) p) k (omega arith) (omega arith)
      ]
