-- The greatest and the least place that passes a test.
use Rattle.std.proofs.Common.{◌≡◌, ℕ, zero, suc, ◌+◌, ◌-◌, ◌<◌, ◌≤◌, Bool, true, false, sym, refl, ap, ◌∙◌, ⊎_elim, arith}
use Rattle.std.proofs.lemmas.Bool.{cond-true, cond-false, cond_both, cases_eq}
use Rattle.windows.specs.Windows.{greatest, least}

module _ (test : ℕ → Bool) where
  -- ---- downwards
  pub greatest_le : (p : ℕ) → greatest test p ≤ p
  unfolding greatest
  greatest_le zero = omega arith
  greatest_le (suc p) =
      cond_both (test (suc p)) (suc p) (greatest test p) (λ v. v ≤ suc p) (λ e. omega arith) (λ e. omega (arith, greatest_le p))

  pub greatest_passes : (p : ℕ) → test 0 ≡ true → test (greatest test p) ≡ true
  unfolding greatest
  greatest_passes zero first = first
  greatest_passes (suc p) first =
      cond_both (test (suc p)) (suc p) (greatest test p) (λ v. test v ≡ true) (λ e. e) (λ e. greatest_passes p first)

  -- none between it and the place passes
  pub greatest_above : (p q : ℕ) → greatest test p < q → q ≤ p → test q ≡ false
  unfolding greatest
  greatest_above zero q l h = absurd (omega arith)
  greatest_above (suc p) q l h =
      cond_both (test (suc p)) (suc p) (greatest test p) (λ v. v < q → test q ≡ false)
      (λ e m. absurd (let z : ⊥ = omega arith in z))
      (λ e m.
      ⊎_elim
      (λ (same : q ≡ suc p). ap test same ∙ e)
      (λ (ne : q ≡ suc p → ⊥). greatest_above p q m (let le : q ≤ p = omega arith in le))
      (cases_eq q (suc p)))
      l

  -- a search from the place downwards: it ends at one that passes or at 0, and else goes on below
  pub greatest_here : (p : ℕ) → test p ≡ true → greatest test p ≡ p
  unfolding greatest
  greatest_here zero e = refl
  greatest_here (suc p) e = cond-true _ _ _ e

  pub greatest_none : (p : ℕ) → p ≤ 0 → greatest test p ≡ p
  unfolding greatest
  greatest_none zero h = refl
  greatest_none (suc p) h = absurd (omega arith)

  pub greatest_down : (p : ℕ) → 0 < p → test p ≡ false → greatest test (p - 1) ≡ greatest test p
  unfolding greatest
  greatest_down zero h e = absurd (omega arith)
  greatest_down (suc p) h e = let i : suc p - 1 ≡ p = omega arith in ap (greatest test) i ∙ sym (cond-false _ _ _ e)

  -- ---- upwards
  pub least_ge : (n p : ℕ) → p ≤ least test n p
  unfolding least
  least_ge zero p = omega arith
  least_ge (suc n) p =
      cond_both (test p) p (least test n (suc p)) (λ v. p ≤ v) (λ e. omega arith) (λ e. omega (arith, least_ge n (suc p)))

  pub least_le : (n p : ℕ) → least test n p ≤ p + n
  unfolding least
  least_le zero p = omega arith
  least_le (suc n) p =
      cond_both (test p) p (least test n (suc p)) (λ v. v ≤ p + suc n) (λ e. omega arith) (λ e. omega (arith, least_le n (suc p)))

  pub least_passes : (n p : ℕ) → least test n p < p + n → test (least test n p) ≡ true
  unfolding least
  least_passes zero p h = absurd (omega arith)
  least_passes (suc n) p h =
      cond_both (test p) p (least test n (suc p)) (λ v. v < p + suc n → test v ≡ true)
      (λ e m. e) (λ e m. least_passes n (suc p) (omega arith)) h

  -- none between the place and it passes
  pub least_below : (n p q : ℕ) → p ≤ q → q < least test n p → test q ≡ false
  unfolding least
  least_below zero p q l h = absurd (omega arith)
  least_below (suc n) p q l h =
      cond_both (test p) p (least test n (suc p)) (λ v. q < v → test q ≡ false)
      (λ e m. absurd (let z : ⊥ = omega arith in z))
      (λ e m.
      ⊎_elim
      (λ (same : q ≡ p). ap test same ∙ e)
      (λ (ne : q ≡ p → ⊥). least_below n (suc p) q (let le : suc p ≤ q = omega arith in le) m)
      (cases_eq q p))
      h

  -- a search from the place upwards: it ends at one that passes or past the last, and else goes on above
  pub least_here : (n p : ℕ) → test p ≡ true → least test n p ≡ p
  unfolding least
  least_here zero p e = refl
  least_here (suc n) p e = cond-true _ _ _ e

  pub least_none : (n p : ℕ) → n ≤ 0 → least test n p ≡ p
  unfolding least
  least_none zero p h = refl
  least_none (suc n) p h = absurd (omega arith)

  least_step : (n p : ℕ) → test p ≡ false → least test n (suc p) ≡ least test (suc n) p
  unfolding least
  least_step n p e = sym (cond-false _ _ _ e)

  pub least_up : (end p : ℕ) → p < end → test p ≡ false → least test (end - (p + 1)) (p + 1) ≡ least test (end - p) p
  least_up end p h e =
      let i : suc (end - (p + 1)) ≡ end - p = omega arith in
      let j : p + 1 ≡ suc p = omega arith in
      ap (λ q. least test (end - (p + 1)) q) j ∙ least_step (end - (p + 1)) p e ∙ ap (λ n. least test n p) i
