-- A test that passes for every number below a limit.
use Rattle.std.proofs.Common.{◌≡◌, ℕ, zero, suc, ◌<◌, Bool, true, false, sym, refl, subst, inl, inr, arith}
use Rattle.std.proofs.lemmas.Bool.{and_from, and_parts, and_left, and_right, cases_eq}
use Rattle.tables.specs.Classes.{every}

module _ (p : ℕ → Bool) where
  pub every_passes : (n : ℕ) → ((k : ℕ) → k < n → p k ≡ true) → every p n ≡ true
  unfolding every
  every_passes zero h = refl
  every_passes (suc n) h = and_from _ _ (h n (omega arith)) (every_passes n (λ k l. h k (omega arith)))

  pub every_fails : (n k : ℕ) → k < n → p k ≡ false → every p n ≡ false
  unfolding every
  every_fails zero k l e = absurd (omega arith)
  every_fails (suc n) k l e =
      elim (cases_eq k n) [
        | inl q ↦ and_left (p n) _ (subst (λ (m : ℕ). p m ≡ false) q e)
        | inr q ↦ and_right (p n) _ (every_fails n k (omega arith) e)
      ]

  pub passes_every : (n : ℕ) → every p n ≡ true → (k : ℕ) → k < n → p k ≡ true
  unfolding every
  passes_every zero e k l = absurd (omega arith)
  passes_every (suc n) e k l =
      elim (cases_eq k n) [
        | inl q ↦ subst (λ (m : ℕ). p m ≡ true) (sym q) (and_parts _ _ e).0
        | inr q ↦ passes_every n (and_parts _ _ e).1 k (omega arith)
      ]
