-- A set that a loop fills: where each number below i that passes a test leads.
use Rattle.std.proofs.Common.{◌≡◌, ℕ, ◌+◌, ◌<◌, ◌≤◌, ◌⊎◌, sym, subst, inl, inr, arith, below_more}
use Rattle.automata.specs.Sets.{Has}

-- b has all of a and k, and nothing else
abbrev pub With : ℕ → ℕ → ℕ → Type 0
With a k b = (a ≤ b) × Has b k × ((j : ℕ) → Has a j → Has b j) × ((j : ℕ) → Has b j → Has a j ⊎ (j ≡ k))

module _ (C : ℕ) (P : ℕ → Type 0) (to : ℕ → ℕ) where
  -- a number below C that passes the test leads to k
  abbrev pub Comes : ℕ → Type 0
  Comes k = (c : ℕ) × (c < C) × P c × (to c ≡ k)

  -- b has all of a and where the numbers below i that pass the test lead
  abbrev pub Gathers : ℕ → ℕ → ℕ → Type 0
  Gathers a i b =
      (a ≤ b) × ((k : ℕ) → Has a k → Has b k) × ((c : ℕ) → c < i → P c → Has b (to c)) × ((k : ℕ) → Has b k → Has a k ⊎ Comes k)

  pub gather_goes : (a i b d x : ℕ) → i < C → x ≡ to i → P i → Gathers a i b → With b x d → Gathers a (i + 1) d
  gather_goes a i b d x lt e p h w = (
    omega arith,
    λ k m. w.2 k (h.1 k m),
    below_more _ i (λ c l q. w.2 _ (h.2 c l q)) (λ _. subst (Has d) e w.1),
    λ k m. elim (w.3 k m) [
      | inl o ↦ h.3 k o
      | inr q ↦ inr (i, lt, p, sym (subst (λ (y : ℕ). k ≡ y) e q))
    ],
  )

  pub gather_skips : (a i b : ℕ) → (P i → ⊥) → Gathers a i b → Gathers a (i + 1) b
  gather_skips a i b n h = (h.0, h.1, below_more _ i h.2 (λ p. absurd (n p)), h.3)
