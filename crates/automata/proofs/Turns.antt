-- What the loops of a closure keep, and each turn.
use Rattle.std.proofs.Common.{ℕ, ◌+◌, ◌<◌, ◌≤◌, Bool, ◌⊎◌, inl, inr, arith, below_more}
use Rattle.automata.specs.Sets.{Has}
use Rattle.automata.specs.Reach.{From, Step}
use Rattle.automata.proofs.Rows.{from_step}

module _ (quiet : Bool) (code : ℕ → ℕ → ℕ) (C : ℕ) where
  -- b has all of a and where the codes of state s lead
  abbrev pub Spread : ℕ → ℕ → ℕ → Type 0
  Spread s a b =
      (a ≤ b) × ((k : ℕ) → Has a k → Has b k) × ((k : ℕ) → Step quiet code C s k → Has b k)
      × ((k : ℕ) → Has b k → Has a k ⊎ Step quiet code C s k)

  -- b has all of a and where the states below i of a lead, and what it has is reached from a
  abbrev pub Passes : ℕ → ℕ → ℕ → Type 0
  Passes a i b =
      (a ≤ b) × ((k : ℕ) → Has a k → Has b k)
      × ((s : ℕ) → s < i → 1 ≤ s → Has a s → (k : ℕ) → Step quiet code C s k → Has b k)
      × ((k : ℕ) → Has b k → From quiet code C a k)

  pub pass_has : (a i b d : ℕ) → Has b i → Passes a i b → Spread i b d → Passes a (i + 1) d
  pass_has a i b d m h w = (
    omega arith,
    λ k n. w.1 k (h.1 k n),
    below_more _ i (λ s l o n k t. w.1 k (h.2 s l o n k t)) (λ o n k t. w.2 k t),
    λ k n. elim (w.3 k n) [ inl o ↦ h.3 k o | inr t ↦ from_step quiet code C a i k (h.3 i m) t ],
  )

  pub pass_skips : (a i b : ℕ) → (Has b i → ⊥) → Passes a i b → Passes a (i + 1) b
  pass_skips a i b m h = (h.0, h.1, below_more _ i h.2 (λ o n. absurd (m (h.1 i n))), h.3)
