-- Rows of classes: one after another, and a set that no code leaves.
use Rattle.std.proofs.Common.{ℕ, ◌<◌, ◌≤◌, Bool, List, [], ◌∷◌, ◌++◌, sym, refl, subst, arith}
use Rattle.automata.specs.Machine.{next}
use Rattle.automata.specs.Sets.{Has}
use Rattle.automata.specs.Reach.{Runs, Leads, From, Step}

-- the codes of states below S, of classes below C, name states below S
abbrev pub Closed : (ℕ → ℕ → ℕ) → ℕ → ℕ → Type 0
Closed code S C = (s c : ℕ) → 1 ≤ s → s < S → c < C → next (code s c) < S

module _ (quiet : Bool) (code : ℕ → ℕ → ℕ) (C : ℕ) where
  pub runs_on : (s : ℕ) (xs : List ℕ) (a : ℕ) → Runs quiet code C s xs a → (ys : List ℕ) (b : ℕ) → Runs quiet code C a ys b → Runs quiet code C s (xs ++ ys) b
  runs_on s [] a e ys b h = subst (λ (n : ℕ). Runs quiet code C n ys b) (sym e) h
  runs_on s (x ∷ xs) a r ys b h = (r.0, r.1, runs_on (next (code s x)) xs a r.2 ys b h)

  pub leads_step : (s a b : ℕ) → Leads quiet code C s a → Step quiet code C a b → Leads quiet code C s b
  leads_step s a b l t = (l.0 ++ (t.0 ∷ []), runs_on s l.0 a l.1 (t.0 ∷ []) b (t.1, t.2, t.3))

  pub from_step : (set a b : ℕ) → From quiet code C set a → Step quiet code C a b → From quiet code C set b
  from_step set a b f t = (f.0, f.1, leads_step f.0 a b f.2 t)

  -- what is reached from what is reached is reached
  pub from_from : (m n : ℕ) → ((k : ℕ) → Has n k → From quiet code C m k) → (k : ℕ) → From quiet code C n k → From quiet code C m k
  from_from m n f k g =
      let h : From quiet code C m g.0 = f g.0 g.1 in
      (h.0, h.1, (h.2.0 ++ g.2.0, runs_on h.0 h.2.0 g.0 h.2.1 g.2.0 k g.2.1))

  module _ (S : ℕ) (inside : Closed code S C) where
    -- a row leads to a state below S
    pub within : (s : ℕ) (row : List ℕ) (r : ℕ) → 1 ≤ s → s < S → Runs quiet code C s row r → (1 ≤ r) × (r < S)
    within s [] r lo hi e = subst (λ (n : ℕ). (1 ≤ n) × (n < S)) e (lo, hi)
    within s (c ∷ cs) r lo hi run = within (next (code s c)) cs r (omega (arith, run.1.0)) (inside s c lo hi run.0) run.2

    -- a set that no code leaves has what its states reach
    module _ (m : ℕ) (kept : (s : ℕ) → 1 ≤ s → s < S → Has m s → (r : ℕ) → Step quiet code C s r → Has m r) where
      pub stays : (s : ℕ) (row : List ℕ) (r : ℕ) → 1 ≤ s → s < S → Has m s → Runs quiet code C s row r → Has m r
      stays s [] r lo hi h e = subst (Has m) e h
      stays s (c ∷ cs) r lo hi h run =
          stays (next (code s c)) cs r (omega (arith, run.1.0)) (inside s c lo hi run.0)
          (kept s lo hi h _ (c, run.0, run.1, refl)) run.2
