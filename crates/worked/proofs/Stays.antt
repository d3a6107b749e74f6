-- Runs that do not advance, by a list of the states that quiet codes reach after the first class: two computed tests.
use Rattle.std.proofs.Common.{◌≡◌, ℕ, ◌+◌, ◌≤◌, Bool, true, false, cond, ◌||◌, leb, List, [], ◌∷◌, Some, None, Option, sym, ap, ◌∙◌, subst, inl, inr, arith}
use Rattle.std.proofs.lemmas.Bool.{cond-true, cond-false, cond_both, cases_Bool, or_cases, leb-true, false≢true}
use Rattle.automata.specs.Machine.{index, next, exits, marks, marked, before, Ending, runs_out, exits_by, scan, scanned, taken, Row, Advances}
use Rattle.automata.specs.Stuck.{Stuck}
use Rattle.automata.proofs.Stucks.{never_stuck}
use Rattle.tables.specs.Classes.{every}
use Rattle.tables.proofs.Everys.{passes_every}
use Rattle.worked.proofs.Lists.{among, each_passes, passes_among}

never_out : (s c : ℕ) (m : Option ℕ) → runs_out ≡ exits_by s c m → ⊥
never_out s c m e = let z : ◌≡◌ {A = ℕ} 0 1 = cc in omega arith

-- with a mark after the first class the run takes in a class
late : (code : ℕ → ℕ → ℕ) (s i : ℕ) (m : Option ℕ) (row : List ℕ) → 1 ≤ i → 1 ≤ before m → 1 ≤ taken 1 (scan code s i m row)
late code s i m [] h l = omega arith
late code s i m (c ∷ cs) h l =
    let after : 1 ≤ before (marked (code s c) i m) = cond_both (marks (code s c)) (Some i) m (λ (o : Option ℕ). 1 ≤ before o) (λ _. h) (λ _. l) in
    cond_both (exits (code s c)) _ _ (λ (e : Ending). 1 ≤ taken 1 e)
    (λ _. after) (λ _. late code (next (code s c)) (i + 1) (marked (code s c) i m) cs (omega arith) after)

-- and where a class after the first marks
loud : (code : ℕ → ℕ → ℕ) (s i : ℕ) (m : Option ℕ) (c : ℕ) (cs : List ℕ) → 1 ≤ i → marks (code s c) ≡ true → 1 ≤ taken 1 (scan code s i m (c ∷ cs))
loud code s i m c cs h k =
    let after : 1 ≤ before (marked (code s c) i m) = subst (λ (o : Option ℕ). 1 ≤ before o) (sym (cond-true (marks (code s c)) (Some i) m k)) h in
    cond_both (exits (code s c)) _ _ (λ (e : Ending). 1 ≤ taken 1 e)
    (λ _. after) (λ _. late code (next (code s c)) (i + 1) (marked (code s c) i m) cs (omega arith) after)

module _ (code : ℕ → ℕ → ℕ) (C : ℕ) (may : ℕ → ℕ → Bool) (all : List ℕ) where
  -- a code exits where it may, or goes to a state of the list
  abbrev stays : ℕ → ℕ → Bool
  stays s c = cond (exits (code s c)) (may s c) (among (next (code s c)) all)

  -- each code of start does
  abbrev pub begins : Bool
  begins = every (stays 1) C

  -- each code of a state of the list does, or marks
  abbrev pub goes_on : Bool
  goes_on = each_passes (λ s. every (λ c. marks (code s c) || stays s c) C) all

  module _ (first : begins ≡ true) (later : goes_on ≡ true) where
    quits : (s i : ℕ) (m : Option ℕ) (row : List ℕ) (t d : ℕ) (n : Option ℕ) → among s all ≡ true → 1 ≤ i → Row C row
        → scan code s i m row ≡ exits_by t d n → before n ≡ 0 → may t d ≡ true
    quits s i m [] t d n o h w e z = absurd (never_out t d n e)
    quits s i m (c ∷ cs) t d n o h w e z =
        elim (or_cases (marks (code s c)) (stays s c) (passes_every _ C (passes_among _ all s later o) c w.0)) [
          | inl k ↦ absurd (omega (arith, loud code s i m c cs h k, ap (taken 1) e))
          | inr k ↦ elim (cases_Bool (exits (code s c))) [
            | inl x ↦
                let p : scan code s i m (c ∷ cs) ≡ exits_by s c (marked (code s c) i m) = cond-true (exits (code s c)) _ _ x in
                let q : s ≡ t = cc in
                let r : c ≡ d = cc in
                let y : may s c ≡ true = sym (cond-true (exits (code s c)) (may s c) _ x) ∙ k in
                cc
            | inr x ↦
                quits (next (code s c)) (i + 1) (marked (code s c) i m) cs t d n (sym (cond-false (exits (code s c)) (may s c) _ x) ∙ k) (omega arith) w.1
                (sym (cond-false (exits (code s c)) _ _ x) ∙ e) z
          ]
        ]

    starts : (row : List ℕ) (t d : ℕ) (n : Option ℕ) → Row C row → scanned code row ≡ exits_by t d n → before n ≡ 0 → may t d ≡ true
    starts [] t d n w e z = absurd (never_out t d n e)
    starts (c ∷ cs) t d n w e z =
        let k = passes_every _ C first c w.0 in
        elim (cases_Bool (exits (code 1 c))) [
          | inl x ↦
              let p : scanned code (c ∷ cs) ≡ exits_by 1 c (marked (code 1 c) 0 None) = cond-true (exits (code 1 c)) _ _ x in
              let q : 1 ≡ t = cc in
              let r : c ≡ d = cc in
              let y : may 1 c ≡ true = sym (cond-true (exits (code 1 c)) (may 1 c) _ x) ∙ k in
              cc
          | inr x ↦
              quits (next (code 1 c)) (0 + 1) (marked (code 1 c) 0 None) cs t d n (sym (cond-false (exits (code 1 c)) (may 1 c) _ x) ∙ k) (omega arith) w.1
              (sym (cond-false (exits (code 1 c)) _ _ x) ∙ e) z
        ]

    -- a code by which a row is stuck is one that may
    pub stuck_may : (k : ℕ) → Stuck code C k → (s : ℕ) × (c : ℕ) × (may s c ≡ true) × (index C s c ≡ k)
    stuck_may k u = (u.1, u.2, starts u.0 u.1 u.2 u.3 u.4 u.5 u.6, u.7)

-- the code of a state and a class is one from index k on
abbrev pub from : ℕ → ℕ → ℕ → ℕ → Bool
from C k s c = leb k (index C s c)

module _ (code : ℕ → ℕ → ℕ) (C : ℕ) (all : List ℕ) where
  -- where no code may, every run advances
  pub advances_by : begins code C (λ _ _. false) all ≡ true → goes_on code C (λ _ _. false) all ≡ true → Advances code C
  advances_by first later = never_stuck code C (λ k u. false≢true (stuck_may code C (λ _ _. false) all first later k u).2)

  -- where only codes from k on may, no row is stuck by an earlier one
  pub stuck_from : (k : ℕ) → begins code C (from C k) all ≡ true → goes_on code C (from C k) all ≡ true → (j : ℕ) → Stuck code C j → k ≤ j
  stuck_from k first later j u =
      let t = stuck_may code C (from C k) all first later j u in
      omega (arith, leb-true k (index C t.0 t.1) t.2, t.3)
