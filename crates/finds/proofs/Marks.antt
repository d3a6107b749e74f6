-- Where the backward scan of a steady machine leads, the pair of classes is sure.
use Rattle.std.proofs.Common.{◌≡◌, ℕ, zero, suc, ◌+◌, ◌<◌, ◌≤◌, Bool, true, false, ◌⊎◌, List, [], ◌∷◌, ◌++◌, length, get_or, Some, None, Option, sym, refl, ap, ◌∙◌, subst, inl, inr, arith}
use Rattle.std.proofs.lemmas.Bool.{cond-true, cond-false, cases_Bool, eqb-true, eqb-false, false≢true}
use Rattle.automata.specs.Machine.{index, next, exits, marks, marked, exits_by, scan, scanned, Row}
use Rattle.automata.specs.Reach.{Runs}
use Rattle.automata.specs.Steady.{last_mark, Unsteady}
use Rattle.tables.proofs.Steadies.{row_at}

some_same : (i j : ℕ) → Some i ≡ Some j → i ≡ j
some_same i j e = cc

none_some : (i : ℕ) → None ≡ Some i → ⊥
none_some i e = let z : ◌≡◌ {A = ℕ} 0 1 = cc in omega arith

-- a row does not hang on what stands past its exit
near : (front : List ℕ) (c : ℕ) (rest : List ℕ) (j : ℕ) → j ≤ length front → get_or (front ++ c ∷ []) j 0 ≡ get_or (front ++ c ∷ rest) j 0
near [] c rest zero h = refl
near [] c rest (suc j) h = absurd (omega arith)
near (x ∷ xs) c rest zero h = refl
near (x ∷ xs) c rest (suc j) h = near xs c rest j (omega arith)

at_exit : (front : List ℕ) (c : ℕ) (rest : List ℕ) → get_or (front ++ c ∷ rest) (length front) 0 ≡ c
at_exit [] c rest = refl
at_exit (x ∷ xs) c rest = at_exit xs c rest

module _ (code : ℕ → ℕ → ℕ) (C : ℕ) where
  -- the codes by which a scan comes to its exit
  record Exit (s i : ℕ) (m : Option ℕ) (row : List ℕ) (t c : ℕ) (k : Option ℕ) : Type 0 where
    front : List ℕ
    rest : List ℕ
    parts : row ≡ front ++ c ∷ rest
    comes : Runs false code C s front t
    small : c < C
    leaves : next (code t c) ≡ 0
    mark : k ≡ marked (code t c) (i + length front) (last_mark code s i m front)

  exit_of : (s i : ℕ) (m : Option ℕ) (row : List ℕ) (t c : ℕ) (k : Option ℕ) → Row C row → scan code s i m row ≡ exits_by t c k → Exit s i m row t c k
  exit_of s i m [] t c k r e = let z : ◌≡◌ {A = ℕ} 0 1 = cc in absurd (omega arith)
  exit_of s i m (x ∷ xs) t c k r e =
      elim (cases_Bool (exits (code s x))) [
        | inl z ↦
            let is = sym (cond-true _ _ _ z) ∙ e in
            let state : s ≡ t = cc in
            let class : x ≡ c = cc in
            let mark : marked (code s x) i m ≡ k = cc in
            let at : i ≡ i + length {A = ℕ} [] = omega arith in
            record {
              front = [];
              rest = xs;
              parts = ap (λ (y : ℕ). y ∷ xs) class;
              comes = state;
              small = subst (λ (y : ℕ). y < C) class r.0;
              leaves = subst (λ (y : ℕ). next (code y c) ≡ 0) state (subst (λ (y : ℕ). next (code s y) ≡ 0) class (eqb-true _ 0 z));
              mark = sym mark ∙ ap (λ (y : ℕ). marked (code s y) i m) class ∙ ap (λ (y : ℕ). marked (code y c) i m) state ∙ ap (λ (j : ℕ). marked (code t c) j m) at;
            }
        | inr z ↦
            let p = exit_of (next (code s x)) (i + 1) (marked (code s x) i m) xs t c k r.1 (sym (cond-false _ _ _ z) ∙ e) in
            let at : i + 1 + length p.front ≡ i + length (x ∷ p.front) = omega arith in
            record {
              front = x ∷ p.front;
              rest = p.rest;
              parts = ap (λ (ys : List ℕ). x ∷ ys) p.parts;
              comes = (r.0, (eqb-false _ 0 z, λ b. absurd (false≢true b)), p.comes);
              small = p.small;
              leaves = p.leaves;
              mark = p.mark ∙ ap (λ (j : ℕ). marked (code t c) j (last_mark code s i m (x ∷ p.front))) at;
            }
      ]

  -- a mark is set inside the row, or was set before
  last_in : (s i : ℕ) (m : Option ℕ) (row : List ℕ) (j : ℕ) → last_mark code s i m row ≡ Some j → (m ≡ Some j) ⊎ (j < i + length row)
  last_in s i m [] j e = inl e
  last_in s i m (c ∷ cs) j e =
      elim (last_in (next (code s c)) (i + 1) (marked (code s c) i m) cs j e) [
        | inl q ↦ elim (cases_Bool (marks (code s c))) [
          | inl b ↦ let is = some_same i j (sym (cond-true _ _ _ b) ∙ q) in inr (omega arith)
          | inr b ↦ inl (sym (cond-false _ _ _ b) ∙ q)
        ]
        | inr l ↦ inr (omega arith)
      ]

  module _ (least : 1 ≤ C) (sure : ℕ → ℕ → Bool) (steady : (k : ℕ) → Unsteady code C sure k → ⊥) where
    -- the class read after the marked one, where there is one, makes a sure pair with it
    pub mark_sure : (row : List ℕ) (t c i : ℕ) → Row C row → scanned code row ≡ exits_by t c (Some i) → sure (get_or row (i + 1) 0) (get_or row i 0) ≡ true
    mark_sure row t c i r e = by (exit_of 1 0 None row t c (Some i) r e)
      where
        by : Exit 1 0 None row t c (Some i) → sure (get_or row (i + 1) 0) (get_or row i 0) ≡ true
        by p =
            elim (cases_Bool (sure (get_or row (i + 1) 0) (get_or row i 0))) [
              | inl y ↦ y
              | inr n ↦ elim (cases_Bool (marks (code t c))) [
                | inl b ↦
                    let at = some_same i (0 + length p.front) (p.mark ∙ cond-true _ _ _ b) in
                    let here : i ≡ length p.front = omega arith in
                    let class : get_or row i 0 ≡ c = ap (λ (l : List ℕ). get_or l i 0) p.parts ∙ ap (λ (j : ℕ). get_or (p.front ++ c ∷ p.rest) j 0) here ∙ at_exit p.front c p.rest in
                    absurd (steady (index C t c) (p.front, t, c, p.comes, p.small, p.leaves, refl, inl (b, (get_or row (i + 1) 0, row_at C row (i + 1) least r, ap (sure (get_or row (i + 1) 0)) (sym class) ∙ n))))
                | inr b ↦
                    let was = sym (cond-false (marks (code t c)) _ _ b) ∙ sym p.mark in
                    let in-front : i < length p.front = elim (last_in 1 0 None p.front i was) [ inl q ↦ absurd (none_some i q) | inr l ↦ omega arith ] in
                    let first = near p.front c p.rest (i + 1) (omega arith) ∙ ap (λ (l : List ℕ). get_or l (i + 1) 0) (sym p.parts) in
                    let second = near p.front c p.rest i (omega arith) ∙ ap (λ (l : List ℕ). get_or l i 0) (sym p.parts) in
                    let pair : sure (get_or (p.front ++ c ∷ []) (i + 1) 0) (get_or (p.front ++ c ∷ []) i 0) ≡ false = cc in
                    absurd (steady (index C t c) (p.front, t, c, p.comes, p.small, p.leaves, refl, inr (b, (i, was, pair))))
              ]
            ]
