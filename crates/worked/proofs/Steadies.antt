-- Steady machines, by a list of standings that backward rows reach: a state, and the class that the last code marked, as
-- its successor, or 0 where that code set no mark. One computed test of the list.
use Rattle.std.proofs.Common.{◌≡◌, ℕ, zero, suc, ◌+◌, ◌<◌, ◌≤◌, Bool, true, false, cond, not, ◌&&◌, ◌||◌, eqb, ◌⊎◌, List, [], ◌∷◌, ◌++◌, get_or, Some, None, Option, sym, ap, ◌∙◌, subst, inl, inr, arith}
use Rattle.std.proofs.lemmas.Bool.{cond-true, cond-false, cases_Bool, cases_lt, and_parts, or_cases, not-true, eqb-true, eqb-false, eq-eqb, ne_eqb, false≢true}
use Rattle.automata.specs.Machine.{code_at, next, exits, marks, marked, Row}
use Rattle.automata.specs.Reach.{Runs}
use Rattle.automata.specs.Steady.{last_mark, Unsteady}
use Rattle.tables.specs.Classes.{every}
use Rattle.tables.proofs.Everys.{passes_every}
use Rattle.tables.proofs.Steadies.{row_at}

abbrev pub Standing : Type 0
Standing = ℕ × ℕ

-- a standing is one of a list
abbrev stands_in : ℕ → ℕ → List Standing → Bool
stands_in s f [] = false
stands_in s f (x ∷ xs) = (eqb s x.0 && eqb f x.1) || stands_in s f xs

-- each standing of a list passes a test
abbrev each_stands : (ℕ → ℕ → Bool) → List Standing → Bool
each_stands p [] = true
each_stands p (x ∷ xs) = p x.0 x.1 && each_stands p xs

passes_standing : (p : ℕ → ℕ → Bool) (xs : List Standing) (s f : ℕ) → each_stands p xs ≡ true → stands_in s f xs ≡ true → p s f ≡ true
passes_standing p [] s f e m = absurd (false≢true m)
passes_standing p (x ∷ xs) s f e m =
    let t = and_parts (p x.0 x.1) (each_stands p xs) e in
    elim (or_cases (eqb s x.0 && eqb f x.1) (stands_in s f xs) m) [
      | inl q ↦
          let u = and_parts (eqb s x.0) (eqb f x.1) q in
          let first : s ≡ x.0 = eqb-true s x.0 u.0 in
          let second : f ≡ x.1 = eqb-true f x.1 u.1 in
          subst (λ (n : ℕ). p n f ≡ true) (sym first) (subst (λ (n : ℕ). p x.0 n ≡ true) (sym second) t.0)
      | inr o ↦ passes_standing p xs s f t.1 o
    ]

-- a row that goes on, and one class more
runs_row : (code : ℕ → ℕ → ℕ) (C s : ℕ) (front : List ℕ) (t c : ℕ) → Runs false code C s front t → c < C → Row C (front ++ c ∷ [])
runs_row code C s [] t c run lt = (lt, tt)
runs_row code C s (x ∷ xs) t c run lt = (run.0, runs_row code C (next (code s x)) xs t c run.2 lt)

some_same : (i j : ℕ) → Some i ≡ Some j → i ≡ j
some_same i j e = cc

none_some : (i : ℕ) → None ≡ Some i → ⊥
none_some i e = let z : ◌≡◌ {A = ℕ} 0 1 = cc in omega arith

module _ (code : ℕ → ℕ → ℕ) (C : ℕ) (known : ℕ → ℕ → Bool) (all : List Standing) where
  -- the class read next and the class just marked make a sure pair
  abbrev paired : ℕ → ℕ → Bool
  paired zero c = true
  paired (suc d) c = known c d

  -- a code that marks exits where each class makes a sure pair with its own, or goes to a standing of the list; another
  -- leaves the last mark sure, and does so too
  abbrev holds_up : ℕ → ℕ → ℕ → Bool
  holds_up s f c =
      cond (marks (code s c)) (cond (exits (code s c)) (every (λ d. known d c) C) (stands_in (next (code s c)) (suc c) all))
      (paired f c && cond (exits (code s c)) true (stands_in (next (code s c)) 0 all))

  -- start is in the list, and each code of its standings does so
  abbrev pub steadies : Bool
  steadies = stands_in 1 0 all && each_stands (λ s f. every (holds_up s f) C) all

  module _ (later : each_stands (λ s f. every (holds_up s f) C) all ≡ true) where
    passes : (s f c : ℕ) → stands_in s f all ≡ true → c < C → holds_up s f c ≡ true
    passes s f c h l = passes_every (holds_up s f) C (passes_standing (λ s f. every (holds_up s f) C) all s f later h) c l

    -- a code that marks and goes on
    loud_on : (s f c : ℕ) → stands_in s f all ≡ true → c < C → marks (code s c) ≡ true → exits (code s c) ≡ false → stands_in (next (code s c)) (suc c) all ≡ true
    loud_on s f c h l k x = sym (cond-true (marks (code s c)) _ _ k ∙ cond-false (exits (code s c)) _ _ x) ∙ passes s f c h l

    -- a code that sets no mark
    quiet_pair : (s f c : ℕ) → stands_in s f all ≡ true → c < C → marks (code s c) ≡ false → (paired f c ≡ true) × (cond (exits (code s c)) true (stands_in (next (code s c)) 0 all) ≡ true)
    quiet_pair s f c h l k = and_parts (paired f c) _ (sym (cond-false (marks (code s c)) _ _ k) ∙ passes s f c h l)

    quiet_on : (s f c : ℕ) → stands_in s f all ≡ true → c < C → marks (code s c) ≡ false → exits (code s c) ≡ false → stands_in (next (code s c)) 0 all ≡ true
    quiet_on s f c h l k x = sym (cond-false (exits (code s c)) true _ x) ∙ (quiet_pair s f c h l k).1

    -- a row leads to a standing of the list
    leads_in : (s f : ℕ) (row : List ℕ) (t : ℕ) → stands_in s f all ≡ true → Runs false code C s row t → (g : ℕ) × (stands_in t g all ≡ true)
    leads_in s f [] t h e = (f, subst (λ (n : ℕ). stands_in n f all ≡ true) e h)
    leads_in s f (c ∷ cs) t h run =
        let on = ne_eqb (next (code s c)) 0 run.1.0 in
        elim (cases_Bool (marks (code s c))) [
          | inl k ↦ leads_in (next (code s c)) (suc c) cs t (loud_on s f c h run.0 k on) run.2
          | inr k ↦ leads_in (next (code s c)) 0 cs t (quiet_on s f c h run.0 k on) run.2
        ]

    -- the last mark before an exit that sets none: set in the row, with a sure pair there, or before it
    abbrev Settled : ℕ → ℕ → Option ℕ → List ℕ → ℕ → Type 0
    Settled f i m row j =
        ((m ≡ Some j) × (paired f (get_or row 0 0) ≡ true)) ⊎ ((k : ℕ) × (j ≡ i + k) × (known (get_or row (suc k) 0) (get_or row k 0) ≡ true))

    settled : (s f i : ℕ) (m : Option ℕ) (row : List ℕ) (t c j : ℕ) → stands_in s f all ≡ true → Runs false code C s row t → c < C → marks (code t c) ≡ false
        → last_mark code s i m row ≡ Some j → Settled f i m (row ++ c ∷ []) j
    settled s f i m [] t c j h run l k e =
        inl (e, (quiet_pair s f c h l (ap (λ (n : ℕ). marks (code n c)) run ∙ k)).0)
    settled s f i m (x ∷ xs) t c j h run l k e =
        let on = ne_eqb (next (code s x)) 0 run.1.0 in
        elim (cases_Bool (marks (code s x))) [
          | inl b ↦ elim (settled (next (code s x)) (suc x) (i + 1) (marked (code s x) i m) xs t c j (loud_on s f x h run.0 b on) run.2 l k e) [
            | inl q ↦
                let is = some_same i j (sym (cond-true (marks (code s x)) _ _ b) ∙ q.0) in
                inr (0, omega arith, q.1)
            | inr q ↦ let is = q.1 in inr (suc q.0, omega arith, q.2)
          ]
          | inr b ↦ elim (settled (next (code s x)) 0 (i + 1) (marked (code s x) i m) xs t c j (quiet_on s f x h run.0 b on) run.2 l k e) [
            | inl q ↦ inl (sym (cond-false (marks (code s x)) _ _ b) ∙ q.0, (quiet_pair s f x h run.0 b).0)
            | inr q ↦ let is = q.1 in inr (suc q.0, omega arith, q.2)
          ]
        ]

  -- by any test that agrees with the known one no row exits with an unsure last mark
  pub steady_by : steadies ≡ true → 1 ≤ C → (sure : ℕ → ℕ → Bool) → ((c d : ℕ) → c < C → d < C → sure c d ≡ known c d) → (k : ℕ) → Unsteady code C sure k → ⊥
  steady_by e least sure same k (front, s, c, run, lt, leaves, is, how) =
      let both = and_parts (stands_in 1 0 all) _ e in
      let row = runs_row code C 1 front s c run lt in
      elim how [
        | inl (loud, (d, small, unsure)) ↦
            let g = leads_in both.1 1 0 front s both.0 run in
            let every-sure : every (λ d. known d c) C ≡ true =
            sym (cond-true (marks (code s c)) _ _ loud ∙ cond-true (exits (code s c)) _ _ (eq-eqb (next (code s c)) 0 leaves)) ∙ passes both.1 s g.0 c g.1 lt in
            false≢true (sym unsure ∙ same d c small lt ∙ passes_every (λ d. known d c) C every-sure d small)
        | inr (quiet, (i, last, unsure)) ↦ elim (settled both.1 1 0 0 None front s c i both.0 run lt quiet last) [
          | inl q ↦ none_some i q.0
          | inr q ↦
              let at : q.0 ≡ i = let z = q.1 in omega arith in
              let past : suc q.0 ≡ i + 1 = omega arith in
              let pair = ap (λ (n : ℕ). known (get_or (front ++ c ∷ []) n 0) (get_or (front ++ c ∷ []) q.0 0)) past ∙ ap (λ (n : ℕ). known (get_or (front ++ c ∷ []) (i + 1) 0) (get_or (front ++ c ∷ []) n 0)) at in
              false≢true (sym unsure ∙ same _ _ (row_at C (front ++ c ∷ []) (i + 1) least row) (row_at C (front ++ c ∷ []) i least row) ∙ sym pair ∙ q.2)
        ]
      ]

-- where no code of an index below n exits, no row exits by one
module _ (codes : List ℕ) where
  abbrev pub stays_below : ℕ → Bool
  stays_below n = every (λ k. not (exits (get_or codes k 0))) n

  pub unsteady_from : (C n : ℕ) → stays_below n ≡ true → (sure : ℕ → ℕ → Bool) (k : ℕ) → Unsteady (code_at codes C) C sure k → n ≤ k
  unsteady_from C n e sure k u =
      elim (cases_lt k n) [
        | inl l ↦
            let stays = eqb-false (next (get_or codes k 0)) 0 (not-true _ (passes_every (λ k. not (exits (get_or codes k 0))) n e k l)) in
            absurd (stays (ap (λ (j : ℕ). next (get_or codes j 0)) (sym u.6) ∙ u.5))
        | inr g ↦ g
      ]
