-- The forward scan over characters: where its run can end, that it advances, and that a sure pair ends it.
use Rattle.std.specs.Prelude.{◌≡◌, ℕ, zero, suc, ◌+◌, ◌<◌, ◌≤◌, Bool, true, false, cond, T, List, [], ◌∷◌, ◌++◌, length, take, drop, Some, None, Option, ◌≢◌, refl}
use Rattle.std.proofs.Common.{sym, ap, subst, ◌∙◌, inl, inr, arith}
use Rattle.std.proofs.lemmas.List.{take-append-drop, length-map}
use Rattle.std.proofs.lemmas.Bool.{cond-true, cond-false, cases_Bool, eqb-true, eqb-false, eq-eqb, ne_eqb, le-leb, lt-leb, and_parts, false≢true}
use Rattle.automata.specs.Machine.{next, exits, marks, marked, before, Ending, scan, scanned, taken, Advances}
use Rattle.automata.specs.Reach.{Leads}
use Rattle.automata.specs.Sure.{halts, Sure}
use Rattle.breaks.specs.Chars.{Char, span, row_of}
use Rattle.breaks.specs.Tables.{scan_run}
use Rattle.breaks.specs.CharLaws.{Fit, row_low, span_append}

-- the class of the last of these characters, or c where there is none
abbrev pub last_class : ℕ → List Char → ℕ
last_class c [] = c
last_class c (u ∷ us) = last_class u.class us

-- the mark after a code at byte place `at`
abbrev pub mark_at : ℕ → ℕ → ℕ → ℕ
mark_at x at m = cond (marks x) at m

-- a code that marks and one that does not
pub mark_here : (x at m : ℕ) → 128 ≤ x → mark_at x at m ≡ at
mark_here x at m h = cond-true _ _ _ (le-leb 128 x h)

pub mark_kept : (x at m : ℕ) → x < 128 → mark_at x at m ≡ m
mark_kept x at m h = cond-false _ _ _ (lt-leb 128 x h)

-- where a run ends that is in state s at byte place `at`, with its mark at byte place m and these characters before it
abbrev pub go : (ℕ → ℕ → ℕ) → ℕ → ℕ → ℕ → List Char → ℕ
go code s at m [] = at
go code s at m (u ∷ us) =
    cond (exits (code s u.class)) (mark_at (code s u.class) at m)
    (go code (next (code s u.class)) (at + u.size) (mark_at (code s u.class) at m) us)

T_true : (b : Bool) → T b → b ≡ true
T_true true t = refl
T_true false t = absurd t

module _ (code : ℕ → ℕ → ℕ) where
  -- one turn: the code of the next character exits, or goes on
  module _ (s at m x : ℕ) (us : List Char) (u : Char) (vs : List Char) (is : us ≡ u ∷ vs) (is_code : x ≡ code s u.class) where
    pub go_exits : next x ≡ 0 → go code s at m us ≡ mark_at x at m
    go_exits z =
        ap (go code s at m) is ∙ cond-true _ _ _ (eq-eqb _ 0 (ap next (sym is_code) ∙ z)) ∙ ap (λ (y : ℕ). mark_at y at m) (sym is_code)

    pub go_on : (next x ≢ 0) → go code s at m us ≡ go code (next x) (at + u.size) (mark_at x at m) vs
    go_on z =
        ap (go code s at m) is ∙ cond-false _ _ _ (ne_eqb _ 0 (λ e. z (ap next is_code ∙ e)))
        ∙ ap (λ (y : ℕ). go code (next y) (at + u.size) (mark_at y at m) vs) (sym is_code)

  -- the scan of classes ends at the same place, where `place` tells the byte place of each index
  module _ (place : ℕ → ℕ) (n : ℕ) where
    place_mark : (x i at m : ℕ) (k : Option ℕ) → place i ≡ at → place (before k) ≡ m → place (before (marked x i k)) ≡ mark_at x at m
    place_mark x i at m k e f = elim (marks x) as (λ b. place (before (cond b (Some i) k)) ≡ cond b at m) [ true ↦ e | false ↦ f ]

    go_scan : (s i at m : ℕ) (k : Option ℕ) (us : List Char) → ((j : ℕ) → place (i + j) ≡ at + span (take j us)) → place (before k) ≡ m → n ≡ i + length us
        → place (taken n (scan code s i k (row_of us))) ≡ go code s at m us
    go_scan s i at m k [] h f e = ap place e ∙ h 0 ∙ omega arith
    go_scan s i at m k (u ∷ us) h f e =
        let here : place i ≡ at = let j : i ≡ i + 0 = omega arith in ap place j ∙ h 0 ∙ omega arith in
        let mark = place_mark (code s u.class) i at m k here f in
        let on =
        go_scan (next (code s u.class)) (i + 1) (at + u.size) (mark_at (code s u.class) at m) (marked (code s u.class) i k) us
        (λ j. let q : i + 1 + j ≡ i + suc j = omega arith in ap place q ∙ h (suc j) ∙ omega arith) mark (omega arith) in
        elim (cases_Bool (exits (code s u.class))) [
          | inl z ↦ ap (λ (r : Ending). place (taken n r)) (cond-true _ _ _ z) ∙ mark ∙ sym (cond-true _ _ _ z)
          | inr z ↦ ap (λ (r : Ending). place (taken n r)) (cond-false _ _ _ z) ∙ on ∙ sym (cond-false _ _ _ z)
        ]

  -- the run from byte place p
  pub go_run : (us : List Char) (p : ℕ) → go code 1 p p us ≡ p + scan_run code us
  go_run us p =
      sym (go_scan (λ j. p + span (take j us)) (length us) 1 0 p p None us
      (λ j. let q : 0 + j ≡ j = omega arith in ap (λ (j : ℕ). p + span (take j us)) q) (omega arith) (omega arith))

  -- the run ends at a place of the characters
  pub scan_run_at : (us : List Char) → (f : List Char) × (g : List Char) × (us ≡ f ++ g) × (scan_run code us ≡ span f)
  scan_run_at us =
      let k = taken (length us) (scanned code (row_of us)) in
      (take k us, drop k us, sym (take-append-drop k us), refl)

  pub scan_run_within : (us : List Char) → scan_run code us ≤ span us
  scan_run_within us =
      let a = scan_run_at us in
      omega (arith, a.3, ap span a.2, span_append a.0 a.1)

  module _ (C : ℕ) where
    pub scan_run_some : (us : List Char) → Advances code C → Fit C us → 1 ≤ length us → 1 ≤ scan_run code us
    scan_run_some us adv f h =
        let n = length-map us (λ (u : Char). u.class) in
        some_take _ us (subst (λ (n : ℕ). 1 ≤ taken n (scanned code (row_of us))) n (adv (row_of us) (row_low C us f) (omega arith))) f h
      where
        some_take : (k : ℕ) (us : List Char) → 1 ≤ k → Fit C us → 1 ≤ length us → 1 ≤ span (take k us)
        some_take zero us l f h = absurd (omega arith)
        some_take (suc k) [] l f h = h
        some_take (suc k) (u ∷ us) l f h = omega (arith, f.0)

    go_same : (s at m : ℕ) (u : Char) (us : List Char) (v : Char) (vs : List Char) → u.class < C → Fit C us
        → ((r : ℕ) → Leads false code C s r → T (halts code r (last_class u.class us) v.class))
        → go code s at m (u ∷ (us ++ v ∷ vs)) ≡ go code s at m (u ∷ us)
    go_same s at m u [] v vs lt f h =
        elim (cases_Bool (exits (code s u.class))) [
          | inl e ↦ cond-true _ _ _ e ∙ sym (cond-true _ _ _ e)
          | inr e ↦
              let x : ℕ = code (next (code s u.class)) v.class in
              let t = and_parts (exits x) (marks x) (T_true _ (subst T (cond-false _ _ _ e) (h s ([], refl)))) in
              cond-false _ _ _ e ∙ go_exits _ _ _ x (v ∷ vs) v vs refl refl (eqb-true _ 0 t.0) ∙ cond-true (marks x) _ _ t.1 ∙ sym (cond-false _ _ _ e)
        ]
    go_same s at m u (w ∷ ws) v vs lt f h =
        elim (cases_Bool (exits (code s u.class))) [
          | inl e ↦ cond-true _ _ _ e ∙ sym (cond-true _ _ _ e)
          | inr e ↦
              cond-false _ _ _ e
              ∙ go_same (next (code s u.class)) (at + u.size) (mark_at (code s u.class) at m) w ws v vs f.1 f.2
              (λ r l. h r (u.class ∷ l.0, (lt, (eqb-false _ 0 e, λ q. absurd (false≢true q)), l.1)))
              ∙ sym (cond-false _ _ _ e)
        ]

    -- a run over characters that end in a class is the same where another follows and the two are sure
    pub scan_same : (us : List Char) (v : Char) (vs : List Char) → Fit C us → 1 ≤ length us → Sure code C (last_class 0 us) v.class
        → scan_run code (us ++ v ∷ vs) ≡ scan_run code us
    scan_same [] v vs f h sure = absurd (omega arith)
    scan_same (u ∷ us) v vs f h sure =
        let same = go_same 1 0 0 u us v vs f.1 f.2 sure in
        omega (arith, go_run (u ∷ us ++ v ∷ vs) 0, go_run (u ∷ us) 0)
