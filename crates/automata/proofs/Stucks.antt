-- Runs that do not advance: what a row that is stuck goes through, and a row for each such code.
use Rattle.std.proofs.Common.{◌≡◌, ℕ, ◌+◌, ◌-◌, ◌<◌, ◌≤◌, true, false, ◌⊎◌, List, [], ◌∷◌, ◌++◌, length, Some, None, MatchOption, Option, sym, refl, ap, ◌∙◌, subst, inl, inr, le_refl, arith}
use Rattle.std.proofs.lemmas.Nat.{mul-add-lt, mul-le}
use Rattle.std.proofs.lemmas.Bool.{cond-true, cond-false, cond_both, eq-eqb, ne_eqb, le-leb, lt-leb, cases_eq, cases_lt, cases_order, false≢true}
use Rattle.automata.specs.Machine.{index, next, exits, marks, marked, before, Ending, runs_out, exits_by, scan, scanned, taken, Row, Advances}
use Rattle.automata.specs.Sets.{Has}
use Rattle.automata.specs.Reach.{Runs, From, Step}
use Rattle.automata.specs.Stuck.{Stuck, Least, ExitsOn, QuitsBy, FirstCode}
use Rattle.automata.proofs.Rows.{Closed, within, from_step}

-- codes of a lower state come first
pub index_lt : (C s c t d : ℕ) → c < C → 1 ≤ s → s < t → index C s c < index C t d
index_lt C s c t d h o l = omega (arith, mul-add-lt (s - 1) C c s (omega arith) h, mul-le s C (t - 1) C (omega arith) (le_refl C))

pub least_same : (P Q : ℕ → Type 0) → ((k : ℕ) → P k → Q k) → ((k : ℕ) → Q k → P k) → (r : Option ℕ) → Least P r → Least Q r
least_same P Q f g None h = λ k q. h k (g k q)
least_same P Q f g (Some k) h = (f k h.0, λ j q. h.1 j (g j q))

-- the first class that has a property in the first state that has one gives the first of all codes
pub first_of_all : (P : ℕ → ℕ → Type 0) (C s c : ℕ) → 1 ≤ s → c < C → ((t : ℕ) → t < s → 1 ≤ t → (d : ℕ) → P t d → ⊥) → ((d : ℕ) → P s d → c ≤ d)
    → (t d k : ℕ) → 1 ≤ t → P t d → index C t d ≡ k → index C s c ≤ k
first_of_all P C s c lo lt none least t d k ht p x =
    elim (cases_order t s) [
      | inl e ↦
          let l : c ≤ d = least d (subst (λ (n : ℕ). P n d) e p) in
          omega (arith, subst (λ (n : ℕ). index C n d ≡ k) e x)
      | inr o ↦ elim o [
        | inl l ↦ absurd (none t l ht d p)
        | inr g ↦ omega (arith, index_lt C s c t d lt lo g, x)
      ]
    ]

-- a search state by state, which gives the first class that has a property in a state, gives the first of all codes
pub least_code : (P : ℕ → ℕ → Type 0) {gives : ℕ → Option ℕ → Type 0} (S C : ℕ) (r : Option ℕ) → FirstCode gives S C r
    → ((s : ℕ) (o : Option ℕ) → 1 ≤ s → s < S → gives s o → Least (P s) o) → ((s c : ℕ) → P s c → c < C)
    → Least (λ (k : ℕ). (s : ℕ) × (c : ℕ) × (1 ≤ s) × (s < S) × P s c × (index C s c ≡ k)) r
least_code P {gives} S C r first least below = go r first.found
  where
    go : (o : Option ℕ) → MatchOption o ((s : ℕ) → 1 ≤ s → s < S → gives s None) (λ k. (s : ℕ) × (c : ℕ) × (1 ≤ s) × (s < S) × gives s (Some c) × (index C s c ≡ k) × ((t : ℕ) → 1 ≤ t → t < s → gives t None))
        → Least (λ (k : ℕ). (s : ℕ) × (c : ℕ) × (1 ≤ s) × (s < S) × P s c × (index C s c ≡ k)) o
    go None h = λ k q. least q.0 None q.2 q.3 (h q.0 q.2 q.3) q.1 q.4
    go (Some k) h =
        let l = least h.0 (Some h.1) h.2 h.3 h.4 in (
          (h.0, h.1, h.2, h.3, l.0, h.5),
          λ j q. subst (λ (n : ℕ). n ≤ j) h.5
              (first_of_all P C h.0 h.1 h.2 (below h.0 h.1 l.0) (λ t lt lo. least t None lo (omega (arith, h.3)) (h.6 t lo lt)) l.1 q.0 q.1 j q.2 q.4 q.5),
        )

pub mark_set : (x i : ℕ) (m : Option ℕ) → 128 ≤ x → marked x i m ≡ Some i
mark_set x i m h = cond-true (marks x) (Some i) m (le-leb 128 x h)

pub mark_kept : (x i : ℕ) (m : Option ℕ) → x < 128 → marked x i m ≡ m
mark_kept x i m h = cond-false (marks x) (Some i) m (lt-leb 128 x h)

mark_late : (x i : ℕ) (m : Option ℕ) → 1 ≤ i → 1 ≤ before m → 1 ≤ before (marked x i m)
mark_late x i m h l = cond_both (marks x) (Some i) m (λ (o : Option ℕ). 1 ≤ before o) (λ _. h) (λ _. l)

mark_first : (x : ℕ) → before (marked x 0 None) ≡ 0
mark_first x = cond_both (marks x) (Some 0) None (λ (o : Option ℕ). before o ≡ 0) (λ _. refl) (λ _. refl)

never_out : (s c : ℕ) (m : Option ℕ) → runs_out ≡ exits_by s c m → ⊥
never_out s c m e = let z : ◌≡◌ {A = ℕ} 0 1 = cc in omega arith

module _ (code : ℕ → ℕ → ℕ) where
  scan_now : (s c i : ℕ) (m : Option ℕ) (cs : List ℕ) → next (code s c) ≡ 0 → scan code s i m (c ∷ cs) ≡ exits_by s c (marked (code s c) i m)
  scan_now s c i m cs z = cond-true (exits (code s c)) _ _ (eq-eqb _ 0 z)

  scan_on : (s c i : ℕ) (m : Option ℕ) (cs : List ℕ) → (next (code s c) ≡ 0 → ⊥)
      → scan code s i m (c ∷ cs) ≡ scan code (next (code s c)) (i + 1) (marked (code s c) i m) cs
  scan_on s c i m cs z = cond-false (exits (code s c)) _ _ (ne_eqb _ 0 z)

  -- a mark after the first class stays one
  scan_late : (s i : ℕ) (m : Option ℕ) (row : List ℕ) (t d : ℕ) (n : Option ℕ) → 1 ≤ i → 1 ≤ before m
      → scan code s i m row ≡ exits_by t d n → 1 ≤ before n
  scan_late s i m [] t d n h l e = absurd (never_out t d n e)
  scan_late s i m (c ∷ cs) t d n h l e =
      elim (cases_eq (next (code s c)) 0) [
        | inl z ↦
            let p = scan_now s c i m cs z in
            let q : marked (code s c) i m ≡ n = cc in
            subst (λ (o : Option ℕ). 1 ≤ before o) q (mark_late (code s c) i m h l)
        | inr z ↦
            scan_late (next (code s c)) (i + 1) (marked (code s c) i m) cs t d n (omega arith) (mark_late (code s c) i m h l) (sym (scan_on s c i m cs z) ∙ e)
      ]

module _ (code : ℕ → ℕ → ℕ) (C : ℕ) where
  -- a row exits by a code of a state and a class
  exit_code : (s i : ℕ) (m : Option ℕ) (row : List ℕ) (t d : ℕ) (n : Option ℕ) → 1 ≤ s → Row C row
      → scan code s i m row ≡ exits_by t d n → (1 ≤ t) × (d < C) × (next (code t d) ≡ 0)
  exit_code s i m [] t d n lo w e = absurd (never_out t d n e)
  exit_code s i m (c ∷ cs) t d n lo w e =
      elim (cases_eq (next (code s c)) 0) [
        | inl z ↦
            let p = scan_now code s c i m cs z in
            let q : s ≡ t = cc in
            let r : c ≡ d = cc in
            (omega arith, subst (λ (x : ℕ). x < C) r w.0, (cc))
        | inr z ↦
            exit_code (next (code s c)) (i + 1) (marked (code s c) i m) cs t d n (omega arith) w.1 (sym (scan_on code s c i m cs z) ∙ e)
      ]

  -- the code of index k is a quiet exit of a state that quiet codes reach from the set
  abbrev pub Later : ℕ → ℕ → Type 0
  Later set k = (t : ℕ) × (c : ℕ) × From true code C set t × ExitsOn true code C t c × (index C t c ≡ k)

  later : (set s i : ℕ) (m : Option ℕ) (row : List ℕ) (t d : ℕ) (n : Option ℕ) (k : ℕ) → From true code C set s → 1 ≤ i → Row C row
      → scan code s i m row ≡ exits_by t d n → before n ≡ 0 → index C t d ≡ k → Later set k
  later set s i m [] t d n k f h w e b x = absurd (never_out t d n e)
  later set s i m (c ∷ cs) t d n k f h w e b x =
      elim (cases_eq (next (code s c)) 0) [
        | inl z ↦
            let p = scan_now code s c i m cs z in
            elim (cases_lt (code s c) 128) [
              | inl l ↦ (s, c, f, (w.0, (z, λ _. l)), (let q : s ≡ t = cc in let r : c ≡ d = cc in cc))
              | inr g ↦ let q : n ≡ Some i = (let o = mark_set (code s c) i m g in cc) in absurd (omega (arith, ap before q))
            ]
        | inr z ↦ elim (cases_lt (code s c) 128) [
          | inl l ↦
              later set (next (code s c)) (i + 1) (marked (code s c) i m) cs t d n k
              (from_step true code C set s _ f (c, w.0, (z, λ _. l), refl)) (omega arith) w.1 (sym (scan_on code s c i m cs z) ∙ e) b x
          | inr g ↦
              let o : 1 ≤ before (marked (code s c) i m) = subst (λ (y : Option ℕ). 1 ≤ before y) (sym (mark_set (code s c) i m g)) h in
              absurd (omega (arith, scan_late code (next (code s c)) (i + 1) (marked (code s c) i m) cs t d n (omega arith) o (sym (scan_on code s c i m cs z) ∙ e)))
        ]
      ]

  -- a row that is stuck exits at its first class, or goes on there and from then on by quiet codes
  pub stuck_ways : (set : ℕ) → ((k : ℕ) → Step false code C 1 k → Has set k) → (k : ℕ) → Stuck code C k → ExitsOn false code C 1 k ⊎ Later set k
  stuck_ways set adds k u = go u.0 u.4 u.5
    where
      go : (row : List ℕ) → Row C row → scanned code row ≡ exits_by u.1 u.2 u.3 → ExitsOn false code C 1 k ⊎ Later set k
      go [] w e = absurd (never_out u.1 u.2 u.3 e)
      go (c ∷ cs) w e =
          elim (cases_eq (next (code 1 c)) 0) [
            | inl z ↦
                let p = scan_now code 1 c 0 None cs z in
                let q : 1 ≡ u.1 = cc in
                let r : c ≡ u.2 = cc in
                let x = u.7 in
                let y : index C 1 c ≡ k = cc in
                let v : c ≡ k = omega arith in
                inl (subst (ExitsOn false code C 1) v (w.0, (z, λ b. absurd (false≢true b))))
            | inr z ↦
                inr (later set (next (code 1 c)) (0 + 1) (marked (code 1 c) 0 None) cs u.1 u.2 u.3 k
                (next (code 1 c), adds _ (c, w.0, (z, λ b. absurd (false≢true b)), refl), ([], refl))
                (omega arith) w.1 (sym (scan_on code 1 c 0 None cs z) ∙ e) u.6 u.7)
          ]

  -- a row for each exit of state 1
  pub first_stuck : (c : ℕ) → ExitsOn false code C 1 c → Stuck code C c
  first_stuck c x =
      (c ∷ [], 1, c, marked (code 1 c) 0 None, (x.0, tt), scan_now code 1 c 0 None [] x.1.0, mark_first (code 1 c), omega arith)

  quiet_row : (s : ℕ) (row : List ℕ) (t c : ℕ) → ExitsOn true code C t c → Runs true code C s row t → (i : ℕ) (m : Option ℕ)
      → Row C (row ++ c ∷ []) × (scan code s i m (row ++ c ∷ []) ≡ exits_by t c m)
  quiet_row s [] t c x e i m =
      rw e ((x.0, tt), scan_now code t c i m [] x.1.0 ∙ ap (exits_by t c) (mark_kept (code t c) i m (x.1.1 refl)))
  quiet_row s (d ∷ ds) t c x r i m =
      let u = quiet_row (next (code s d)) ds t c x r.2 (i + 1) (marked (code s d) i m) in
      ((r.0, u.0), scan_on code s d i m (ds ++ c ∷ []) r.1.0 ∙ u.1 ∙ ap (exits_by t c) (mark_kept (code s d) i m (r.1.1 refl)))

  -- a row for each code that quiet codes reach
  pub later_stuck : (set : ℕ) → ((k : ℕ) → Has set k → Step false code C 1 k) → (k : ℕ) → Later set k → Stuck code C k
  later_stuck set only k l =
      let f = l.2 in
      let o = only f.0 f.1 in
      let run = subst (λ (n : ℕ). Runs true code C n f.2.0 l.0) (sym o.3) f.2.1 in
      let u = quiet_row (next (code 1 o.0)) f.2.0 l.0 l.1 l.3 run (0 + 1) (marked (code 1 o.0) 0 None) in (
        o.0 ∷ (f.2.0 ++ l.1 ∷ []),
        l.0,
        l.1,
        marked (code 1 o.0) 0 None,
        (o.1, u.0),
        scan_on code 1 o.0 0 None _ o.2.0 ∙ u.1,
        mark_first (code 1 o.0),
        l.4,
      )

  -- where state 1 exits, its first exit is the first of all
  pub first_least : (c : ℕ) → c < C → ((d : ℕ) → ExitsOn false code C 1 d → c ≤ d) → (k : ℕ) → Stuck code C k → c ≤ k
  first_least c lt least k u =
      let x = exit_code 1 0 None u.0 u.1 u.2 u.3 (omega arith) u.4 u.5 in
      elim (cases_lt 1 u.1) [
        | inl h ↦ omega (arith, index_lt C 1 c u.1 u.2 lt (omega arith) h, u.7)
        | inr g ↦
            let e : u.1 ≡ 1 = omega arith in
            let q : index C 1 u.2 ≡ k = subst (λ (n : ℕ). index C n u.2 ≡ k) e u.7 in
            let z : next (code 1 u.2) ≡ 0 = subst (λ (n : ℕ). next (code n u.2) ≡ 0) e x.2 in
            omega (arith, least u.2 (x.1, (z, λ b. absurd (false≢true b))))
      ]

  -- where no row is stuck, every run advances
  pub never_stuck : ((k : ℕ) → Stuck code C k → ⊥) → Advances code C
  never_stuck free row w h = go (scanned code row) refl
    where
      go : (e : Ending) → scanned code row ≡ e → 1 ≤ taken (length row) e
      go runs_out q = h
      go (exits_by s c m) q =
          elim (cases_eq (before m) 0) [
            | inl z ↦ absurd (free (index C s c) (row, s, c, m, w, q, z, refl))
            | inr z ↦ omega arith
          ]

-- what stuck looks for: the states after the first class, and what quiet codes reach from these
module _ (code : ℕ → ℕ → ℕ) (S C after none : ℕ) (low : 3 ≤ S) (inside : Closed code S C)
    (empty : (k : ℕ) → Has none k → ⊥)
    (adds : (k : ℕ) → Step false code C 1 k → Has after k)
    (only : (k : ℕ) → Has after k → Has none k ⊎ Step false code C 1 k) where
  step : (k : ℕ) → Has after k → Step false code C 1 k
  step k h = elim (only k h) [ inl z ↦ absurd (empty k z) | inr t ↦ t ]

  pub after_within : (k : ℕ) → Has after k → (1 ≤ k) × (k < S)
  after_within k h =
      let t = step k h in within false code C S inside 1 (t.0 ∷ []) k (omega arith) (omega arith) (t.1, t.2, t.3)

  module _ (set : ℕ) (sound : (k : ℕ) → Has set k → From true code C after k) (complete : (k : ℕ) → From true code C after k → Has set k)
      (none_first : (c : ℕ) → ExitsOn false code C 1 c → ⊥) where
    quits : (k : ℕ) → Later code C after k → QuitsBy code S C set k
    quits k l =
        let f = l.2 in
        let i = after_within f.0 f.1 in
        let w = within true code C S inside f.0 f.2.0 l.0 i.0 i.1 f.2.1 in
        (l.0, l.1, w.0, w.1, complete l.0 f, l.3, l.4)

    pub stuck_least : (r : Option ℕ) → Least (QuitsBy code S C set) r → Least (Stuck code C) r
    stuck_least =
        least_same (QuitsBy code S C set) (Stuck code C)
        (λ k q. later_stuck code C after step k (q.0, q.1, sound q.0 q.4, q.5, q.6))
        (λ k u. elim (stuck_ways code C after adds k u) [ inl x ↦ absurd (none_first k x) | inr l ↦ quits k l ])
