-- Rows that exit with an unsure last mark: where the mark is set, and a row for each such exit.
use Rattle.std.proofs.Common.{◌≡◌, ℕ, ◌+◌, ◌<◌, ◌≤◌, Bool, true, false, ◌⊎◌, List, [], ◌∷◌, ◌++◌, length, get_or, Some, None, Option, sym, refl, ap, ◌∙◌, subst, inl, inr, append_assoc, arith}
use Rattle.std.proofs.lemmas.List.{get_or-append-add}
use Rattle.std.proofs.lemmas.Bool.{cases_lt, le-leb, lt-leb, leb-true, leb-false, false≢true}
use Rattle.automata.specs.Machine.{index, next, marked}
use Rattle.automata.specs.Sets.{Has}
use Rattle.automata.specs.Reach.{Runs, Leads, From}
use Rattle.automata.specs.Stuck.{Least}
use Rattle.automata.specs.Steady.{last_mark, UnsureBefore, Unsteady}
use Rattle.automata.specs.Unsure.{UnsureAt, Spoilt, Shaky, ShakyBy}
use Rattle.automata.proofs.Rows.{Closed, within, runs_on}
use Rattle.automata.proofs.Stucks.{least_same, mark_set, mark_kept}

module _ (code : ℕ → ℕ → ℕ) (C : ℕ) where
  -- quiet codes set no mark
  last_quiet : (s i : ℕ) (m : Option ℕ) (row : List ℕ) (t : ℕ) → Runs true code C s row t → last_mark code s i m row ≡ m
  last_quiet s i m [] t run = refl
  last_quiet s i m (c ∷ cs) t run =
      last_quiet (next (code s c)) (i + 1) (marked (code s c) i m) cs t run.2 ∙ mark_kept (code s c) i m (run.1.1 refl)

  -- the last mark of one row after another
  last_on : (s i : ℕ) (m : Option ℕ) (xs : List ℕ) (t : ℕ) (ys : List ℕ) → Runs false code C s xs t
      → last_mark code s i m (xs ++ ys) ≡ last_mark code t (i + length xs) (last_mark code s i m xs) ys
  last_on s i m [] t ys e =
      let z : i ≡ i + length {A = ℕ} [] = omega arith in
      ap (λ (r : ℕ). last_mark code r i m ys) e ∙ ap (λ (j : ℕ). last_mark code t j m ys) z
  last_on s i m (c ∷ cs) t ys run =
      let n = marked (code s c) i m in
      let z : i + 1 + length cs ≡ i + length (c ∷ cs) = omega arith in
      last_on (next (code s c)) (i + 1) n cs t ys run.2
      ∙ ap (λ (j : ℕ). last_mark code t j (last_mark code (next (code s c)) (i + 1) n cs) ys) z

  -- quiet codes are codes
  loud : (s : ℕ) (row : List ℕ) (t : ℕ) → Runs true code C s row t → Runs false code C s row t
  loud s [] t e = e
  loud s (c ∷ cs) t run = (run.0, (run.1.0, λ b. absurd (false≢true b)), loud (next (code s c)) cs t run.2)

  -- where the last mark of a row is set: after it only quiet codes follow
  pub record Split (s i : ℕ) (row : List ℕ) (t : ℕ) (n : Option ℕ) : Type 0 where
    pub front : List ℕ
    pub class : ℕ
    pub rest : List ℕ
    pub state : ℕ
    pub parts : row ≡ front ++ class ∷ rest
    pub comes : Runs false code C s front state
    pub small : class < C
    pub sets : 128 ≤ code state class
    pub goes : next (code state class) ≡ 0 → ⊥
    pub quiet : Runs true code C (next (code state class)) rest t
    pub mark : n ≡ Some (i + length front)

  split : (s i : ℕ) (m : Option ℕ) (row : List ℕ) (t : ℕ) → Runs false code C s row t
      → (Runs true code C s row t × (last_mark code s i m row ≡ m)) ⊎ Split s i row t (last_mark code s i m row)
  split s i m [] t e = inl (e, refl)
  split s i m (c ∷ cs) t run =
      elim (split (next (code s c)) (i + 1) (marked (code s c) i m) cs t run.2) [
        | inl q ↦ elim (cases_lt (code s c) 128) [
          | inl l ↦ inl ((run.0, (run.1.0, λ _. l), q.0), q.1 ∙ mark_kept (code s c) i m l)
          | inr g ↦
              let z : i ≡ i + length {A = ℕ} [] = omega arith in
              inr record {
                front = [];
                class = c;
                rest = cs;
                state = s;
                parts = refl;
                comes = refl;
                small = run.0;
                sets = g;
                goes = run.1.0;
                quiet = q.0;
                mark = q.1 ∙ mark_set (code s c) i m g ∙ ap Some z;
              }
        ]
        | inr p ↦
            let z : i + 1 + length p.front ≡ i + length (c ∷ p.front) = omega arith in
            inr record {
              front = c ∷ p.front;
              class = p.class;
              rest = p.rest;
              state = p.state;
              parts = ap (λ (xs : List ℕ). c ∷ xs) p.parts;
              comes = (run.0, run.1, p.comes);
              small = p.small;
              sets = p.sets;
              goes = p.goes;
              quiet = p.quiet;
              mark = p.mark ∙ ap Some z;
            }
      ]

  module _ (sure : ℕ → ℕ → Bool) where
    -- what stands at the mark and after it
    at_mark : (front : List ℕ) (c : ℕ) (rest : List ℕ) (e : ℕ) → get_or ((front ++ c ∷ rest) ++ e ∷ []) (length front) 0 ≡ c
    at_mark front c rest e =
        let z : length front ≡ length front + 0 = omega arith in
        ap (λ (xs : List ℕ). get_or xs (length front) 0) (append_assoc front (c ∷ rest) (e ∷ []))
        ∙ ap (λ (j : ℕ). get_or (front ++ (c ∷ (rest ++ e ∷ []))) j 0) z
        ∙ get_or-append-add front (c ∷ (rest ++ e ∷ [])) 0 0

    past_mark : (front : List ℕ) (c : ℕ) (rest : List ℕ) (e : ℕ) → get_or ((front ++ c ∷ rest) ++ e ∷ []) (length front + 1) 0 ≡ get_or (rest ++ e ∷ []) 0 0
    past_mark front c rest e =
        ap (λ (xs : List ℕ). get_or xs (length front + 1) 0) (append_assoc front (c ∷ rest) (e ∷ []))
        ∙ get_or-append-add front (c ∷ (rest ++ e ∷ [])) 1 0

    pair_is : (front : List ℕ) (c : ℕ) (rest : List ℕ) (e : ℕ)
        → sure (get_or ((front ++ c ∷ rest) ++ e ∷ []) (length front + 1) 0) (get_or ((front ++ c ∷ rest) ++ e ∷ []) (length front) 0) ≡ sure (get_or (rest ++ e ∷ []) 0 0) c
    pair_is front c rest e = let p = at_mark front c rest e in let q = past_mark front c rest e in cc

    -- a row that sets an unsure mark and goes on by quiet codes
    quiet_row : (front : List ℕ) (s c : ℕ) (rest : List ℕ) (t e : ℕ) → Runs false code C 1 front s → c < C → 128 ≤ code s c → (next (code s c) ≡ 0 → ⊥)
        → Runs true code C (next (code s c)) rest t → e < C → next (code t e) ≡ 0 → code t e < 128 → sure (get_or (rest ++ e ∷ []) 0 0) c ≡ false
        → Unsteady code C sure (index C t e)
    quiet_row front s c rest t e run lt g z quiet le x l u =
        let m = last_mark code 1 0 None front in
        let j = 0 + length front in
        let on = last_on 1 0 None front s (c ∷ rest) run in
        let set = ap (λ (n : Option ℕ). last_mark code (next (code s c)) (j + 1) n rest) (mark_set (code s c) j m g) in
        let stay = last_quiet (next (code s c)) (j + 1) (Some j) rest t quiet in
        let same : j ≡ length front = omega arith in (
          front ++ c ∷ rest,
          t,
          e,
          runs_on false code C 1 front s run (c ∷ rest) t (lt, (z, λ b. absurd (false≢true b)), loud (next (code s c)) rest t quiet),
          le,
          x,
          refl,
          inr (lt-leb 128 (code t e) l, (length front, on ∙ set ∙ stay ∙ ap Some same, pair_is front c rest e ∙ u)),
        )

-- what unsteady looks for: the states that are reached, those after an unsure mark, and what quiet codes reach from these
module _ (code : ℕ → ℕ → ℕ) (S C : ℕ) (sure : ℕ → ℕ → Bool) (low : 3 ≤ S) (inside : Closed code S C) (reached after : ℕ)
    (after-sound : (k : ℕ) → Has after k → Spoilt code S C sure reached k) where
  pub after_within : (k : ℕ) → Has after k → (1 ≤ k) × (k < S)
  after_within k h =
      let p = after-sound k h in
      let q = p.3 in
      let e = q.3 in
      let lt = inside p.0 q.0 p.1 p.2 q.1 in
      let lo : 1 ≤ next (code p.0 q.0) = omega (arith, q.2.0.0) in
      subst (λ (n : ℕ). (1 ≤ n) × (n < S)) e (lo, lt)

  module _ (sound : (k : ℕ) → Has reached k → Leads false code C 1 k) (complete : (k : ℕ) → Leads false code C 1 k → Has reached k)
      (after-complete : (k : ℕ) → Spoilt code S C sure reached k → Has after k)
      (late : ℕ) (late-sound : (k : ℕ) → Has late k → From true code C after k) (late-complete : (k : ℕ) → From true code C after k → Has late k) where
    -- a row that leads to state t, with a mark on its last class that class e makes unsure
    pending_row : (t e : ℕ) → 1 ≤ t → e < C → next (code t e) ≡ 0 → code t e < 128 → UnsureAt code S C sure reached t e → Unsteady code C sure (index C t e)
    pending_row t e lo lt x l u =
        let r = sound u.0 u.3 in
        let v = u.4 in
        let to = v.2.1 in
        quiet_row code C sure r.0 u.0 v.0 [] t e r.1 v.1 v.2.0 (λ z. omega arith) to lt x l v.3

    -- a row that leads to state t with an unsure mark and the class after it read
    late_row : (t e : ℕ) → e < C → next (code t e) ≡ 0 → code t e < 128 → Has late t → Unsteady code C sure (index C t e)
    late_row t e lt x l h =
        let f = late-sound t h in
        let p = after-sound f.0 f.1 in
        let q = p.3 in
        let u = q.2.1 in
        let r = sound u.0 u.3 in
        let v = u.4 in
        let to = v.2.1 in
        let lo = p.1 in
        let run = subst (λ (n : ℕ). Runs true code C n f.2.0 t) (sym q.3) f.2.1 in
        quiet_row code C sure r.0 u.0 v.0 (q.0 ∷ f.2.0) t e r.1 v.1 v.2.0 (λ z. omega arith)
        (subst (λ (n : ℕ). Runs true code C n (q.0 ∷ f.2.0) t) (sym to) (q.1, q.2.0, run)) lt x l v.3

    -- a row for each exit
    shaky_row : (s d : ℕ) → 1 ≤ s → Shaky code S C sure reached late s d → Unsteady code C sure (index C s d)
    shaky_row s d lo y =
        elim y.2 [
          | inl m ↦ let r = sound s m.1 in (r.0, s, d, r.1, y.0, y.1, refl, inl (le-leb 128 (code s d) m.0, m.2))
          | inr n ↦ elim n.1 [
            | inl h ↦ late_row s d y.0 y.1 n.0 h
            | inr u ↦ pending_row s d lo y.0 y.1 n.0 u
          ]
        ]

    -- the state that a mark and then quiet codes lead to
    marked_ways : (r c : ℕ) (rest : List ℕ) (s e : ℕ) → 1 ≤ r → r < S → Has reached r → c < C → 128 ≤ code r c → (next (code r c) ≡ 0 → ⊥)
        → Runs true code C (next (code r c)) rest s → sure (get_or (rest ++ e ∷ []) 0 0) c ≡ false → Has late s ⊎ UnsureAt code S C sure reached s e
    marked_ways r c [] s e lo hi h lt g z q u = inr (r, lo, hi, h, (c, lt, (g, q), u))
    marked_ways r c (d ∷ ds) s e lo hi h lt g z q u =
        let t = next (code r c) in
        let one : 1 ≤ t = omega (arith, z) in
        let spoilt : Spoilt code S C sure reached (next (code t d)) =
        (t, one, inside r c lo hi lt, (d, q.0, (q.1, (r, lo, hi, h, (c, lt, (g, refl), u))), refl)) in
        inl (late-complete s (next (code t d), after-complete (next (code t d)) spoilt, (ds, q.2)))

    -- the exit of each row
    before_ways : (row : List ℕ) (s e : ℕ) → Runs false code C 1 row s → UnsureBefore sure (row ++ e ∷ []) (last_mark code 1 0 None row)
        → Has late s ⊎ UnsureAt code S C sure reached s e
    before_ways row s e run u =
        elim (split code C 1 0 None row s run) [
          | inl q ↦ absurd (never u.0 (sym q.1 ∙ u.1))
          | inr p ↦ ways p (same u.0 (0 + length p.front) (sym u.1 ∙ p.mark))
        ]
      where
        never : (i : ℕ) → None ≡ Some i → ⊥
        never i q = let z : ◌≡◌ {A = ℕ} 0 1 = cc in omega arith

        same : (i j : ℕ) → Some i ≡ Some j → i ≡ j
        same i j q = cc

        pair : List ℕ → ℕ → Bool
        pair xs j = sure (get_or (xs ++ e ∷ []) (j + 1) 0) (get_or (xs ++ e ∷ []) j 0)

        ways : (p : Split code C 1 0 row s (last_mark code 1 0 None row)) → u.0 ≡ 0 + length p.front → Has late s ⊎ UnsureAt code S C sure reached s e
        ways p q =
            let at : u.0 ≡ length p.front = omega arith in
            let w = within false code C S inside 1 p.front p.state (omega arith) (omega arith) p.comes in
            let v = ap (λ (xs : List ℕ). pair xs u.0) p.parts ∙ ap (pair (p.front ++ p.class ∷ p.rest)) at ∙ pair_is code C sure p.front p.class p.rest e in
            marked_ways p.state p.class p.rest s e w.0 w.1 (complete p.state (p.front, p.comes)) p.small p.sets p.goes p.quiet (sym v ∙ u.2)

    row_shaky : (k : ℕ) → Unsteady code C sure k → ShakyBy code S C sure reached late k
    row_shaky k w =
        let i = within false code C S inside 1 w.0 w.1 (omega arith) (omega arith) w.3 in
        elim w.7 [
          | inl m ↦
              (w.1, w.2, i.0, i.1, (w.4, w.5, inl (leb-true 128 _ m.0, complete w.1 (w.0, w.3), m.1)), w.6)
          | inr n ↦
              (w.1, w.2, i.0, i.1, (w.4, w.5, inr (leb-false 128 _ n.0, before_ways w.0 w.1 w.2 w.3 n.1)), w.6)
        ]

    pub unsteady_least : (r : Option ℕ) → Least (ShakyBy code S C sure reached late) r → Least (Unsteady code C sure) r
    unsteady_least =
        least_same (ShakyBy code S C sure reached late) (Unsteady code C sure)
        (λ k q. subst (Unsteady code C sure) q.5 (shaky_row q.0 q.1 q.2 q.4)) row_shaky
