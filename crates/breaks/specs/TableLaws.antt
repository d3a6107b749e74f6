-- The table rule keeps the laws of a rule, and one turn of the walk towards a wall.
use Rattle.std.specs.Prelude.{◌≡◌, ℕ, ◌-◌, ◌<◌, ◌≤◌, Bool, true, false, List, [], ◌∷◌, ◌++◌, length, take, drop}
use Rattle.std.proofs.Math.Path.{refl, sym, ap}
use Rattle.std.proofs.Common.{subst, ◌∙◌, append_assoc}
use Rattle.std.proofs.Math.Logic.{inl, inr}
use native.Mathlib.Omega.{arith}
use Rattle.std.proofs.lemmas.List.{drop-append-le, take_at, length-take-le, take-append-drop}
use Rattle.std.proofs.lemmas.Bool.{cond-true, cond-false, cases_order, eq-eqb, ne_eqb, lt-ltb, le-ltb, false≢true}
use Rattle.automata.specs.Machine.{Advances}
use Rattle.automata.specs.Sure.{Sure}
use Rattle.rules.specs.Cutting.{Bounded, Joined}
use Rattle.rules.specs.Cuts.{joined_by}
use Rattle.breaks.specs.Chars.{Char, chars, span}
use Rattle.breaks.specs.Tables.{scan_run, parted}
use Rattle.breaks.specs.CharLaws.{Fit, fit, fit_right, span_chars, some_chars, chars_drop, chars_take}
use Rattle.breaks.specs.ScanLaws.{last_class, scan_run_at, scan_run_within, scan_run_some, scan_same}

-- the first run of a text
abbrev pub table_run : (ℕ → Bool) → (ℕ → ℕ) → (ℕ → ℕ → ℕ) → (ℕ → ℕ → ℕ) → List ℕ → ℕ
table_run lead one two code xs = scan_run code (chars lead one two xs)

-- the last class hangs only on what stands last
last_append : (c d : ℕ) (us vs : List Char) → 1 ≤ length vs → last_class c (us ++ vs) ≡ last_class d vs
last_append c d us [] h = absurd (omega arith)
last_append c d [] (v ∷ vs) h = refl
last_append c d (u ∷ us) (v ∷ vs) h = last_append u.class d us (v ∷ vs) h

last_low : (C c : ℕ) (us : List Char) → c < C → Fit C us → last_class c us < C
last_low C c [] h f = h
last_low C c (u ∷ us) h f = last_low C u.class us f.1 f.2

module _ (sure : ℕ → ℕ → Bool) where
  -- one turn: the place lies inside the first of two characters, between them, or behind
  module _ (p : ℕ) (us : List Char) (u v : Char) (vs : List Char) (is : us ≡ u ∷ v ∷ vs) where
    pub parted_inside : p < u.size → parted sure p us ≡ false
    unfolding parted
    parted_inside h = ap (parted sure p) is ∙ cond-true _ _ _ (lt-ltb p u.size h)

    pub parted_here : p ≡ u.size → parted sure p us ≡ sure u.class v.class
    unfolding parted
    parted_here e = ap (parted sure p) is ∙ cond-false _ _ _ (le-ltb p u.size (omega arith)) ∙ cond-true _ _ _ (eq-eqb p u.size e)

    pub parted_on : u.size < p → parted sure p us ≡ parted sure (p - u.size) (v ∷ vs)
    unfolding parted
    parted_on h =
        ap (parted sure p) is ∙ cond-false _ _ _ (le-ltb p u.size (omega arith))
        ∙ cond-false _ _ _ (ne_eqb p u.size (λ e. omega arith))

  -- no place lies between fewer than two characters
  pub parted_few : (p : ℕ) (us : List Char) → length us ≤ 1 → parted sure p us ≡ false
  unfolding parted
  parted_few p [] h = refl
  parted_few p (u ∷ []) h = refl
  parted_few p (u ∷ v ∷ vs) h = absurd (omega arith)

  -- what a parted place is: characters up to it, and one behind it
  abbrev pub Parted : ℕ → List Char → Type 0
  Parted p us =
      (w : Char) × (ws : List Char) × (v : Char) × (vs : List Char)
      × (us ≡ w ∷ (ws ++ v ∷ vs)) × (span (w ∷ ws) ≡ p) × (sure (last_class w.class ws) v.class ≡ true)

  pub parted_is : (p : ℕ) (us : List Char) → parted sure p us ≡ true → Parted p us
  unfolding parted
  parted_is p [] e = absurd (false≢true e)
  parted_is p (u ∷ []) e = absurd (false≢true e)
  parted_is p (u ∷ v ∷ vs) e =
      elim (cases_order p u.size) [
        | inl q ↦ (u, [], v, vs, refl, omega arith, sym (parted_here p _ u v vs refl q) ∙ e)
        | inr o ↦ elim o [
          | inl l ↦ absurd (false≢true (sym (parted_inside p _ u v vs refl l) ∙ e))
          | inr g ↦
              let r = parted_is (p - u.size) (v ∷ vs) (sym (parted_on p _ u v vs refl g) ∙ e) in
              let s = r.5 in
              (u, r.0 ∷ r.1, r.2, r.3, ap (λ l. u ∷ l) r.4, omega arith, r.6)
        ]
      ]

  -- the same test of a text and a place in it
  pub parted_at : (lead : ℕ → Bool) (one : ℕ → ℕ) (two : ℕ → ℕ → ℕ) (text : List ℕ) (p : ℕ) → p ≤ length text
      → parted sure (length (take p text)) (chars lead one two (take p text ++ drop p text)) ≡ parted sure p (chars lead one two text)
  parted_at lead one two text p h =
      ap (λ (n : ℕ). parted sure n (chars lead one two (take p text ++ drop p text))) (length-take-le p text h)
      ∙ ap (λ l. parted sure p (chars lead one two l)) (take-append-drop p text)

module _ (lead : ℕ → Bool) (one : ℕ → ℕ) (two code : ℕ → ℕ → ℕ) (C : ℕ) (least : 1 ≤ C)
    (low-one : (x : ℕ) → lead x ≡ false → one x < C) (low-two : (x y : ℕ) → lead x ≡ true → two x y < C)
    (advances : Advances code C) where
  abbrev all : List ℕ → List Char
  all = chars lead one two

  abbrev run : List ℕ → ℕ
  run = table_run lead one two code

  fits : (xs : List ℕ) → Fit C (all xs)
  fits = fit lead one two C least low-one low-two

  some : (xs : List ℕ) → 1 ≤ length xs → 1 ≤ length (all xs)
  some = some_chars lead one two

  run_within : (xs : List ℕ) → run xs ≤ length xs
  run_within xs = omega (arith, scan_run_within code (all xs), span_chars lead one two xs)

  pub table_bounded : Bounded (table_run lead one two code)
  table_bounded = record {
    some = λ xs h. scan_run_some code C (all xs) advances (fits xs) (some xs h);
    within = λ xs _. run_within xs;
  }

  module _ (sure : ℕ → ℕ → Bool) (sound : (a b : ℕ) → a < C → b < C → sure a b ≡ true → Sure code C a b) where
    module _ (after : List ℕ) (v : Char) (vs : List Char) (low : v.class < C) where
      -- with what is behind, these have the characters that they have alone, and the seam passes the test
      abbrev Stands : List ℕ → Type 0
      Stands xs = (all (xs ++ after) ≡ all xs ++ v ∷ vs) × (sure (last_class 0 (all xs)) v.class ≡ true)

      same : (xs : List ℕ) → 1 ≤ length xs → Stands xs → run (xs ++ after) ≡ run xs
      same xs h s =
          ap (scan_run code) s.0
          ∙ scan_same code C (all xs) v vs (fits xs) (some xs h) (sound _ _ (last_low C 0 (all xs) least (fits xs)) low s.1)

      rest : (xs : List ℕ) → 1 ≤ length xs → Stands xs → 1 ≤ length (drop (run xs) xs) → Stands (drop (run xs) xs)
      rest xs h s l =
          let a = scan_run_at code (all xs) in
          let here : all (drop (run xs) xs) ≡ a.1 =
          ap (λ (n : ℕ). all (drop n xs)) a.3 ∙ chars_drop lead one two a.0 a.1 xs a.2 in
          let left : 1 ≤ length a.1 = subst (λ (us : List Char). 1 ≤ length us) here (some (drop (run xs) xs) l) in (
            ap all (sym (drop-append-le (run xs) xs after (run_within xs)))
                ∙ ap (λ (n : ℕ). all (drop n (xs ++ after))) a.3
                ∙ chars_drop lead one two a.0 (a.1 ++ v ∷ vs) (xs ++ after) (s.0 ∙ ap (λ us. us ++ v ∷ vs) a.2 ∙ append_assoc a.0 a.1 (v ∷ vs))
                ∙ ap (λ us. us ++ v ∷ vs) (sym here),
            ap (λ (c : ℕ). sure c v.class) (ap (last_class 0) here ∙ sym (last_append 0 0 a.0 a.1 left) ∙ ap (last_class 0) (sym a.2)) ∙ s.1,
          )

    pub table_joins : (before after : List ℕ) → parted sure (length before) (chars lead one two (before ++ after)) ≡ true
        → Joined (table_run lead one two code) before after
    table_joins before after e =
        let p = parted_is sure (length before) (all (before ++ after)) e in
        let f = fit_right C (p.0 ∷ p.1) (p.2 ∷ p.3) (subst (Fit C) p.4 (fits (before ++ after))) in
        let front : all before ≡ p.0 ∷ p.1 =
        ap all (sym (take_at before after (span (p.0 ∷ p.1)) (sym p.5))) ∙ chars_take lead one two (p.0 ∷ p.1) (p.2 ∷ p.3) (before ++ after) p.4 in
        joined_by run table_bounded (Stands after p.2 p.3 f.1) after
        (same after p.2 p.3 f.1) (rest after p.2 p.3 f.1) (length before) before (omega arith)
        (λ _. (p.4 ∙ ap (λ us. us ++ p.2 ∷ p.3) (sym front), ap (λ us. sure (last_class 0 us) p.2.class) front ∙ p.6))
