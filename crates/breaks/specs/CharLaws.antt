-- Characters: one by one, from a place of theirs and up to one.
use Rattle.std.specs.Prelude.{◌≡◌, ℕ, suc, ◌+◌, ◌<◌, ◌≤◌, Bool, true, false, List, [], ◌∷◌, ◌++◌, length, take, drop, slice_index}
use Rattle.std.proofs.Math.Path.{refl, ap}
use Rattle.std.proofs.Common.{sym, subst, ◌∙◌, inl, inr, one-add}
use native.Mathlib.Omega.{arith}
use Rattle.std.proofs.lemmas.List.{drop-drop, drop_more, drop_all, take_all}
use Rattle.std.proofs.lemmas.Bool.{cond-true, cond-false, cond_both, cases_Bool}
use Rattle.automata.specs.Machine.{Row}
use Rattle.breaks.specs.Chars.{Char, char, chars, span, row_of}

-- each character has a byte and a class below C
abbrev pub Fit : ℕ → List Char → Type 0
Fit C [] = Unit {0}
Fit C (u ∷ us) = (1 ≤ u.size) × (u.class < C) × Fit C us

-- their classes make a row
pub row_low : (C : ℕ) (us : List Char) → Fit C us → Row C (row_of us)
row_low C [] f = tt
row_low C (u ∷ us) f = (f.1, row_low C us f.2)

pub fit_right : (C : ℕ) (us vs : List Char) → Fit C (us ++ vs) → Fit C vs
fit_right C [] vs f = f
fit_right C (u ∷ us) vs f = fit_right C us vs f.2

pub span_append : (us vs : List Char) → span (us ++ vs) ≡ span us + span vs
span_append [] vs = omega arith
span_append (u ∷ us) vs = let i = span_append us vs in omega arith

some_span : (us : List Char) → 1 ≤ span us → 1 ≤ length us
some_span [] h = h
some_span (u ∷ us) h = omega arith

module _ (lead : ℕ → Bool) (one : ℕ → ℕ) (two : ℕ → ℕ → ℕ) where
  pub chars_none : chars lead one two [] ≡ []
  unfolding chars
  chars_none = refl

  pub chars_one : (x : ℕ) (xs : List ℕ) → lead x ≡ false → chars lead one two (x ∷ xs) ≡ char 1 (one x) ∷ chars lead one two xs
  unfolding chars
  chars_one x [] e = ap (λ (c : ℕ). char 1 c ∷ []) (cond-false _ _ _ e)
  chars_one x (y ∷ ys) e = cond-false _ _ _ e

  pub chars_two : (x y : ℕ) (ys : List ℕ) → lead x ≡ true → chars lead one two (x ∷ y ∷ ys) ≡ char 2 (two x y) ∷ chars lead one two ys
  unfolding chars
  chars_two x y ys e = cond-true _ _ _ e

  pub chars_short : (x : ℕ) → lead x ≡ true → chars lead one two (x ∷ []) ≡ char 1 0 ∷ []
  unfolding chars
  chars_short x e = ap (λ (c : ℕ). char 1 c ∷ []) (cond-true _ _ _ e)

  -- the characters have the bytes of the text
  pub span_chars : (xs : List ℕ) → span (chars lead one two xs) ≡ length xs
  unfolding chars
  span_chars [] = refl
  span_chars (x ∷ []) = omega arith
  span_chars (x ∷ y ∷ ys) =
      cond_both (lead x) _ _ (λ us. span us ≡ length (x ∷ y ∷ ys))
      (λ _. let i = span_chars ys in omega arith) (λ _. let i = span_chars (y ∷ ys) in omega arith)

  pub some_chars : (xs : List ℕ) → 1 ≤ length xs → 1 ≤ length (chars lead one two xs)
  some_chars xs h = some_span (chars lead one two xs) (omega (arith, span_chars xs))

  -- the classes that a table names lie below C
  module _ (C : ℕ) (least : 1 ≤ C) (low-one : (x : ℕ) → lead x ≡ false → one x < C)
      (low-two : (x y : ℕ) → lead x ≡ true → two x y < C) where
    pub fit : (xs : List ℕ) → Fit C (chars lead one two xs)
    unfolding chars
    fit [] = tt
    fit (x ∷ []) = (omega arith, cond_both (lead x) _ _ (λ (c : ℕ). c < C) (λ _. least) (low-one x), tt)
    fit (x ∷ y ∷ ys) =
        cond_both (lead x) _ _ (Fit C)
        (λ e. (omega arith, low-two x y e, fit ys)) (λ e. (omega arith, low-one x e, fit (y ∷ ys)))

  -- the first character of a text, which does not hang on what is cut off behind it
  record First (xs : List ℕ) : Type 0 where
    first : Char
    rest : chars lead one two xs ≡ first ∷ chars lead one two (drop first.size xs)
    front : (k : ℕ) → chars lead one two (take (first.size + k) xs) ≡ first ∷ chars lead one two (take k (drop first.size xs))

  first_of : (x : ℕ) (xs : List ℕ) → First (x ∷ xs)
  first_of x xs = elim (cases_Bool (lead x)) [ inl e ↦ leads xs e | inr e ↦ alone e ]
    where
      alone : lead x ≡ false → First (x ∷ xs)
      alone e = record { first = char 1 (one x); rest = chars_one x xs e; front = λ k. rw one-add (chars_one x (take k xs) e) }

      leads : (ys : List ℕ) → lead x ≡ true → First (x ∷ ys)
      leads [] e =
          let s = chars_short x e ∙ ap (λ us. char 1 0 ∷ us) (sym chars_none) in
          record {
            first = char 1 0;
            rest = s;
            front = λ k.
                rw one-add
                (subst (λ (l : List ℕ). chars lead one two (x ∷ l) ≡ char 1 0 ∷ chars lead one two l) (sym (take_all k [] (omega arith))) s);
          }
      leads (y ∷ ys) e = record {
        first = char 2 (two x y);
        rest = chars_two x y ys e;
        front = λ k.
            let n : 2 + k ≡ suc (suc k) = omega arith in
            ap (λ (n : ℕ). chars lead one two (take n (x ∷ y ∷ ys))) n ∙ chars_two x y (take k ys) e;
      }

  -- reading from a place of the characters
  pub chars_drop : (us vs : List Char) (xs : List ℕ) → chars lead one two xs ≡ us ++ vs → chars lead one two (drop (span us) xs) ≡ vs
  chars_drop [] vs xs e = e
  chars_drop (u ∷ us) vs [] e = let n = chars_none in let z : ◌≡◌ {A = ℕ} 0 1 = cc in absurd (omega arith)
  chars_drop (u ∷ us) vs (x ∷ xs) e =
      let f = first_of x xs in
      let r = f.rest in
      let same : f.first ≡ u = cc in
      let on : chars lead one two (drop u.size (x ∷ xs)) ≡ us ++ vs = cc in
      ap (chars lead one two) (sym (drop-drop (span us) u.size (x ∷ xs))) ∙ chars_drop us vs (drop u.size (x ∷ xs)) on

  -- reading up to a place of the characters
  pub chars_take : (us vs : List Char) (xs : List ℕ) → chars lead one two xs ≡ us ++ vs → chars lead one two (take (span us) xs) ≡ us
  chars_take [] vs xs e = chars_none
  chars_take (u ∷ us) vs [] e = let n = chars_none in let z : ◌≡◌ {A = ℕ} 0 1 = cc in absurd (omega arith)
  chars_take (u ∷ us) vs (x ∷ xs) e =
      let f = first_of x xs in
      let r = f.rest in
      let same : f.first ≡ u = cc in
      let on : chars lead one two (drop f.first.size (x ∷ xs)) ≡ us ++ vs = cc in
      let more = chars_take us vs (drop f.first.size (x ∷ xs)) on in
      let front = f.front (span us) in
      cc

  -- what is left of a text at place p: nothing, or a character of one byte, one of two, or a first byte that ends the text
  module _ (text : List ℕ) (p : ℕ) where
    pub read_none : length text ≤ p → chars lead one two (drop p text) ≡ []
    read_none h = ap (chars lead one two) (drop_all p text h) ∙ chars_none

    read_at : p < length text → chars lead one two (drop p text) ≡ chars lead one two (slice_index text p ∷ drop (p + 1) text)
    read_at h = ap (chars lead one two) (drop_more text p 0 h)

    pub read_one : p < length text → lead (slice_index text p) ≡ false
        → chars lead one two (drop p text) ≡ char 1 (one (slice_index text p)) ∷ chars lead one two (drop (p + 1) text)
    read_one h e = read_at h ∙ chars_one _ _ e

    pub read_two : p + 1 < length text → lead (slice_index text p) ≡ true
        → chars lead one two (drop p text) ≡ char 2 (two (slice_index text p) (slice_index text (p + 1))) ∷ chars lead one two (drop (p + 2) text)
    read_two h e =
        let n : p + 1 + 1 ≡ p + 2 = omega arith in
        read_at (omega arith) ∙ ap (λ r. chars lead one two (slice_index text p ∷ r)) (drop_more text (p + 1) 0 h) ∙ chars_two _ _ _ e
        ∙ ap (λ (n : ℕ). char 2 (two (slice_index text p) (slice_index text (p + 1))) ∷ chars lead one two (drop n text)) n

    pub read_short : p + 1 ≡ length text → lead (slice_index text p) ≡ true
        → chars lead one two (drop p text) ≡ char 1 0 ∷ chars lead one two (drop (p + 1) text)
    read_short h e =
        let past = drop_all (p + 1) text (omega arith) in
        read_at (omega arith)
        ∙ subst (λ (l : List ℕ). chars lead one two (slice_index text p ∷ l) ≡ char 1 0 ∷ chars lead one two l) (sym past)
        (chars_short _ e ∙ ap (λ us. char 1 0 ∷ us) (sym chars_none))
