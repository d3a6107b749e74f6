-- The characters that start below a place, and the last of them.
use Rattle.std.proofs.Common.{◌≡◌, ℕ, ◌+◌, ◌-◌, ◌<◌, ◌≤◌, Bool, eqb, List, [], ◌∷◌, ◌++◌, reverse, length, drop, sym, refl, ap, ◌∙◌, subst, arith}
use mathlib.Core.List.{reverse-cons, reverse-append}
use Rattle.std.proofs.lemmas.Bool.{cond-false, cond_both, ne_eqb}
use Rattle.breaks.specs.Chars.{Char, chars, span}
use Rattle.breaks.specs.Places.{covering}
use Rattle.breaks.specs.CharLaws.{Fit, span_append}
use Rattle.breaks.proofs.Backs.{Bound, covered, covers, read_there}
use Rattle.finds.specs.Finds.{starting_below}

pub span_reverse : (us : List Char) → span (reverse us) ≡ span us
span_reverse [] = refl
span_reverse (u ∷ us) =
    let i = span_reverse us in
    ap span (reverse-cons u us) ∙ span_append (reverse us) (u ∷ []) ∙ omega arith

-- a front of characters that fit, and the same backward
pub fit_left : (C : ℕ) (us vs : List Char) → Fit C (us ++ vs) → Fit C us
fit_left C [] vs f = tt
fit_left C (u ∷ us) vs f = (f.0, f.1, fit_left C us vs f.2)

fit_push : (C : ℕ) (us : List Char) (v : Char) → Fit C us → 1 ≤ v.size → v.class < C → Fit C (us ++ v ∷ [])
fit_push C [] v f some low = (some, low, tt)
fit_push C (u ∷ us) v f some low = (f.0, f.1, fit_push C us v f.2 some low)

pub fit_reverse : (C : ℕ) (us : List Char) → Fit C us → Fit C (reverse us)
fit_reverse C [] f = tt
fit_reverse C (u ∷ us) f = subst (Fit C) (sym (reverse-cons u us)) (fit_push C (reverse us) u (fit_reverse C us f.2) f.0 f.1)

pub below_none : (us : List Char) → starting_below 0 us ≡ []
below_none [] = refl
below_none (u ∷ us) = refl

below_more : (place : ℕ) (u : Char) (us : List Char) → 0 < place → starting_below place (u ∷ us) ≡ u ∷ starting_below (place - u.size) us
below_more place u us h = cond-false _ _ _ (ne_eqb place 0 (λ e. omega arith))

-- up to a place past the start of a character and not past its end
below_over : (f : List Char) (u : Char) (g : List Char) (place : ℕ) → span f < place → place ≤ span f + u.size → starting_below place (f ++ u ∷ g) ≡ f ++ u ∷ []
below_over [] u g place lo hi =
    let z : place - u.size ≡ 0 = omega arith in
    below_more place u g (omega arith) ∙ ap (λ us. u ∷ us) (ap (λ (n : ℕ). starting_below n g) z ∙ below_none g)
below_over (w ∷ ws) u g place lo hi =
    below_more place w (ws ++ u ∷ g) (omega arith) ∙ ap (λ us. w ∷ us) (below_over ws u g (place - w.size) (omega arith) (omega arith))

-- up to the place between two characters
below_at : (C : ℕ) (f g : List Char) (place : ℕ) → Fit C (f ++ g) → place ≡ span f → starting_below place (f ++ g) ≡ f
below_at C [] g place fit e = ap (λ (n : ℕ). starting_below n g) e ∙ below_none g
below_at C (w ∷ ws) g place fit e =
    let some = fit.0 in
    below_more place w (ws ++ g) (omega arith) ∙ ap (λ us. w ∷ us) (below_at C ws g (place - w.size) fit.2 (omega arith))

-- they are a front of all
pub below_front : (place : ℕ) (us : List Char) → (rest : List Char) × (us ≡ starting_below place us ++ rest)
below_front place [] = ([], refl)
below_front place (u ∷ us) =
    cond_both (eqb place 0) _ _ (λ (l : List Char). (rest : List Char) × (u ∷ us ≡ l ++ rest)) (λ _. (u ∷ us, refl))
    (λ _. let i = below_front (place - u.size) us in (i.0, ap (λ (l : List Char). u ∷ l) i.1))

-- one turn of a backward scan: the character that covers the byte before a place is the last that starts below that place
module _ (lead : ℕ → Bool) (one : ℕ → ℕ) (two : ℕ → ℕ → ℕ) (C : ℕ) (text : List ℕ) (fits : Fit C (chars lead one two text))
    (at : ℕ) (past-start : 0 < at) (inside : at ≤ length text)
    (start : ℕ) (is : start ≡ covering lead text (at - 1)) (u : Char) (some : 1 ≤ u.size)
    (reads : chars lead one two (drop start text) ≡ u ∷ chars lead one two (drop (start + u.size) text)) where
  abbrev all : List Char
  all = chars lead one two text

  abbrev rest : List Char
  rest = chars lead one two (drop (start + u.size) text)

  here : Bound lead one two text start
  here = let b = covered lead one two text (at - 1) (omega arith) in (b.0, b.1, b.2, b.3 ∙ sym is)

  whole : all ≡ here.0 ++ u ∷ rest
  whole = here.2 ∙ ap (λ (g : List Char). here.0 ++ g) (sym (read_there lead one two text start here) ∙ reads)

  before : starting_below start all ≡ here.0
  before =
      ap (starting_below start) here.2 ∙ below_at C here.0 here.1 start (subst (Fit C) here.2 fits) (sym here.3)

  pub turn_start : span (reverse (starting_below start all)) ≡ start
  turn_start = span_reverse (starting_below start all) ∙ ap span before ∙ here.3

  pub turn_reads : reverse (starting_below at all) ≡ u ∷ reverse (starting_below start all)
  turn_reads =
      let reads-there = ap (λ (n : ℕ). chars lead one two (drop n text)) (sym is) ∙ reads in
      let c = covers lead one two text (at - 1) (omega arith) u rest some reads-there in
      let s = here.3 in
      let last : starting_below at all ≡ here.0 ++ u ∷ [] = ap (starting_below at) whole ∙ below_over here.0 u rest at (omega arith) (omega arith) in
      ap reverse last ∙ reverse-append here.0 (u ∷ []) ∙ ap (λ (f : List Char). u ∷ reverse f) (sym before)
