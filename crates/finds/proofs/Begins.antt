-- Find does not begin past its place.
use Rattle.std.proofs.Common.{◌≡◌, ℕ, zero, suc, ◌+◌, ◌-◌, ◌<◌, ◌≤◌, ltb, ◌⊎◌, List, [], ◌∷◌, ◌++◌, reverse, drop, Some, None, Option, refl, ap, ◌∙◌, inl, inr, ⊎_elim, arith}
use mathlib.Core.List.{reverse-append}
use Rattle.std.proofs.lemmas.Bool.{cond_both, cond-false, ne_eqb, cases_lt}
use Rattle.refusals.specs.declared.Direction.TheVariants.{Backward}
use Rattle.automata.specs.Machine.{Ending, runs_out, exits_by, scanned}
use Rattle.tables.specs.Layout.{machine, backup}
use Rattle.breaks.specs.Chars.{Char, span, row_of}
use Rattle.breaks.specs.Meaning.{characters}
use Rattle.finds.specs.Finds.{starting_below, backward_from, mark_place, leads_to, scan_leads, begin}
use Rattle.finds.proofs.Fronts.{below_none, span_reverse}

-- the last of some characters, if there is one, starts below a place
abbrev LastBelow : ℕ → List Char → Type 0
LastBelow place us = (us ≡ []) ⊎ ((f : List Char) × (u : Char) × (us ≡ f ++ u ∷ []) × (span f < place))

last_below : (place : ℕ) (us : List Char) → 0 < place → LastBelow place (starting_below place us)
last_below place [] h = inl refl
last_below place (u ∷ us) h =
    let more : starting_below place (u ∷ us) ≡ u ∷ starting_below (place - u.size) us = cond-false _ _ _ (ne_eqb place 0 (λ e. omega arith)) in
    ⊎_elim
    (λ (on : 0 < place - u.size).
    ⊎_elim
    (λ (none : starting_below (place - u.size) us ≡ []). inr ([], u, more ∙ ap (λ l. u ∷ l) none, omega arith))
    (λ (r : (f : List Char) × (v : Char) × (starting_below (place - u.size) us ≡ f ++ v ∷ []) × (span f < place - u.size)).
    inr (u ∷ r.0, r.1, more ∙ ap (λ l. u ∷ l) r.2, omega (arith, r.3)))
    (last_below (place - u.size) us on))
    (λ (end : place - u.size ≤ 0).
    let z : place - u.size ≡ 0 = omega arith in
    inr ([], u, more ∙ ap (λ l. u ∷ l) (ap (λ n. starting_below n us) z ∙ below_none us), omega arith))
    (cases_lt 0 (place - u.size))

span_drop : (i : ℕ) (us : List Char) → span (drop i us) ≤ span us
span_drop zero us = omega arith
span_drop (suc i) [] = omega arith
span_drop (suc i) (u ∷ us) = omega (arith, span_drop i us)

mark_low : (place : ℕ) (l : List Char) → LastBelow (place + 1) l → (m : Option ℕ) → mark_place (reverse l) m ≤ place
mark_low place l last None = omega arith
mark_low place l last (Some i) =
    let e : i + 1 ≡ suc i = omega arith in
    ⊎_elim
    (λ (none : l ≡ []).
    let z = ap (λ (us : List Char). span (drop (i + 1) (reverse us))) none ∙ ap (λ n. span (drop n [])) e in
    omega (arith, z))
    (λ (r : (f : List Char) × (u : Char) × (l ≡ f ++ u ∷ []) × (span f < place + 1)).
    let back : reverse l ≡ r.1 ∷ reverse r.0 = ap reverse r.2 ∙ reverse-append r.0 (r.1 ∷ []) in
    let there = ap (λ (us : List Char). span (drop (i + 1) us)) back ∙ ap (λ n. span (drop n (r.1 ∷ reverse r.0))) e in
    omega (arith, there, span_drop i (reverse r.0), span_reverse r.0, r.3))
    last

ending_low : (place : ℕ) (l : List Char) → LastBelow (place + 1) l → (e : Ending) → leads_to (reverse l) e ≤ place
ending_low place l last runs_out = omega arith
ending_low place l last (exits_by s c m) = mark_low place l last m

pub begin_low : (b text : List ℕ) (place : ℕ) → begin b text place ≤ place
begin_low b text place =
    cond_both (ltb place (backup b)) 0 (scan_leads b (backward_from b text place)) (λ n. n ≤ place) (λ _. omega arith)
    (λ _. ending_low place (starting_below (place + 1) (characters b text)) (last_below (place + 1) (characters b text) (omega arith)) (scanned (machine b Backward) (row_of (backward_from b text place))))
