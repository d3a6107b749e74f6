-- The backward scan over characters: where it leads, told by byte places.
use Rattle.std.proofs.Common.{◌≡◌, ℕ, ◌+◌, true, false, cond, List, [], ◌∷◌, drop, Some, None, Option, sym, refl, ap, ◌∙◌, inl, inr}
use Rattle.std.proofs.lemmas.List.{drop-drop}
use Rattle.std.proofs.lemmas.Bool.{cond-true, cond-false, cases_Bool, eq-eqb, ne_eqb}
use Rattle.automata.specs.Machine.{next, exits, marks, marked, Ending, scan, scanned}
use Rattle.breaks.specs.Chars.{Char, span, row_of}
use Rattle.breaks.specs.ScanLaws.{mark_at}
use Rattle.finds.specs.Finds.{mark_place, leads_to}

-- where a scan leads that is in state s, with its mark at byte place m and these characters to read
abbrev pub go_back : (ℕ → ℕ → ℕ) → ℕ → ℕ → List Char → ℕ
go_back code s m [] = 0
go_back code s m (u ∷ us) =
    cond (exits (code s u.class)) (mark_at (code s u.class) (span us) m)
    (go_back code (next (code s u.class)) (mark_at (code s u.class) (span us) m) us)

module _ (code : ℕ → ℕ → ℕ) where
  -- one turn: the code of the next character exits, or goes on
  module _ (s start m x : ℕ) (us : List Char) (u : Char) (vs : List Char) (is : us ≡ u ∷ vs) (starts : span vs ≡ start) (is_code : x ≡ code s u.class) where
    pub back_exits : next x ≡ 0 → go_back code s m us ≡ mark_at x start m
    back_exits z =
        ap (go_back code s m) is ∙ cond-true _ _ _ (eq-eqb _ 0 (ap next (sym is_code) ∙ z))
        ∙ ap (λ (y : ℕ). mark_at y (span vs) m) (sym is_code) ∙ ap (λ (p : ℕ). mark_at x p m) starts

    pub back_on : (next x ≡ 0 → ⊥) → go_back code s m us ≡ go_back code (next x) (mark_at x start m) vs
    back_on z =
        ap (go_back code s m) is ∙ cond-false _ _ _ (ne_eqb _ 0 (λ e. z (ap next is_code ∙ e)))
        ∙ ap (λ (y : ℕ). go_back code (next y) (mark_at y (span vs) m) vs) (sym is_code) ∙ ap (λ (p : ℕ). go_back code (next x) (mark_at x p m) vs) starts

  -- the scan of classes leads to the same place
  module _ (back : List Char) where
    place_mark : (x i at m : ℕ) (k : Option ℕ) → span (drop (i + 1) back) ≡ at → mark_place back k ≡ m → mark_place back (marked x i k) ≡ mark_at x at m
    place_mark x i at m k e f = elim (marks x) as (λ b. mark_place back (cond b (Some i) k) ≡ cond b at m) [ true ↦ e | false ↦ f ]

    go_scan : (s i m : ℕ) (k : Option ℕ) (us : List Char) → drop i back ≡ us → mark_place back k ≡ m → leads_to back (scan code s i k (row_of us)) ≡ go_back code s m us
    go_scan s i m k [] h f = refl
    go_scan s i m k (u ∷ us) h f =
        let rest : drop (i + 1) back ≡ us = sym (drop-drop 1 i back) ∙ ap (drop 1) h in
        let mark = place_mark (code s u.class) i (span us) m k (ap span rest) f in
        let on = go_scan (next (code s u.class)) (i + 1) (mark_at (code s u.class) (span us) m) (marked (code s u.class) i k) us rest mark in
        elim (cases_Bool (exits (code s u.class))) [
          | inl z ↦ ap (λ (r : Ending). leads_to back r) (cond-true _ _ _ z) ∙ mark ∙ sym (cond-true _ _ _ z)
          | inr z ↦ ap (λ (r : Ending). leads_to back r) (cond-false _ _ _ z) ∙ on ∙ sym (cond-false _ _ _ z)
        ]

    pub back_scan : go_back code 1 0 back ≡ leads_to back (scanned code (row_of back))
    back_scan = sym (go_scan 1 0 0 None back refl refl)
