-- Lists of states and tests of them.
use Rattle.std.proofs.Common.{◌≡◌, ℕ, Bool, true, false, ◌&&◌, ◌||◌, T, eqb, List, [], ◌∷◌, sym, refl, subst, inl, inr}
use Rattle.std.proofs.lemmas.Bool.{and_parts, or_cases, eqb-true, false≢true}

pub T_true : (b : Bool) → T b → b ≡ true
T_true true t = refl
T_true false t = absurd t

pub true_T : (b : Bool) → b ≡ true → T b
true_T b e = subst T (sym e) tt

-- a state is one of a list
abbrev pub among : ℕ → List ℕ → Bool
among s [] = false
among s (x ∷ xs) = eqb s x || among s xs

-- each state of a list passes a test
abbrev pub each_passes : (ℕ → Bool) → List ℕ → Bool
each_passes p [] = true
each_passes p (x ∷ xs) = p x && each_passes p xs

pub passes_among : (p : ℕ → Bool) (xs : List ℕ) (s : ℕ) → each_passes p xs ≡ true → among s xs ≡ true → p s ≡ true
passes_among p [] s e m = absurd (false≢true m)
passes_among p (x ∷ xs) s e m =
    let t = and_parts (p x) (each_passes p xs) e in
    elim (or_cases (eqb s x) (among s xs) m) [
      | inl q ↦ subst (λ (n : ℕ). p n ≡ true) (sym (eqb-true s x q)) t.0
      | inr o ↦ passes_among p xs s t.1 o
    ]
