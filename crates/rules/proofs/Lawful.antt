-- Answers about a place, and walls at it.
use Rattle.std.proofs.Common.{◌≡◌, ℕ, zero, suc, ◌<◌, ◌≤◌, Bool, true, List, ◌++◌, length, take, drop, Ok, sym, ap, ◌∙◌, ⊎_elim, arith}
use Rattle.std.proofs.lemmas.Bool.{cond-true, cond-false, lt-ltb, le-ltb, ne_eqb, cases_lt}
use Rattle.rules.specs.Cutting.{cutting, Bounded, Joined}
use Rattle.rules.specs.Answers.{about_place, wall_at}
use Rattle.rules.specs.Cuts.{cutting_none}

module _ {V : Type 0} (text : List ℕ) (place : ℕ) (v : V) (short : length text ≤ 16383) (inside : place < length text) where
  -- the answer is the value
  pub answered : Ok v ≡ about_place text place v
  answered = sym (cond-false _ _ _ (le-ltb 16383 (length text) short) ∙ cond-true _ _ _ (lt-ltb place (length text) inside))

  pub answers : (r : V) → r ≡ v → Ok r ≡ about_place text place v
  answers r e = ap (λ x. Ok x) e ∙ answered

  -- and an answer is that value
  pub was_answered : (r : V) → Ok r ≡ about_place text place v → r ≡ v
  was_answered r e = let a = e ∙ sym answered in cc

-- past the text's start a wall is what `parts` says
pub wall_past : (parts : List ℕ → List ℕ → Bool) (text : List ℕ) (place : ℕ) → 1 ≤ place → wall_at parts text place ≡ parts (take place text) (drop place text)
wall_past parts text place h = cond-false _ _ _ (ne_eqb place 0 (λ e. omega arith))

-- at a wall the text is cut apart
pub wall_joined : (run : List ℕ → ℕ) → Bounded run → (parts : List ℕ → List ℕ → Bool)
    → ((before after : List ℕ) → parts before after ≡ true → Joined run before after)
    → (text : List ℕ) (place : ℕ) → wall_at parts text place ≡ true → Joined run (take place text) (drop place text)
wall_joined run b parts joins text zero w = sym (ap (λ l. l ++ cutting run text) (cutting_none run b))
wall_joined run b parts joins text (suc n) w = joins _ _ (sym (wall_past parts text (suc n) (omega arith)) ∙ w)

-- what an answer says of the text and the place
pub accepted : {V : Type 0} (text : List ℕ) (place : ℕ) (v r : V) → Ok r ≡ about_place text place v → (length text ≤ 16383) × (place < length text) × (r ≡ v)
accepted text place v r e =
    ⊎_elim
    (λ (long : 16383 < length text). let bad = e ∙ cond-true _ _ _ (lt-ltb 16383 (length text) long) in let z : ◌≡◌ {A = ℕ} 0 1 = cc in absurd (omega arith))
    (λ (short : length text ≤ 16383).
    let here = e ∙ cond-false _ _ _ (le-ltb 16383 (length text) short) in
    ⊎_elim
    (λ (inside : place < length text). (short, inside, was_answered text place v short inside r e))
    (λ (outside : length text ≤ place). let bad = here ∙ cond-false _ _ _ (le-ltb place (length text) outside) in let z : ◌≡◌ {A = ℕ} 0 1 = cc in absurd (omega arith))
    (cases_lt place (length text)))
    (cases_lt 16383 (length text))
