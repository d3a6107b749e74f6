-- The line rule keeps the bounds, and its walls the law.
use Rattle.std.specs.Prelude.{◌≡◌, ℕ, suc, ◌-◌, ◌≤◌, true, cond, List, [], ◌∷◌, ◌++◌, length, ◌==◌, nat_eq, slice_index}
use Rattle.std.proofs.Common.{sym, ap, ◌∙◌, arith}
use Rattle.std.proofs.lemmas.Bool.{cond_both, cond-true}
use Rattle.rules.specs.Cutting.{Bounded, Joined, last}
use Rattle.rules.specs.Lines.{line_run, line_parts}
use Rattle.rules.specs.Cuts.{last_drop, joined_by}

line_some : (xs : List ℕ) → 1 ≤ length xs → 1 ≤ line_run xs
line_some [] h = absurd (omega arith)
line_some (x ∷ xs) h = cond_both (x == 13) 1 (suc (line_run xs)) (λ v. 1 ≤ v) (λ _. omega arith) (λ _. omega arith)

line_within : (xs : List ℕ) → line_run xs ≤ length xs
line_within [] = omega arith
line_within (x ∷ xs) =
    let i = line_within xs in
    cond_both (x == 13) 1 (suc (line_run xs)) (λ v. v ≤ suc (length xs)) (λ _. omega arith) (λ _. omega arith)

pub line_bounded : Bounded line_run
line_bounded = record { some = line_some; within = λ xs _. line_within xs }

last_more : (x y : ℕ) (ys : List ℕ) → last (x ∷ y ∷ ys) ≡ last (y ∷ ys)
last_more x y ys =
    let i : suc (suc (length ys)) - 1 ≡ suc (suc (length ys) - 1) = omega arith in ap (λ j. slice_index (x ∷ y ∷ ys) j) i

-- a text that ends in a byte 13 has the same first line whatever follows
line_same : (after xs : List ℕ) → 1 ≤ length xs → (last xs == 13) ≡ true → line_run (xs ++ after) ≡ line_run xs
line_same after [] h p = absurd (omega arith)
line_same after (x ∷ []) h p = cond-true _ 1 _ p ∙ sym (cond-true _ 1 _ p)
line_same after (x ∷ y ∷ ys) h p =
    ap (λ v. cond (x == 13) 1 (suc v)) (line_same after (y ∷ ys) (omega arith) (ap (λ v. nat_eq v 13) (sym (last_more x y ys)) ∙ p))

pub line_joins : (before after : List ℕ) → line_parts before after ≡ true → Joined line_run before after
line_joins before after p =
    joined_by line_run line_bounded (λ xs. (last xs == 13) ≡ true) after (line_same after)
    (λ xs _ q l. ap (λ v. nat_eq v 13) (last_drop (line_run xs) xs l) ∙ q) (length before) before (omega arith) (λ _. p)
