-- Rows of bits, filled bit by bit and row by row.
use Rattle.std.proofs.Common.{◌≡◌, ℕ, ◌+◌, ◌*◌, ◌/◌, ◌%◌, ◌^◌, ◌<◌, ◌≤◌, Bool, false, eqb, List, length, get_or, set, Decides, sym, ap, ◌∙◌, subst, inl, inr, arith, below_more}
use lib.Bits.{bit_or}
use mir.Syntax.{w128}
use Rattle.std.proofs.lemmas.Nat.Bits.{bit_at-zero, bit_at_above, bit_at_set_same, bit_at_set_other}
use Rattle.std.proofs.lemmas.List.{get_or-set_same, get_or-set_other, get_or_past}
use Rattle.std.proofs.lemmas.Bool.{cases_lt, eq-eqb, ne_eqb, eqb-true}
use Rattle.automata.specs.Sure.{holds}

-- bit b of a word is set
abbrev pub set_in : ℕ → ℕ → Bool
set_in n b = eqb (n / 2 ^ b % 2) 1

pub unset : (n b : ℕ) → n / 2 ^ b % 2 ≡ 0 → set_in n b ≡ false
unset n b z = ne_eqb _ 1 (omega arith)

pub unset_zero : (b : ℕ) → set_in 0 b ≡ false
unset_zero b = unset 0 b (bit_at-zero b)

-- a word has no bit beyond its width
pub unset_past : (n k b : ℕ) → n < 2 ^ k → k ≤ b → set_in n b ≡ false
unset_past n k b h le = unset n b (bit_at_above n k b h le)

-- a row of bits, right below b and empty from there on
abbrev pub Filled : (ℕ → Type 0) → ℕ → ℕ → Type 0
Filled Q row b = ((j : ℕ) → j < b → Decides (set_in row j) (Q j)) × ((j : ℕ) → b ≤ j → row / 2 ^ j % 2 ≡ 0)

pub fill_with : (Q : ℕ → Type 0) (row b : ℕ) → b < 128 → Filled Q row b → Q b → Filled Q (bit_or row (1 * 2 ^ b % 2 ^ 128)) (b + 1)
fill_with Q row b lt f q = (
  below_more _ b
      (λ j h. subst (λ (n : ℕ). Decides (eqb n 1) (Q j)) (sym (bit_at_set_other w128 row b lt j (omega arith))) (f.0 j h))
      (λ _. q, λ _. eq-eqb _ _ (bit_at_set_same w128 row b lt)),
  λ j le. bit_at_set_other w128 row b lt j (omega arith) ∙ f.1 j (omega arith),
)

pub fill_without : (Q : ℕ → Type 0) (row b : ℕ) → Filled Q row b → (Q b → ⊥) → Filled Q row (b + 1)
fill_without Q row b f q = (
  below_more _ b f.0 (λ e. let one = eqb-true _ _ e in let nil = f.1 b (omega arith) in absurd (omega arith), λ y. absurd (q y)),
  λ j le. f.1 j (omega arith),
)

-- a row of bits is right for number a below C, and empty for any other
abbrev pub HasRow : (ℕ → ℕ → Type 0) → ℕ → ℕ → ℕ → Type 0
HasRow Q C a row = (a < C → (b : ℕ) → b < C → Decides (set_in row b) (Q a b)) × ((b : ℕ) → C ≤ b → row / 2 ^ b % 2 ≡ 0) × (C ≤ a → row ≡ 0)

-- what holds of the rows below i, and of a row that is written at i
pub each_set : (P : ℕ → ℕ → Type 0) (rows : List ℕ) (i v : ℕ) → i < length rows → ((a : ℕ) → a < i → P a (get_or rows a 0)) → P i v
    → (a : ℕ) → a < i + 1 → P a (get_or (set rows i v) a 0)
each_set P rows i v h all one =
    below_more _ i
    (λ a lt. subst (P a) (sym (get_or-set_other rows i a v 0 (omega arith))) (all a lt))
    (subst (P i) (sym (get_or-set_same rows i v 0 h)) one)

-- rows of bits are right below C, and empty from there on
abbrev pub FilledRows : (ℕ → ℕ → Type 0) → ℕ → List ℕ → Type 0
FilledRows Q C rows =
    ((a b : ℕ) → a < C → b < C → Decides (holds rows a b) (Q a b))
    × ((a b : ℕ) → C ≤ a → holds rows a b ≡ false) × ((a b : ℕ) → C ≤ b → holds rows a b ≡ false)

pub rows_filled : (Q : ℕ → ℕ → Type 0) (C : ℕ) (rows : List ℕ) → C ≤ 128 → length rows ≡ 128 → ((a : ℕ) → a < 128 → HasRow Q C a (get_or rows a 0)) → FilledRows Q C rows
rows_filled Q C rows few long each = (
  λ a b ha hb. (each a (omega arith)).0 ha b hb,
  λ a b le. elim (cases_lt a 128) [
    | inl l ↦ ap (λ (n : ℕ). set_in n b) ((each a l).2 le) ∙ unset_zero b
    | inr g ↦ past a b g
  ],
  λ a b le. elim (cases_lt a 128) [ inl l ↦ unset _ b ((each a l).1 b le) | inr g ↦ past a b g ],
)
  where
    past : (a b : ℕ) → 128 ≤ a → holds rows a b ≡ false
    past a b g = ap (λ (n : ℕ). set_in n b) (get_or_past {X = ℕ} rows a 0 (omega (arith, long))) ∙ unset_zero b
