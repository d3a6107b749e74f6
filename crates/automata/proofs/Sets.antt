-- What is in a set after one number more.
use Rattle.std.proofs.Common.{◌≡◌, ℕ, ◌*◌, ◌/◌, ◌%◌, ◌^◌, ◌<◌, ◌≤◌, ◌⊎◌, sym, ap, ◌∙◌, subst, inl, inr, arith}
use lib.Bits.{bit_or, or_add_and}
use mir.Syntax.{w64}
use Rattle.std.proofs.lemmas.Nat.{or_shr, or_mod, and_le_r}
use Rattle.std.proofs.lemmas.Nat.Bits.{bit_at_set_same, bit_at_set_other}
use Rattle.std.proofs.lemmas.Bool.{cases_eq}
use Rattle.automata.specs.Sets.{Has}

pub or_grows : (m x : ℕ) → m ≤ bit_or m x
or_grows m x = omega (arith, or_add_and m x, and_le_r m x)

pub bit_of_or : (m x k : ℕ) → bit_or m x / 2 ^ k % 2 ≡ bit_or (m / 2 ^ k % 2) (x / 2 ^ k % 2)
bit_of_or m x k = ap (λ (n : ℕ). n % 2) (or_shr m x k) ∙ or_mod (m / 2 ^ k) (x / 2 ^ k) 1

-- the set with t
abbrev pub with_one : ℕ → ℕ → ℕ
with_one m t = bit_or m (1 * 2 ^ t % 2 ^ 64)

pub with_all : (m t : ℕ) → t < 64
    → (m ≤ with_one m t) × Has (with_one m t) t × ((k : ℕ) → Has m k → Has (with_one m t) k) × ((k : ℕ) → Has (with_one m t) k → Has m k ⊎ (k ≡ t))
with_all m t lt = (
  or_grows m (1 * 2 ^ t % 2 ^ 64),
  bit_at_set_same w64 m t lt,
  λ k h. elim (cases_eq k t) [
    | inl e ↦ subst (Has (with_one m t)) (sym e) (bit_at_set_same w64 m t lt)
    | inr ne ↦ bit_at_set_other w64 m t lt k ne ∙ h
  ],
  λ k h. elim (cases_eq k t) [ inl e ↦ inr e | inr ne ↦ inl (sym (bit_at_set_other w64 m t lt k ne) ∙ h) ],
)
