-- Numbers of a table that lie within limits.
use Rattle.std.proofs.Common.{◌≡◌, ℕ, ◌+◌, ◌-◌, ◌<◌, ◌≤◌, true, false, List, ℤ, pos, negsuc, nat_abs, refl, ap, ◌∙◌, inl, inr, arith, w16, w32, SFits, to_z, of_z}
use lib.Signed.{non_neg, le_z}
use Rattle.std.proofs.lemmas.Bool.{and_parts, leb-true, false≢true, cond-true, cond-false, lt-ltb, le-ltb, le-leb, cases_lt, both_ways}
use Rattle.std.proofs.lemmas.Int.{ints, to_z-of_z}
use Rattle.tables.specs.Words.{signed8, within}
use Rattle.tables.specs.Layout.{size, fits}

pub within_low : (z : ℤ) (lo hi : ℕ) → within z lo hi ≡ true → lo ≤ nat_abs z
within_low (pos n) lo hi e = leb-true lo n (and_parts _ _ e).0
within_low (negsuc n) lo hi e = absurd (false≢true e)

pub within_high : (z : ℤ) (lo hi : ℕ) → within z lo hi ≡ true → nat_abs z ≤ hi
within_high (pos n) lo hi e = leb-true n hi (and_parts _ _ e).1
within_high (negsuc n) lo hi e = absurd (false≢true e)

pub within_whole : (z : ℤ) (lo hi : ℕ) → within z lo hi ≡ true → non_neg z ≡ true
within_whole (pos n) lo hi e = refl
within_whole (negsuc n) lo hi e = e

pub fits_inside : (b : List ℕ) (z : ℤ) (need : ℕ) → fits b z need ≡ true → nat_abs z + need ≤ size b
fits_inside b z need e = leb-true _ _ (and_parts (non_neg z) _ e).1

-- a byte of 128 or more is negative
pub byte_below : (x : ℕ) → 128 ≤ x → x < 256 → signed8 x ≡ negsuc (255 - x)
byte_below x lo hi = cond-false _ _ _ (le-ltb x 128 lo) ∙ omega (arith, ints)

pub byte_above : (x : ℕ) → x < 128 → signed8 x ≡ pos x
byte_above x hi = cond-true _ _ _ (lt-ltb x 128 hi)

pub byte_whole : (x : ℕ) → x < 256 → non_neg (signed8 x) ≡ true → x < 128
byte_whole x hi e =
    elim (cases_lt x 128) [
      | inl l ↦ l
      | inr g ↦ absurd (both_ways (non_neg (signed8 x)) (ap non_neg (byte_below x g hi)) e)
    ]

-- a negative byte x stands for -(256 - x)
pub byte_negative : (x : ℕ) → x < 256 → non_neg (signed8 x) ≡ false → (128 ≤ x) × (nat_abs (signed8 x) ≡ 256 - x)
byte_negative x hi e =
    elim (cases_lt x 128) [
      | inl l ↦ absurd (both_ways (non_neg (signed8 x)) e (ap non_neg (byte_above x l)))
      | inr g ↦ (g, ap nat_abs (byte_below x g hi) ∙ omega arith)
    ]

-- the test `z >= 0` of a word read back from its bits
pub ge0_whole : (z : ℤ) → SFits w16 z → le_z (pos 0) (to_z w16 (of_z w16 z)) ≡ non_neg z
ge0_whole (pos n) f = ap (le_z (pos 0)) (to_z-of_z w16 (pos n) f) ∙ le-leb 0 n (omega arith)
ge0_whole (negsuc n) f = ap (le_z (pos 0)) (to_z-of_z w16 (negsuc n) f)

-- a place that fits comes back from its bits
pub place_bits : (n : ℕ) → n < 2147483648 → to_z w32 n ≡ pos n
place_bits n h = omega (arith, ints)

-- whether a word is one number, as the code asks
pub exactly : (w z : ℤ) (m n : ℕ) → SFits w16 w → w ≡ z → m ≡ n → within (to_z w16 (of_z w16 w)) m m ≡ within z n n
exactly w z m n f e q = ap (λ (y : ℤ). within y m m) (to_z-of_z w16 w f ∙ e) ∙ ap (λ (k : ℕ). within z k k) q

-- a word without its sign, as the code reads it
pub absolute : (w z : ℤ) → SFits w16 w → w ≡ z → nat_abs (to_z w16 (of_z w16 w)) ≡ nat_abs z
absolute w z f e = ap nat_abs (to_z-of_z w16 w f ∙ e)
