-- Bits counted: those of a word, and those of rows whose bits lie below a bound.
use Rattle.std.proofs.Common.{◌≡◌, ℕ, zero, suc, ◌+◌, ◌/◌, ◌%◌, ◌^◌, ◌<◌, ◌≤◌, Bool, false, cond, eqb, List, length, get_or, take, sym, refl, ap, ◌∙◌, inl, inr, add-one, one-add, arith}
use Rattle.std.specs.List.{sum_by}
use Rattle.std.proofs.lemmas.List.{take_all}
use Rattle.std.proofs.lemmas.List.Sums.{sum_by_more}
use lib.Count.{ones, ones_step, ones_cat, ones-le}
use Rattle.std.proofs.lemmas.Nat.{mod_below, pow_pos, shr_below, div-add-mod'}
use Rattle.std.proofs.lemmas.Nat.Bits.{bit_at_cat_low}
use Rattle.std.proofs.lemmas.Bool.{cond-true, cond-false, cases_eq, cases_lt, eq-eqb, ne_eqb}
use Rattle.automata.specs.Sure.{holds, count_row, count_pairs}
use Rattle.automata.proofs.Digits.{set_in}

bit_mod : (n k j : ℕ) → j < k → n % 2 ^ k / 2 ^ j % 2 ≡ n / 2 ^ j % 2
bit_mod n k j h = sym (bit_at_cat_low (n / 2 ^ k) k (n % 2 ^ k) j h) ∙ ap (λ (z : ℕ). z / 2 ^ j % 2) (div-add-mod' n (2 ^ k))

count_mod : (k n m : ℕ) → k ≤ m → count_row (set_in (n % 2 ^ m)) k ≡ count_row (set_in n) k
unfolding count_row
count_mod zero n m h = refl
count_mod (suc k) n m h =
    let a : ◌≡◌ {A = ℕ} (cond (set_in (n % 2 ^ m) k) 1 0) (cond (set_in n k) 1 0) = ap (λ (z : ℕ). cond (eqb z 1) 1 0) (bit_mod n m k h) in
    let b = count_mod k n m (omega arith) in
    omega arith

-- a number below 2 is its one bit
one_bit : (q : ℕ) → q < 2 → ones q ≡ q % 2
one_bit q h = let z : ones (q / 2) ≤ 0 = ones-le 0 (q / 2) (omega arith) in omega (arith, ones_step q)

bit_number : (x : ℕ) → x < 2 → cond (eqb x 1) 1 0 ≡ x
bit_number x h =
    elim (cases_eq x 1) [
      | inl e ↦ cond-true (eqb x 1) 1 0 (eq-eqb x 1 e) ∙ sym e
      | inr ne ↦ let z : 0 ≡ x = omega arith in cond-false (eqb x 1) 1 0 (ne_eqb x 1 ne) ∙ z
    ]

-- the bits of a word that are set, one by one
pub ones_row : (k n : ℕ) → n < 2 ^ k → ones n ≡ count_row (set_in n) k
unfolding count_row
ones_row zero n h = let z = ones-le 0 n h in omega arith
ones_row (suc k) n h =
    let q : n / 2 ^ k < 2 = shr_below n 1 k (rw one-add h) in
    let r : n % 2 ^ k < 2 ^ k = mod_below n (2 ^ k) (pow_pos k) in
    let s : ones n ≡ ones (n / 2 ^ k) + ones (n % 2 ^ k) = ap ones (sym (div-add-mod' n (2 ^ k))) ∙ ones_cat k (n / 2 ^ k) (n % 2 ^ k) r in
    let t = one_bit (n / 2 ^ k) q in
    let b = bit_number (n / 2 ^ k % 2) (omega arith) in
    let u = ones_row k (n % 2 ^ k) r in
    let v = count_mod k n k (omega arith) in
    omega arith

-- the bits of rows, row by row
pub rows_counted : (rows : List ℕ) → length rows ≡ 128 → ((i : ℕ) → i < length rows → get_or rows i 0 < 2 ^ 128) → sum_by ones rows ≡ count_pairs (holds rows) 128 128
unfolding count_pairs
rows_counted rows long fits = ap (sum_by ones) (sym (take_all 128 rows (omega (arith, long)))) ∙ to 128 (omega (arith, long))
  where
    to : (n : ℕ) → n ≤ length rows → sum_by ones (take n rows) ≡ count_pairs (holds rows) 128 n
    to zero le = refl
    to (suc n) le =
        let more : sum_by ones (take (suc n) rows) ≡ sum_by ones (take n rows) + ones (get_or rows n 0) = rw (← add-one) (sum_by_more ones rows n 0 le) in
        let one = ones_row 128 (get_or rows n 0) (fits n le) in
        let rest = to n (omega arith) in
        omega arith

-- numbers that pass a test only below C
row_within : (q : ℕ → Bool) (C n : ℕ) → C ≤ n → ((b : ℕ) → C ≤ b → q b ≡ false) → count_row q n ≡ count_row q C
unfolding count_row
row_within q C zero h f = let e : 0 ≡ C = omega arith in ap (count_row q) e
row_within q C (suc n) h f =
    elim (cases_lt n C) [
      | inl l ↦ let e : suc n ≡ C = omega arith in ap (count_row q) e
      | inr g ↦
          let z : ◌≡◌ {A = ℕ} (cond (q n) 1 0) 0 = cond-false (q n) 1 0 (f n g) in
          let r = row_within q C n g f in
          omega arith
    ]

row_none : (q : ℕ → Bool) (n : ℕ) → ((b : ℕ) → q b ≡ false) → count_row q n ≡ 0
unfolding count_row
row_none q n f = row_within q 0 n (omega arith) (λ b _. f b)

second_within : (p : ℕ → ℕ → Bool) (C m n : ℕ) → C ≤ m → ((a b : ℕ) → C ≤ b → p a b ≡ false) → count_pairs p m n ≡ count_pairs p C n
unfolding count_pairs
second_within p C m zero h f = refl
second_within p C m (suc n) h f =
    let r = row_within (p n) C m h (f n) in
    let s = second_within p C m n h f in
    omega arith

first_within : (p : ℕ → ℕ → Bool) (C n : ℕ) → C ≤ n → ((a b : ℕ) → C ≤ a → p a b ≡ false) → count_pairs p C n ≡ count_pairs p C C
unfolding count_pairs
first_within p C zero h f = let e : 0 ≡ C = omega arith in ap (count_pairs p C) e
first_within p C (suc n) h f =
    elim (cases_lt n C) [
      | inl l ↦ let e : suc n ≡ C = omega arith in ap (count_pairs p C) e
      | inr g ↦
          let z = row_none (p n) C (λ b. f n b g) in
          let r = first_within p C n g f in
          omega arith
    ]

-- the pairs below n are those below C, where no other passes the test
pub pairs_within : (p : ℕ → ℕ → Bool) (C n : ℕ) → C ≤ n
    → ((a b : ℕ) → C ≤ a → p a b ≡ false) → ((a b : ℕ) → C ≤ b → p a b ≡ false)
    → count_pairs p n n ≡ count_pairs p C C
pairs_within p C n h f g = second_within p C n n h g ∙ first_within p C n h f
