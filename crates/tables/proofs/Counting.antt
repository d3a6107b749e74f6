-- Two tests that agree count the same pairs.
use Rattle.std.proofs.Common.{◌≡◌, ℕ, zero, suc, ◌+◌, ◌<◌, Bool, cond, refl, ap, ◌∙◌, arith}
use Rattle.automata.specs.Sure.{count_row, count_pairs}

row_same : (p q : ℕ → Bool) (n : ℕ) → ((k : ℕ) → k < n → p k ≡ q k) → count_row p n ≡ count_row q n
unfolding count_row
row_same p q zero h = refl
row_same p q (suc n) h =
    ap (λ (t : Bool). cond t 1 0 + count_row p n) (h n (omega arith)) ∙ ap (λ (m : ℕ). cond (q n) 1 0 + m) (row_same p q n (λ k l. h k (omega arith)))

pub pairs_same : (p q : ℕ → ℕ → Bool) (C n : ℕ) → ((a b : ℕ) → a < n → b < C → p a b ≡ q a b) → count_pairs p C n ≡ count_pairs q C n
unfolding count_pairs
pairs_same p q C zero h = refl
pairs_same p q C (suc n) h =
    ap (λ (m : ℕ). m + count_pairs p C n) (row_same (p n) (q n) C (λ k l. h n k (omega arith) l))
    ∙ ap (λ (m : ℕ). count_row (q n) C + m) (pairs_same p q C n (λ a b l r. h a b (omega arith) r))
