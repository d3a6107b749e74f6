-- A part of a table's bytes, as the code cuts it out: n bytes from a place on.
use Rattle.std.proofs.Common.{◌≡◌, ℕ, ◌+◌, ◌-◌, ◌≤◌, List, length, take, drop, ap, ◌∙◌, arith, length-drop}
use Rattle.std.proofs.lemmas.List.{length-take-le}

module _ (b : List ℕ) (at n : ℕ) (h : at + n ≤ length b) where
  pub part_size : length (take (at + n - at) (drop at b)) ≡ n
  part_size = let l = length-drop at b in length-take-le (at + n - at) (drop at b) (omega arith) ∙ omega arith

  pub part_is : take (at + n - at) (drop at b) ≡ take n (drop at b)
  part_is = let e : at + n - at ≡ n = omega arith in ap (λ (m : ℕ). take m (drop at b)) e
