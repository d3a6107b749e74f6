-- Sets of states, as the bits of a number.
use Rattle.std.specs.Prelude.{◌≡◌, ℕ, ◌/◌, ◌%◌, ◌^◌}

-- k is in the set: bit k is 1
abbrev pub Has : ℕ → ℕ → Type 0
Has set k = set / 2 ^ k % 2 ≡ 1
