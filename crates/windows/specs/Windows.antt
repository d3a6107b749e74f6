-- What a change of one byte upsets. The text before is xs, the text after is ys, of the same length.
use Rattle.std.specs.Prelude.{◌≡◌, ℕ, zero, suc, ◌+◌, ◌-◌, ◌<◌, ◌≤◌, Bool, true, false, cond, ◌&&◌, List, length, slice_set, ℤ, pos, ◌+ℤ◌, ◌-ℤ◌}
use Rattle.rules.specs.Cutting.{cutting}
use Rattle.rules.specs.Answers.{wall_at}
use Rattle.rules.specs.Runs.{RunAt}
use Rattle.windows.specs.declared.edit.Edit.{Edit}

-- a text with an edit made
abbrev pub edited : Edit → List ℕ → List ℕ
edited edit text = slice_set text edit.place edit.byte

-- how many runs a text has
abbrev pub runs : (List ℕ → ℕ) → List ℕ → ℕ
runs run xs = length (cutting run xs)

-- the difference in runs: the new text's less the old text's
abbrev pub gained : (List ℕ → ℕ) → List ℕ → List ℕ → ℤ
gained run xs ys = pos (runs run ys) -ℤ pos (runs run xs)

-- a wall of both texts stands at a place
abbrev pub both_walls : (List ℕ → List ℕ → Bool) → List ℕ → List ℕ → ℕ → Bool
both_walls parts xs ys q = wall_at parts xs q && wall_at parts ys q

-- the greatest place up to p that passes a test; 0 where none does
unfoldable pub greatest : (ℕ → Bool) → ℕ → ℕ
greatest test zero = 0
greatest test (suc p) = cond (test (suc p)) (suc p) (greatest test p)

-- the least of n places from p on that passes a test; the place after them where none does
unfoldable pub least : (ℕ → Bool) → ℕ → ℕ → ℕ
least test zero p = p
least test (suc n) p = cond (test p) p (least test n (suc p))

-- the window of a change at place p: the greatest place not above p, and the least place above it, that is a wall of both
-- texts; the texts' end counts for the second
abbrev pub window_begin : (List ℕ → List ℕ → Bool) → List ℕ → List ℕ → ℕ → ℕ
window_begin parts xs ys p = greatest (both_walls parts xs ys) p

abbrev pub window_end : (List ℕ → List ℕ → Bool) → List ℕ → List ℕ → ℕ → ℕ
window_end parts xs ys p = least (both_walls parts xs ys) (length xs - (p + 1)) (p + 1)

-- the same without a search: both ends are walls of both texts, or the second is the texts' end, and no wall of both lies
-- between
pub record IsWindow (parts : List ℕ → List ℕ → Bool) (xs ys : List ℕ) (p from to : ℕ) : Type 0 where
  pub low : from ≤ p
  pub high : p < to
  pub within : to ≤ length xs
  pub from_wall : both_walls parts xs ys from ≡ true
  pub to_wall : to < length xs → both_walls parts xs ys to ≡ true
  pub none_between : (q : ℕ) → from < q → q < to → both_walls parts xs ys q ≡ false

-- outside a window two cuttings are the same: runs that end at or before it in number, start and end, and runs that start
-- at or after it in start and end, with numbers moved by the difference
pub record SameOutside (old new : List ℕ) (from to : ℕ) (difference : ℤ) : Type 0 where
  pub before : (n start end : ℕ) → end ≤ from → RunAt old n start end → RunAt new n start end
  pub before_back : (n start end : ℕ) → end ≤ from → RunAt new n start end → RunAt old n start end
  pub after : (n start end : ℕ) → to ≤ start → RunAt old n start end → (m : ℕ) × (pos m ≡ pos n +ℤ difference) × RunAt new m start end
  pub after_back : (m start end : ℕ) → to ≤ start → RunAt new m start end → (n : ℕ) × (pos m ≡ pos n +ℤ difference) × RunAt old n start end
