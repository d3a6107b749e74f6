-- What a header that passes says.
use Rattle.std.proofs.Common.{◌≡◌, ℕ, ◌+◌, ◌≤◌, true, List, length, inl, inr, arith}
use Rattle.std.proofs.lemmas.Bool.{leb-true, or_cases, not-true, both_ways}
use Rattle.refusals.specs.declared.Direction.{Direction}
use Rattle.refusals.specs.declared.Direction.TheVariants.{Forward, Backward}
use Rattle.tables.specs.Words.{word}
use Rattle.tables.specs.Layout.{size, two_byte, class_table, auxiliary, state_table}
use Rattle.tables.specs.Checks.{Passes, header_checks}
use Rattle.tables.proofs.Passing.{all_pass}
use Rattle.tables.proofs.Numbers.{within_low, within_high, fits_inside}

pub record Head (b : List ℕ) : Type 0 where
  pub long : 272 ≤ length b
  pub size_low : 272 ≤ size b
  pub size_high : size b ≤ length b
  pub class_table_in : class_table b + 256 ≤ size b
  pub forward_in : state_table b Forward + 6 ≤ size b
  pub backward_in : state_table b Backward + 6 ≤ size b
  pub auxiliary_in : two_byte b ≡ true → auxiliary b + 2 ≤ size b

pub head : (b : List ℕ) → Passes (header_checks b) → Head b
head b p =
    let a = all_pass (header_checks b) p in
    record {
      long = leb-true 272 (length b) a.0;
      size_low = within_low (word b 14) 272 (length b) a.1.0;
      size_high = within_high (word b 14) 272 (length b) a.1.0;
      class_table_in = fits_inside b (word b 4) 256 a.1.1.1.0;
      forward_in = fits_inside b (word b 10) 6 a.1.1.1.1.0;
      backward_in = fits_inside b (word b 8) 6 a.1.1.1.1.1.0;
      auxiliary_in = λ t. elim (or_cases _ _ a.1.1.1.1.1.1.0) [
        | inl n ↦ absurd (both_ways _ (not-true _ n) t)
        | inr f ↦ fits_inside b (word b 6) 2 f
      ];
    }

pub state_table_in : (b : List ℕ) (d : Direction) → Head b → state_table b d + 6 ≤ size b
state_table_in b Forward h = h.forward_in
state_table_in b Backward h = h.backward_in

-- a state table's list has its first three words
pub state_part_room : (b : List ℕ) (d : Direction) → Passes (header_checks b) → state_table b d + 6 ≤ length b
state_part_room b d p =
    let h = head b p in
    let inside = state_table_in b d h in
    let whole = h.size_high in
    omega arith
