-- What the lists and the codes of a table that passes its checks say.
use Rattle.std.proofs.Common.{◌≡◌, ℕ, ◌+◌, ◌<◌, ◌≤◌, true, List, ◌++◌, length, get_or, drop, sym, ap, ◌∙◌, subst, arith}
use Rattle.std.proofs.lemmas.List.{get_or-take, get_or-drop}
use Rattle.std.proofs.lemmas.Bool.{leb-true, ltb-true, and_parts}
use Rattle.refusals.specs.declared.Direction.{Direction}
use Rattle.refusals.specs.declared.Direction.TheVariants.{Forward, Backward}
use Rattle.refusals.specs.declared.Refusal.TheVariants.{CodeWrong, ClassWrong}
use Rattle.automata.specs.Machine.{next}
use Rattle.tables.specs.Layout.{size, class_table, list_word, states, classes, codes, code_place, code_count}
use Rattle.tables.specs.Classes.{entry, entry_sound}
use Rattle.tables.specs.Checks.{Check, Passes, checks, header_checks, list_checks, class_checks, code_checks, code_sound}
use Rattle.tables.proofs.Numbers.{within_low, within_high}
use Rattle.tables.proofs.Passing.{all_pass, left_passes, right_passes, passes_each}

pub record Listed (b : List ℕ) (d : Direction) : Type 0 where
  pub low : 3 ≤ states b d
  pub high : states b d ≤ 64
  pub rows_in : code_place b d (code_count b d) ≤ size b

pub listed : (b : List ℕ) (d : Direction) → Passes (list_checks b d) → Listed b d
listed b d p =
    let a = all_pass (list_checks b d) p in
    let one = (and_parts _ _ a.1.0).0 in
    let lo = within_low (list_word b d 1) 6 128 one in
    let hi = within_high (list_word b d 1) 6 128 one in
    record { low = omega arith; high = omega arith; rows_in = leb-true _ _ a.1.1.1.0 }

pub classes_low : (b : List ℕ) → Passes (list_checks b Forward) → 1 ≤ classes b
classes_low b p =
    let a = all_pass (list_checks b Forward) p in
    let lo = within_low (list_word b Forward 2) _ _ a.1.1.0 in
    omega arith

pub classes_high : (b : List ℕ) → Passes (list_checks b Forward) → classes b ≤ 128
classes_high b p =
    let a = all_pass (list_checks b Forward) p in
    let hi = within_high (list_word b Forward 2) _ _ a.1.1.0 in
    omega arith

-- the parts of all checks
abbrev pub from_codes : List ℕ → List Check
from_codes b = code_checks b Forward ++ code_checks b Backward

abbrev pub from_classes : List ℕ → List Check
from_classes b = class_checks b ++ from_codes b

abbrev pub from_backward : List ℕ → List Check
from_backward b = list_checks b Backward ++ from_classes b

abbrev pub from_forward : List ℕ → List Check
from_forward b = list_checks b Forward ++ from_backward b

module _ (b : List ℕ) (p : Passes (checks b)) where
  past_header : Passes (from_forward b)
  unfolding checks
  past_header = right_passes (header_checks b) (from_forward b) p

  past_forward : Passes (from_backward b)
  past_forward = right_passes (list_checks b Forward) (from_backward b) past_header

  past_backward : Passes (from_classes b)
  past_backward = right_passes (list_checks b Backward) (from_classes b) past_forward

  past_classes : Passes (from_codes b)
  past_classes = right_passes (class_checks b) (from_codes b) past_backward

  pub header_passes : Passes (header_checks b)
  unfolding checks
  header_passes = left_passes (header_checks b) (from_forward b) p

  pub list_passes : (d : Direction) → Passes (list_checks b d)
  list_passes Forward = left_passes (list_checks b Forward) (from_backward b) past_header
  list_passes Backward = left_passes (list_checks b Backward) (from_classes b) past_forward

  pub class_passes : Passes (class_checks b)
  class_passes = left_passes (class_checks b) (from_codes b) past_backward

  pub code_passes : (d : Direction) → Passes (code_checks b d)
  code_passes Forward = left_passes (code_checks b Forward) (code_checks b Backward) past_classes
  code_passes Backward = right_passes (code_checks b Forward) (code_checks b Backward) past_classes

  -- the entry of each byte value is sound
  pub entries_sound : (v : ℕ) → v < 256 → entry_sound b (entry b v) ≡ true
  entries_sound v h =
      passes_each (λ v. (entry_sound b (entry b v), ClassWrong (class_table b + v))) 0 256 class_passes v (omega arith) (omega arith)

  -- the code of index k at its place
  pub code_there : (d : Direction) (k : ℕ) → k < code_count b d → get_or (codes b d) k 0 ≡ get_or b (code_place b d k) 0
  code_there d k h =
      let e : code_place b d 0 + k ≡ code_place b d k = omega arith in
      get_or-take (code_count b d) (drop (code_place b d 0) b) k 0 h ∙ get_or-drop (code_place b d 0) b k 0 ∙ ap (λ (n : ℕ). get_or b n 0) e

  -- each code names a state that is there
  pub codes_named : (d : Direction) (k : ℕ) → k < code_count b d → next (get_or (codes b d) k 0) < states b d
  codes_named d k h =
      let sound =
      passes_each (λ k. (code_sound (states b d) (get_or b (code_place b d k) 0), CodeWrong d (code_place b d k))) 0 (code_count b d) (code_passes d) k (omega arith) (omega arith) in
      subst (λ (x : ℕ). next x < states b d) (sym (code_there d k h)) (ltb-true _ _ (and_parts _ _ sound).1)

-- the codes that are handed to a state table name states that are there
pub named : (b : List ℕ) (d : Direction) (row : List ℕ) (S : ℕ) → Passes (checks b) → row ≡ codes b d → length row ≡ code_count b d → S ≡ states b d
    → (k : ℕ) → k < length row → next (get_or row k 0) < S
named b d row S p e n s k h =
    subst (λ (m : ℕ). next (get_or row k 0) < m) (sym s)
    (subst (λ (l : List ℕ). next (get_or l k 0) < states b d) (sym e) (codes_named b p d k (omega arith)))
