-- Classes of a table that passes its checks: what leads to them lies inside, and they are below C.
use Rattle.std.proofs.Common.{◌≡◌, ℕ, ◌+◌, ◌-◌, ◌<◌, ◌≤◌, true, false, cond, ◌&&◌, List, length, get_or, take, drop, ℤ, pos, nat_abs, sym, ap, ◌∙◌, subst, inl, inr, arith, length-drop}
use lib.Signed.{non_neg}
use Rattle.std.proofs.lemmas.List.{get_or-take, get_or-drop, get_or_past, length-take-le}
use Rattle.std.proofs.lemmas.Bool.{cond-true, cond-false, cases_Bool, cases_lt, and_parts, both_ways, false≢true}
use Rattle.tables.specs.Words.{signed8, byte, word, even}
use Rattle.tables.specs.Layout.{size, fits, two_byte, class_table, auxiliary, classes}
use Rattle.tables.specs.Classes.{class_bytes, entry, leads, shared, own_place, odd_class, row_start, row_bytes, even_class, one_class, two_class, is_class, every, odd_sound, even_sound}
use Rattle.tables.specs.Checks.{Passes, checks}
use Rattle.refusals.specs.declared.Direction.TheVariants.{Forward}
use Rattle.tables.proofs.Numbers.{within_high, within_whole, fits_inside}
use Rattle.tables.proofs.Heads.{head}
use Rattle.tables.proofs.Everys.{passes_every}
use Rattle.tables.proofs.Tabled.{header_passes, list_passes, classes_low, entries_sound}

-- past its 256 entries a class table or a row table reads as class 0
past : (l : List ℕ) (v : ℕ) → length l ≤ 256 → 256 ≤ v → byte l v ≡ pos 0
past l v h g = ap signed8 (get_or_past l v 0 (omega arith))

short : (b : List ℕ) (at : ℕ) → at + 256 ≤ length b → length (take 256 (drop at b)) ≡ 256
short b at h = let l = length-drop at b in length-take-le 256 (drop at b) (omega arith)

module _ (b : List ℕ) (p : Passes (checks b)) where
  some_class : 1 ≤ classes b
  some_class = classes_low b (list_passes b p Forward)

  -- a class is below C
  class_low : (z : ℤ) → is_class b z ≡ true → nat_abs z < classes b
  class_low z e = let h = within_high z 0 (classes b - 1) e in let s = some_class in omega arith

  pub class_table_in : class_table b + 256 ≤ length b
  class_table_in = let h = head b (header_passes b p) in let c = h.class_table_in in let s = h.size_high in omega arith

  pub entry_past : (x : ℕ) → 256 ≤ x → entry b x ≡ pos 0
  entry_past x g = past (class_bytes b) x (let s = short b (class_table b) class_table_in in omega arith) g

  pub entry_at : (x : ℕ) → x < 256 → entry b x ≡ signed8 (get_or b (class_table b + x) 0)
  entry_at x h = ap signed8 (get_or-take 256 (drop (class_table b) b) x 0 h ∙ get_or-drop (class_table b) b x 0)

  -- a byte that is no first byte has its class
  pub one_low : (x : ℕ) → leads b x ≡ false → one_class b x < classes b
  one_low x e =
      elim (cases_lt x 256) [
        | inl l ↦ elim (cases_Bool (non_neg (entry b x))) [
          | inl n ↦ class_low (entry b x) (sym (cond-true _ _ _ n) ∙ entries_sound b p x l)
          | inr n ↦
              let two : two_byte b ≡ true = (and_parts (two_byte b) _ (sym (cond-false _ _ _ n) ∙ entries_sound b p x l)).0 in
              absurd (both_ways (two_byte b) (sym (cond-false _ _ _ n) ∙ e) two)
        ]
        | inr g ↦ let z = ap nat_abs (entry_past x g) in let s = some_class in omega arith
      ]

  -- what is known of a first byte
  pub record Lead (x : ℕ) : Type 0 where
    pub is_byte : x < 256
    pub negative : non_neg (entry b x) ≡ false
    pub two : two_byte b ≡ true
    pub under : cond (even (nat_abs (entry b x))) (even_sound b (nat_abs (entry b x))) (odd_sound b (nat_abs (entry b x))) ≡ true

  pub lead_of : (x : ℕ) → leads b x ≡ true → Lead x
  lead_of x e =
      elim (cases_Bool (non_neg (entry b x))) [
        | inl n ↦ absurd (false≢true (sym (cond-true _ _ _ n) ∙ e))
        | inr n ↦ elim (cases_lt x 256) [
          | inl l ↦
              let u = and_parts (two_byte b) _ (sym (cond-false _ _ _ n) ∙ entries_sound b p x l) in
              record { is_byte = l; negative = n; two = u.0; under = u.1 }
          | inr g ↦ absurd (both_ways (non_neg (entry b x)) n (ap non_neg (entry_past x g)))
        ]
      ]

  -- what is known under an even entry
  pub even_word : (k : ℕ) → even_sound b k ≡ true → auxiliary b + k + 2 ≤ size b
  even_word k e = fits_inside b (pos (auxiliary b + k)) 2 (and_parts (fits b (pos (auxiliary b + k)) 2) _ e).0

  row_sound : (k : ℕ) → even_sound b k ≡ true → (fits b (row_start b k) 256 && every (λ y. is_class b (even_class b k y)) 256) ≡ true
  row_sound k e = (and_parts (fits b (pos (auxiliary b + k)) 2) _ e).1

  pub even_row : (k : ℕ) → even_sound b k ≡ true → fits b (row_start b k) 256 ≡ true
  even_row k e = (and_parts (fits b (row_start b k) 256) _ (row_sound k e)).0

  pub row_in : (k : ℕ) → even_sound b k ≡ true → nat_abs (row_start b k) + 256 ≤ length b
  row_in k e =
      let i = fits_inside b (row_start b k) 256 (even_row k e) in
      let s = (head b (header_passes b p)).size_high in
      omega arith

  even_low : (k y : ℕ) → even_sound b k ≡ true → nat_abs (even_class b k y) < classes b
  even_low k y e =
      elim (cases_lt y 256) [
        | inl l ↦
            class_low (even_class b k y)
            (passes_every (λ y. is_class b (even_class b k y)) 256 (and_parts (fits b (row_start b k) 256) _ (row_sound k e)).1 y l)
        | inr g ↦
            let s = short b (nat_abs (row_start b k)) (row_in k e) in
            let z = ap nat_abs (past (row_bytes b k) y (omega arith) g) in
            let c = some_class in
            omega arith
      ]

  -- its entries are classes, so not negative
  pub even_whole : (k y : ℕ) → even_sound b k ≡ true → y < 256 → non_neg (even_class b k y) ≡ true
  even_whole k y e l =
      within_whole (even_class b k y) 0 (classes b - 1)
      (passes_every (λ y. is_class b (even_class b k y)) 256 (and_parts (fits b (row_start b k) 256) _ (row_sound k e)).1 y l)

  -- what is known under an odd entry
  pub odd_own : (k : ℕ) → odd_sound b k ≡ true → non_neg (shared b) ≡ false → own_place b k + 2 ≤ size b
  odd_own k e n = fits_inside b (pos (own_place b k)) 2 (and_parts (fits b (pos (own_place b k)) 2) _ (sym (cond-false (non_neg (shared b)) _ _ n) ∙ e)).0

  odd_low : (k : ℕ) → odd_sound b k ≡ true → nat_abs (odd_class b k) < classes b
  odd_low k e =
      elim (cases_Bool (non_neg (shared b))) [
        | inl n ↦
            subst (λ (z : ℤ). nat_abs z < classes b) (sym (cond-true (non_neg (shared b)) _ _ n))
            (class_low (shared b) (sym (cond-true (non_neg (shared b)) _ _ n) ∙ e))
        | inr n ↦
            subst (λ (z : ℤ). nat_abs z < classes b) (sym (cond-false (non_neg (shared b)) _ _ n))
            (class_low (word b (own_place b k)) (and_parts (fits b (pos (own_place b k)) 2) _ (sym (cond-false (non_neg (shared b)) _ _ n) ∙ e)).1)
      ]

  -- a two-byte character has its class
  pub two_low : (x y : ℕ) → leads b x ≡ true → two_class b x y < classes b
  two_low x y e =
      let k = nat_abs (entry b x) in
      let u = (lead_of x e).under in
      elim (cases_Bool (even k)) [
        | inl t ↦ subst (λ (z : ℤ). nat_abs z < classes b) (sym (cond-true _ _ _ t)) (even_low k y (sym (cond-true _ _ _ t) ∙ u))
        | inr t ↦ subst (λ (z : ℤ). nat_abs z < classes b) (sym (cond-false _ _ _ t)) (odd_low k (sym (cond-false _ _ _ t) ∙ u))
      ]
