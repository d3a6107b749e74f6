-- Character places found from behind: after a byte that is no first byte a character ends, and through a stretch of first
-- bytes the places alternate.
use Rattle.std.proofs.Common.{◌≡◌, ℕ, zero, suc, ◌+◌, ◌-◌, ◌%◌, ◌<◌, ◌≤◌, Bool, true, false, List, [], ◌∷◌, ◌++◌, length, get_or, take, drop, cond, sym, refl, ap, ◌∙◌, inl, inr, append_assoc, arith}
use Rattle.std.specs.List.{prefix_len, suffix_len}
use Rattle.std.proofs.Math.Seq.{take-suc}
use Rattle.std.proofs.lemmas.List.{reverse-append}
use Rattle.std.proofs.lemmas.Bool.{cond-true, cond-false, cases_Bool, cases_eq}
use Rattle.breaks.specs.Chars.{Char, char, chars, span}
use Rattle.breaks.specs.Tables.{parted}
use Rattle.breaks.specs.Places.{leads_before, covering}
use Rattle.breaks.specs.CharLaws.{span_append, chars_drop, read_one, read_two}
use Rattle.breaks.specs.TableLaws.{parted_inside, parted_here, parted_on, parted_few}

module _ (lead : ℕ → Bool) (one : ℕ → ℕ) (two : ℕ → ℕ → ℕ) (text : List ℕ) where
  -- p is a place of the characters
  abbrev pub Bound : ℕ → Type 0
  Bound p = (f : List Char) × (g : List Char) × (chars lead one two text ≡ f ++ g) × (span f ≡ p)

  -- p lies in the middle of a two-byte character
  abbrev pub Amid : ℕ → Type 0
  Amid p = (f : List Char) × (u : Char) × (g : List Char) × (chars lead one two text ≡ f ++ u ∷ g) × (span f + 1 ≡ p) × (u.size ≡ 2)

  -- what is read at a character place
  pub read_there : (p : ℕ) (b : Bound p) → chars lead one two (drop p text) ≡ b.1
  read_there p b =
      ap (λ (n : ℕ). chars lead one two (drop n text)) (sym b.3) ∙ chars_drop lead one two b.0 b.1 text b.2

  -- past a character
  past : (f : List Char) (u : Char) (g : List Char) → chars lead one two text ≡ f ++ u ∷ g → Bound (span f + u.size)
  past f u g e = (f ++ u ∷ [], g, e ∙ sym (append_assoc f (u ∷ []) g), span_append f (u ∷ []) ∙ omega arith)

  past_amid : (p : ℕ) → Amid p → Bound (suc p)
  past_amid p a =
      let b = past a.0 a.1 a.2 a.3 in
      let s = a.4 in
      let t = a.5 in
      let e : span a.0 + a.1.size ≡ suc p = omega arith in
      (b.0, b.1, b.2, b.3 ∙ e)

  past_one : (p : ℕ) → p < length text → lead (get_or text p 0) ≡ false → Bound p → Bound (suc p)
  past_one p h l b =
      let g = sym (read_there p b) ∙ read_one lead one two text p h l in
      let n = past b.0 (char 1 (one (get_or text p 0))) _ (b.2 ∙ ap (λ (r : List Char). b.0 ++ r) g) in
      let s = b.3 in
      let e : span b.0 + 1 ≡ suc p = omega arith in
      (n.0, n.1, n.2, n.3 ∙ e)

  into_two : (p : ℕ) → suc p < length text → lead (get_or text p 0) ≡ true → Bound p → Amid (suc p)
  into_two p h l b =
      let g = sym (read_there p b) ∙ read_two lead one two text p (omega arith) l in
      let s = b.3 in
      (b.0, char 2 (two (get_or text p 0) (get_or text (p + 1) 0)), _, b.2 ∙ ap (λ (r : List Char). b.0 ++ r) g, omega arith, refl)

  -- after an even number of first bytes a character begins; after an odd one a place lies in the middle of one
  pub record Sides (p : ℕ) : Type 0 where
    pub bound : leads_before lead text p % 2 ≡ 0 → Bound p
    pub amid : leads_before lead text p % 2 ≡ 1 → p < length text → Amid p

  halves : (n : ℕ) → (suc n % 2 ≡ 0 → n % 2 ≡ 1) × (suc n % 2 ≡ 1 → n % 2 ≡ 0)
  halves n = (λ e. omega arith, λ e. omega arith)

  pub sides : (p : ℕ) → p ≤ length text → Sides p
  sides zero h = record { bound = λ _. ([], chars lead one two text, refl, refl); amid = λ e _. absurd (omega arith) }
  sides (suc p) h =
      let i = sides p (omega arith) in
      let n = leads_before lead text p in
      elim (cases_Bool (lead (get_or text p 0))) [
        | inl l ↦
            let is : leads_before lead text (suc p) ≡ suc n = cond-true _ _ _ l in
            record {
              bound = λ e. past_amid p (i.amid ((halves n).0 (ap (λ (m : ℕ). m % 2) (sym is) ∙ e)) (omega arith));
              amid = λ e m. into_two p m l (i.bound ((halves n).1 (ap (λ (m : ℕ). m % 2) (sym is) ∙ e)));
            }
        | inr l ↦
            let is : leads_before lead text (suc p) ≡ 0 = cond-false _ _ _ l in
            record {
              bound = λ _. elim (cases_eq (n % 2) 0) [
                | inl z ↦ past_one p (omega arith) l (i.bound z)
                | inr o ↦ past_amid p (i.amid (omega arith) (omega arith))
              ];
              amid = λ e _. let z = ap (λ (m : ℕ). m % 2) is in absurd (omega arith);
            }
      ]

  pub covered : (p : ℕ) → p < length text → Bound (covering lead text p)
  covered p h =
      elim (cases_eq (leads_before lead text p % 2) 0) [
        | inl z ↦ let b = (sides p (omega arith)).bound z in let e : p ≡ covering lead text p = omega arith in (b.0, b.1, b.2, b.3 ∙ e)
        | inr o ↦
            let a = (sides p (omega arith)).amid (omega arith) h in
            let s = a.4 in
            (a.0, a.1 ∷ a.2, a.3, omega arith)
      ]

  -- and it does not end before it
  pub covers : (p : ℕ) → p < length text → (u : Char) (g : List Char) → 1 ≤ u.size → chars lead one two (drop (covering lead text p) text) ≡ u ∷ g → p < covering lead text p + u.size
  covers p h u g some e =
      elim (cases_eq (leads_before lead text p % 2) 0) [
        | inl z ↦ omega arith
        | inr o ↦
            let a = (sides p (omega arith)).amid (omega arith) h in
            let s = a.4 in
            let at : span a.0 ≡ covering lead text p = omega arith in
            let r = ap (λ (n : ℕ). chars lead one two (drop n text)) (sym at) ∙ chars_drop lead one two a.0 (a.1 ∷ a.2) text a.3 in
            let same : a.1 ≡ u = cc in
            let two = ap (λ (v : Char). v.size) (sym same) ∙ a.5 in
            omega arith
      ]

module _ (sure : ℕ → ℕ → Bool) where
  -- a place inside a character parts nothing
  pub inside_false : (f : List Char) (u : Char) (g : List Char) (p : ℕ) → span f < p → p < span f + u.size → parted sure p (f ++ u ∷ g) ≡ false
  inside_false [] u [] p lo hi = parted_few sure p (u ∷ []) (omega arith)
  inside_false [] u (v ∷ vs) p lo hi = parted_inside sure p (u ∷ v ∷ vs) u v vs refl (omega arith)
  inside_false (w ∷ []) u g p lo hi = parted_on sure p _ w u g refl (omega arith) ∙ inside_false [] u g (p - w.size) (omega arith) (omega arith)
  inside_false (w ∷ y ∷ ys) u g p lo hi =
      parted_on sure p _ w y (ys ++ u ∷ g) refl (omega arith) ∙ inside_false (y ∷ ys) u g (p - w.size) (omega arith) (omega arith)

  -- a place between two characters is judged by their classes
  pub between : (f : List Char) (u v : Char) (vs : List Char) (p : ℕ) → 1 ≤ u.size → p ≡ span f + u.size → parted sure p (f ++ u ∷ v ∷ vs) ≡ sure u.class v.class
  between [] u v vs p some e = parted_here sure p (u ∷ v ∷ vs) u v vs refl (omega arith)
  between (w ∷ []) u v vs p some e = parted_on sure p _ w u (v ∷ vs) refl (omega arith) ∙ between [] u v vs (p - w.size) some (omega arith)
  between (w ∷ y ∷ ys) u v vs p some e =
      parted_on sure p _ w y (ys ++ u ∷ v ∷ vs) refl (omega arith) ∙ between (y ∷ ys) u v vs (p - w.size) some (omega arith)

-- one byte more, read from behind
module _ (lead : ℕ → Bool) (text : List ℕ) where
  -- counted from the end of what stands before the place
  pub leads_counted : (p : ℕ) → p ≤ length text → suffix_len lead (take p text) ≡ leads_before lead text p
  leads_counted zero h = refl
  leads_counted (suc p) h =
      let before = leads_counted p (omega arith) in
      let more : 1 + suffix_len lead (take p text) ≡ suc (leads_before lead text p) = omega arith in
      ap (suffix_len lead) (take-suc text p 0 h) ∙ ap (prefix_len lead) (reverse-append (take p text) (get_or text p 0 ∷ []))
      ∙ ap (λ (n : ℕ). cond (lead (get_or text p 0)) n 0) more

  pub leads_few : (p : ℕ) → leads_before lead text p ≤ p
  leads_few zero = omega arith
  leads_few (suc p) =
      let few = leads_few p in
      elim (cases_Bool (lead (get_or text p 0))) [
        | inl t ↦ let is : leads_before lead text (suc p) ≡ suc (leads_before lead text p) = cond-true _ _ _ t in omega arith
        | inr f ↦ let is : leads_before lead text (suc p) ≡ 0 = cond-false _ _ _ f in omega arith
      ]

  -- inside a stretch of first bytes that begins at `low`
  pub leads_inside : (low p q : ℕ) → low ≤ q → q ≤ p → leads_before lead text p ≡ p - low → leads_before lead text q ≡ q - low
  leads_inside low zero q l h e = let z : q ≡ 0 = omega arith in ap (leads_before lead text) z ∙ omega arith
  leads_inside low (suc p) q l h e =
      elim (cases_eq q (suc p)) [
        | inl z ↦ ap (leads_before lead text) z ∙ e ∙ omega arith
        | inr o ↦ elim (cases_Bool (lead (get_or text p 0))) [
          | inl t ↦ let is : leads_before lead text (suc p) ≡ suc (leads_before lead text p) = cond-true _ _ _ t in leads_inside low p q l (omega arith) (omega arith)
          | inr f ↦ let is : leads_before lead text (suc p) ≡ 0 = cond-false _ _ _ f in absurd (omega arith)
        ]
      ]

-- whether a place past the start of a text is parted, by the character that covers the byte before it
module _ (lead : ℕ → Bool) (one : ℕ → ℕ) (two : ℕ → ℕ → ℕ) (sure : ℕ → ℕ → Bool) (text : List ℕ) (place : ℕ) (past-start : 0 < place) (inside : place < length text)
    (start : ℕ) (is : start ≡ covering lead text (place - 1)) (u : Char) (some : 1 ≤ u.size)
    (reads : chars lead one two (drop start text) ≡ u ∷ chars lead one two (drop (start + u.size) text)) where
  here : Bound lead one two text start
  here = let b = covered lead one two text (place - 1) (omega arith) in (b.0, b.1, b.2, b.3 ∙ sym is)

  whole : chars lead one two text ≡ here.0 ++ u ∷ chars lead one two (drop (start + u.size) text)
  whole = here.2 ∙ ap (λ (g : List Char). here.0 ++ g) (sym (read_there lead one two text start here) ∙ reads)

  -- between two characters: by the pair of their classes
  pub parted_between : start + u.size ≡ place → (v : Char) (vs : List Char) → chars lead one two (drop place text) ≡ v ∷ vs → parted sure place (chars lead one two text) ≡ sure u.class v.class
  parted_between e v vs next =
      ap (parted sure place) (whole ∙ ap (λ (n : ℕ). here.0 ++ u ∷ chars lead one two (drop n text)) e ∙ ap (λ (g : List Char). here.0 ++ u ∷ g) next)
      ∙ between sure here.0 u v vs place some (let s = here.3 in omega arith)

  -- in the middle of one: not
  pub parted_amid : (start + u.size ≡ place → ⊥) → parted sure place (chars lead one two text) ≡ false
  parted_amid ne =
      let at = ap (λ (n : ℕ). chars lead one two (drop n text)) (sym is) ∙ reads in
      let c = covers lead one two text (place - 1) (omega arith) u (chars lead one two (drop (start + u.size) text)) some at in
      let low : start < place = omega arith in
      let s = here.3 in
      ap (parted sure place) whole ∙ inside_false sure here.0 u (chars lead one two (drop (start + u.size) text)) place (omega arith) (omega arith)
