-- Where the backward scan of a steady table leads, a wall stands, so that the run found there is one of the whole cutting.
use Rattle.std.proofs.Common.{◌≡◌, ℕ, zero, suc, ◌+◌, ◌-◌, ◌<◌, ◌≤◌, Bool, true, eqb, ltb, ◌⊎◌, List, [], ◌∷◌, ◌++◌, reverse, length, get_or, drop, Some, None, sym, refl, ap, ◌∙◌, subst, inl, inr, append_assoc, arith}
use mathlib.Core.List.{reverse_aux-eq, reverse-append}
use Rattle.std.proofs.lemmas.List.{reverse-reverse}
use Rattle.std.proofs.lemmas.Bool.{cond_both}
use Rattle.refusals.specs.declared.Direction.TheVariants.{Forward, Backward}
use Rattle.automata.specs.Machine.{Ending, runs_out, exits_by, scanned, Row}
use Rattle.automata.specs.Sure.{holds}
use Rattle.rules.specs.Answers.{wall_at}
use Rattle.rules.specs.Cutting.{cutting, Bounded, Joined}
use Rattle.rules.specs.Runs.{over_from, run_over_byte, span_of}
use Rattle.rules.proofs.Lawful.{wall_joined}
use Rattle.rules.proofs.RunLaws.{over_parted}
use Rattle.tables.specs.Layout.{machine, classes, backup}
use Rattle.tables.specs.Classes.{leads, one_class, two_class}
use Rattle.tables.specs.Meaning.{bytes_of}
use Rattle.tables.specs.Steady.{Steady}
use Rattle.tables.specs.declared.table.Table.{Table}
use Rattle.tables.proofs.Kept.{table_passes, table_tells}
use Rattle.tables.proofs.Tabled.{classes_low, list_passes}
use Rattle.tables.proofs.Classed.{one_low, two_low}
use Rattle.breaks.specs.Chars.{Char, span, row_of}
use Rattle.breaks.specs.Places.{covering}
use Rattle.breaks.specs.Tables.{parted}
use Rattle.breaks.specs.Meaning.{characters, table_run, table_parts}
use Rattle.breaks.specs.CharLaws.{Fit, fit, fit_right, row_low}
use Rattle.breaks.specs.TableLaws.{parted_at, table_bounded, table_joins}
use Rattle.breaks.proofs.Backs.{between}
use Rattle.finds.specs.Finds.{starting_below, backward_from, mark_place, leads_to, begin, found}
use Rattle.rules.specs.declared.runs.Span.{Span}
use Rattle.finds.proofs.Fronts.{span_reverse, fit_left, fit_reverse, below_front, turn_reads, turn_start}
use Rattle.finds.proofs.Marks.{mark_sure}

-- ---- characters read backward
-- the i-th and the next
record Pair (back : List Char) (i : ℕ) : Type 0 where
  read : List Char
  at : Char
  next : Char
  rest : List Char
  parts : back ≡ read ++ at ∷ next ∷ rest
  left : drop (suc i) back ≡ next ∷ rest
  class_next : get_or (row_of back) (suc i) 0 ≡ next.class
  class_at : get_or (row_of back) i 0 ≡ at.class

pair_at : (back : List Char) (i : ℕ) → (drop (suc i) back ≡ []) ⊎ Pair back i
pair_at [] i = inl refl
pair_at (u ∷ []) zero = inl refl
pair_at (u ∷ v ∷ us) zero =
    inr record { read = []; at = u; next = v; rest = us; parts = refl; left = refl; class_next = refl; class_at = refl }
pair_at (u ∷ us) (suc i) =
    elim (pair_at us i) [
      | inl e ↦ inl e
      | inr p ↦ inr record {
        read = u ∷ p.read;
        at = p.at;
        next = p.next;
        rest = p.rest;
        parts = ap (λ (l : List Char). u ∷ l) p.parts;
        left = p.left;
        class_next = p.class_next;
        class_at = p.class_at;
      }
    ]

-- the same characters from the start of the text on
forward : (read : List Char) (u v : Char) (rest more : List Char) → reverse (read ++ u ∷ v ∷ rest) ++ more ≡ reverse rest ++ v ∷ u ∷ (reverse read ++ more)
forward read u v rest more =
    ap (λ (l : List Char). l ++ more) (reverse-append read (u ∷ v ∷ rest) ∙ ap (λ (l : List Char). l ++ reverse read) (reverse_aux-eq rest (v ∷ u ∷ [])) ∙ append_assoc (reverse rest) (v ∷ u ∷ []) (reverse read))
    ∙ append_assoc (reverse rest) (v ∷ u ∷ reverse read) more

-- a mark is at the text's start, or stands between two characters and is judged by their classes
module _ (C : ℕ) (sure : ℕ → ℕ → Bool) (all back more : List Char) (fits : Fit C all) (is : all ≡ reverse back ++ more) where
  mark_parted : (i : ℕ) → sure (get_or (row_of back) (i + 1) 0) (get_or (row_of back) i 0) ≡ true
      → (mark_place back (Some i) ≡ 0) ⊎ (parted sure (mark_place back (Some i)) all ≡ true)
  mark_parted i h =
      let n : i + 1 ≡ suc i = omega arith in
      let place = ap (λ (j : ℕ). span (drop j back)) n in
      elim (pair_at back i) [
        | inl e ↦ inl (place ∙ ap span e)
        | inr p ↦
            let order = is ∙ ap (λ (l : List Char). reverse l ++ more) p.parts ∙ forward p.read p.at p.next p.rest more in
            let some = (fit_right C (reverse p.rest) (p.next ∷ p.at ∷ (reverse p.read ++ more)) (subst (Fit C) order fits)).0 in
            let bytes = place ∙ ap span p.left in
            let before = span_reverse p.rest in
            let first : get_or (row_of back) (i + 1) 0 ≡ p.next.class = ap (λ (j : ℕ). get_or (row_of back) j 0) n ∙ p.class_next in
            let second = p.class_at in
            let pair : sure p.next.class p.at.class ≡ true = cc in
            inr (ap (parted sure (mark_place back (Some i))) order
            ∙ between sure (reverse p.rest) p.next p.at (reverse p.read ++ more) (mark_place back (Some i)) some (omega arith) ∙ pair)
      ]

abbrev extent_of : ℕ → ℕ → Span
extent_of start end = record { start = start; end = end }

-- ---- by an accepted table
module _ (t : Table) where
  abbrev b : List ℕ
  b = bytes_of t

  abbrev sure : ℕ → ℕ → Bool
  sure = holds t.judgement.sure.rows

  abbrev run : List ℕ → ℕ
  run = table_run (bytes_of t)

  least : 1 ≤ classes b
  least = classes_low b (list_passes b (table_passes t) Forward)

  fits : (text : List ℕ) → Fit (classes b) (characters b text)
  fits text = fit (leads b) (one_class b) (two_class b) (classes b) least (one_low b (table_passes t)) (two_low b (table_passes t)) text

  -- one turn of the backward scan
  pub back_turn : (text : List ℕ) (at : ℕ) → 0 < at → at ≤ length text → (start : ℕ) → start ≡ covering (leads (bytes_of t)) text (at - 1) → (u : Char) → 1 ≤ u.size
      → characters (bytes_of t) (drop start text) ≡ u ∷ characters (bytes_of t) (drop (start + u.size) text)
      → (reverse (starting_below at (characters (bytes_of t) text)) ≡ u ∷ reverse (starting_below start (characters (bytes_of t) text)))
      × (span (reverse (starting_below start (characters (bytes_of t) text))) ≡ start)
  back_turn text at past inside start is u some reads = (
    turn_reads (leads b) (one_class b) (two_class b) (classes b) text (fits text) at past inside start is u some reads,
    turn_start (leads b) (one_class b) (two_class b) (classes b) text (fits text) at past inside start is u some reads,
  )

  bounded : Bounded run
  bounded =
      table_bounded (leads b) (one_class b) (two_class b) (machine b Forward) (classes b) least (one_low b (table_passes t)) (two_low b (table_passes t)) t.advances

  joins : (before after : List ℕ) → table_parts b sure before after ≡ true → Joined run before after
  joins =
      table_joins (leads b) (one_class b) (two_class b) (machine b Forward) (classes b) least (one_low b (table_passes t)) (two_low b (table_passes t)) t.advances
      sure (λ c d l m. (table_tells t c d l m).0)

  module _ (steady : Steady (bytes_of t)) (text : List ℕ) where
    -- a place of the text at which its characters are parted is a wall
    wall_parted : (q : ℕ) → q ≤ length text → parted sure q (characters b text) ≡ true → wall_at (table_parts b sure) text q ≡ true
    wall_parted q l e =
        cond_both (eqb q 0) _ _ (λ (w : Bool). w ≡ true) (λ _. refl)
        (λ _. parted_at sure (leads b) (one_class b) (two_class b) text q l ∙ e)

    module _ (place : ℕ) where
      order : (more : List Char) × (characters b text ≡ reverse (backward_from b text place) ++ more)
      order =
          let f = below_front (place + 1) (characters b text) in
          (f.0, f.1 ∙ ap (λ (l : List Char). l ++ f.0) (sym (reverse-reverse (starting_below (place + 1) (characters b text)))))

      row : Row (classes b) (row_of (backward_from b text place))
      row =
          let f = below_front (place + 1) (characters b text) in
          row_low (classes b) (backward_from b text place) (fit_reverse (classes b) _ (fit_left (classes b) _ f.0 (subst (Fit (classes b)) f.1 (fits text))))

      leads_wall : (e : Ending) → scanned (machine b Backward) (row_of (backward_from b text place)) ≡ e → leads_to (backward_from b text place) e ≤ length text
          → wall_at (table_parts b sure) text (leads_to (backward_from b text place) e) ≡ true
      leads_wall runs_out is l = refl
      leads_wall (exits_by s c None) is l = refl
      leads_wall (exits_by s c (Some i)) is l =
          let pair = mark_sure (machine b Backward) (classes b) least sure (steady sure (table_tells t)) (row_of (backward_from b text place)) s c i row is in
          elim (mark_parted (classes b) sure (characters b text) (backward_from b text place) order.0 (fits text) order.1 i pair) [
            | inl z ↦ ap (wall_at (table_parts b sure) text) z
            | inr p ↦ wall_parted _ l p
          ]

      -- find begins at a wall
      begins_at_wall : begin b text place ≤ length text → wall_at (table_parts b sure) text (begin b text place) ≡ true
      begins_at_wall =
          cond_both (ltb place (backup b)) _ _ (λ (q : ℕ). q ≤ length text → wall_at (table_parts b sure) text q ≡ true) (λ _ _. refl)
          (λ _. leads_wall (scanned (machine b Backward) (row_of (backward_from b text place))) refl)

      -- and finds what the cutting of the whole text has
      pub found_whole : begin (bytes_of t) text place ≤ place → place < length text
          → found (bytes_of t) text place ≡ span_of (run_over_byte (cutting (table_run (bytes_of t)) text) place)
      found_whole before inside =
          let short : begin b text place ≤ length text = omega arith in
          let parted = wall_joined run bounded (table_parts b sure) joins text (begin b text place) (begins_at_wall short) in
          let same = over_parted run bounded text (begin b text place) parted short place before in
          ap (λ (s : ℕ). extent_of s (over_from run text (begin b text place) place).end) (sym same.0)
          ∙ ap (λ (e : ℕ). extent_of (run_over_byte (cutting run text) place).start e) (sym same.1)
