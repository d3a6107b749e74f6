use Rattle.std.proofs.Common.{◌≡◌, ℕ, ◌+◌, ◌-◌, ◌%◌, ◌<◌, ◌≤◌, ◌≢◌, List, [], reverse, length, sym, ap, ◌∙◌, subst, arith}
use Rattle.std.proofs.lemmas.Bool.{leb-true, leb-false, eqb-true, eqb-false}
use Rattle.refusals.specs.declared.Direction.TheVariants.{Backward}
use Rattle.automata.specs.Machine.{next}
use Rattle.tables.specs.Layout.{machine}
use Rattle.tables.specs.Classes.{leads}
use Rattle.tables.specs.Meaning.{bytes_of}
use Rattle.tables.proofs.Kept.{table_passes}
use Rattle.tables.proofs.Tabled.{listed, list_passes}
use Rattle.breaks.specs.Chars.{Char, char}
use Rattle.breaks.specs.Meaning.{characters}
use Rattle.breaks.specs.Places.{leads_before}
use Rattle.breaks.proofs.Backs.{leads_inside}
use Rattle.breaks.specs.ScanLaws.{mark_at, mark_here, mark_kept}
use Rattle.finds.specs.Finds.{starting_below, backward_from}
use Rattle.finds.proofs.Fronts.{below_none}
use Rattle.finds.proofs.BackScans.{go_back, back_exits, back_on, back_scan}
use Rattle.finds.proofs.SteadyWalls.{back_turn}
use Rattle.finds.proofs.back.scan_back.Goals as goal
use Rattle.finds.proofs.back.scan_back.Goals.{then-marks, else-marks}

pub loop-at-init : goal.loop-at-init
loop-at-init c =
    let t = c.args.characters.now.table.now in
    let b = bytes_of t in
    let text = c.args.characters.now.text.now in
    let low = (listed b Backward (list_passes b (table_passes t) Backward)).low in
    let last : c.args.place + 1 - 1 ≡ c.args.place = omega arith in
    (omega arith, omega arith, omega arith, omega arith, back_scan (machine b Backward) (backward_from b text c.args.place), λ l. omega (arith, ap (leads_before (leads b) text) last, c.stretch_start-stretch.ensures.value))

pub loop-at-preserved : goal.loop-at-preserved
loop-at-preserved c =
    let t = c.args.characters.now.table.now in
    let b = bytes_of t in
    let text = c.args.characters.now.text.now in
    let at = c.loop-at.at in
    let low_end = c.stretch_before-stretch.result in
    let start = c.start_in_stretch-start.result in
    let begins = c.start_in_stretch-start.ensures in
    let parity = ap (λ (n : ℕ). n % 2) c.stretch_before-stretch.ensures.value in
    let x = c.code-code.result in
    let u = c.at-here.result in
    let e = c.at-here.ensures in
    let inside : at ≤ length text = let h = c.loop-at.invariant.0 in let l = c.requires in omega arith in
    let mark : c.if-marks.mark ≡ mark_at x start c.loop-at.mark =
    elim c.if-marks.branch [
      | then-marks w ↦ let is = w.mark-is in let set = mark_here x start c.loop-at.mark (leb-true 128 x (sym c.marks.ensures ∙ w.if-marks.true)) in omega arith
      | else-marks w ↦ let is = w.mark-is in let kept-so = mark_kept x start c.loop-at.mark (leb-false 128 x (sym c.marks.ensures ∙ w.if-marks.false)) in omega arith
    ] in
    let low : c.if-marks.mark ≤ c.args.place =
    elim c.if-marks.branch [ then-marks w ↦ let s = w.mark-is in omega arith | else-marks w ↦ let s = w.mark-is in omega arith ] in
    let now-at = back_turn t text at c.loop-at-test.true inside _ (omega arith) (char u.size u.class) e.some e.reads in
    let code_is : x ≡ machine b Backward c.loop-at.state u.class = c.code-code.ensures.value ∙ ap (λ (f : ℕ → ℕ → ℕ). f c.loop-at.state u.class) c.backward-backward.ensures.machine in
    let on = back_on (machine b Backward) c.loop-at.state start c.loop-at.mark x _ (char u.size u.class) _ now-at.0 now-at.1 code_is (eqb-false (next x) 0 (sym c.exits.ensures ∙ c.if-exits.false)) in
    let follows : c.next-state.result ≡ next x = c.next-state.ensures.value in
    let goes : next x ≢ 0 = eqb-false (next x) 0 (sym c.exits.ensures ∙ c.if-exits.false) in (
      omega arith,
      low,
      omega arith,
      (let below = subst (λ (n : ℕ). next x < n) c.backward-backward.ensures.states c.code-code.ensures.below in omega arith),
      ap (λ (s : ℕ). go_back (machine b Backward) s c.if-marks.mark (reverse (starting_below start (characters b text)))) follows
          ∙ ap (λ (m : ℕ). go_back (machine b Backward) (next x) m (reverse (starting_below start (characters b text)))) mark ∙ sym on ∙ c.loop-at.invariant.4,
      λ l. leads_inside (leads b) text low_end (at - 1) (start - 1) (omega arith) (omega arith) c.stretch_before-stretch.ensures.value,
    )

pub returns-then-exits : goal.returns-then-exits
returns-then-exits c =
    let t = c.args.characters.now.table.now in
    let b = bytes_of t in
    let text = c.args.characters.now.text.now in
    let at = c.loop-at.at in
    let low_end = c.stretch_before-stretch.result in
    let start = c.start_in_stretch-start.result in
    let begins = c.start_in_stretch-start.ensures in
    let parity = ap (λ (n : ℕ). n % 2) c.stretch_before-stretch.ensures.value in
    let x = c.code-code.result in
    let u = c.at-here.result in
    let e = c.at-here.ensures in
    let inside : at ≤ length text = let h = c.loop-at.invariant.0 in let l = c.requires in omega arith in
    let mark : c.if-marks.mark ≡ mark_at x start c.loop-at.mark =
    elim c.if-marks.branch [
      | then-marks w ↦ let is = w.mark-is in let set = mark_here x start c.loop-at.mark (leb-true 128 x (sym c.marks.ensures ∙ w.if-marks.true)) in omega arith
      | else-marks w ↦ let is = w.mark-is in let kept-so = mark_kept x start c.loop-at.mark (leb-false 128 x (sym c.marks.ensures ∙ w.if-marks.false)) in omega arith
    ] in
    let low : c.if-marks.mark ≤ c.args.place =
    elim c.if-marks.branch [ then-marks w ↦ let s = w.mark-is in omega arith | else-marks w ↦ let s = w.mark-is in omega arith ] in
    let now-at = back_turn t text at c.loop-at-test.true inside _ (omega arith) (char u.size u.class) e.some e.reads in
    let code_is : x ≡ machine b Backward c.loop-at.state u.class = c.code-code.ensures.value ∙ ap (λ (f : ℕ → ℕ → ℕ). f c.loop-at.state u.class) c.backward-backward.ensures.machine in
    let out = back_exits (machine b Backward) c.loop-at.state start c.loop-at.mark x _ (char u.size u.class) _ now-at.0 now-at.1 code_is (eqb-true (next x) 0 (sym c.exits.ensures ∙ c.if-exits.true)) in
    let left = c.loop-at.invariant.4 in
    record { value = omega arith; within = omega arith }

pub returns : goal.returns
returns c =
    let b = bytes_of c.args.characters.now.table.now in
    let text = c.args.characters.now.text.now in
    let z : c.loop-at.at ≡ 0 = let l = c.loop-at-test.false in omega arith in
    let none : starting_below c.loop-at.at (characters b text) ≡ [] = ap (λ (n : ℕ). starting_below n (characters b text)) z ∙ below_none (characters b text) in
    record {
      value = sym (ap (λ (us : List Char). go_back (machine b Backward) c.loop-at.state c.loop-at.mark (reverse us)) none) ∙ c.loop-at.invariant.4;
      within = omega arith;
    }
