use Rattle.std.proofs.Common.{◌≡◌, ℕ, ◌+◌, ◌≢◌, drop, sym, ap, ◌∙◌, arith}
use Rattle.std.proofs.lemmas.Bool.{leb-true, leb-false, eqb-true, eqb-false}
use Rattle.refusals.specs.declared.Direction.TheVariants.{Forward}
use Rattle.automata.specs.Machine.{next}
use Rattle.rules.proofs.Lawful.{answers}
use Rattle.tables.specs.Layout.{machine}
use Rattle.tables.specs.Classes.{leads, one_class, two_class}
use Rattle.tables.specs.Meaning.{bytes_of}
use Rattle.tables.proofs.Kept.{table_passes}
use Rattle.tables.proofs.Tabled.{listed, list_passes}
use Rattle.breaks.specs.Chars.{char}
use Rattle.breaks.specs.Meaning.{characters}
use Rattle.breaks.specs.CharLaws.{read_none}
use Rattle.breaks.specs.ScanLaws.{go, go_run, go_exits, go_on, mark_at, mark_here, mark_kept}
use Rattle.breaks.proofs.rule.scan.TableRuleRule.end.Goals as goal
use Rattle.breaks.proofs.rule.scan.TableRuleRule.end.Goals.{then-marks, else-marks}

pub loop-at-init : goal.loop-at-init
loop-at-init c =
    let t = c.args.self.now.table in
    let b = bytes_of t in
    let inside = c.in_ok-check_place.ensures.inside in
    let low = (listed b Forward (list_passes b (table_passes t) Forward)).low in
    (omega arith, omega arith, omega arith, go_run (machine b Forward) (characters b (drop c.args.place c.args.text.now)) c.args.place)

pub loop-at-preserved : goal.loop-at-preserved
loop-at-preserved c =
    let b = bytes_of c.args.self.now.table in
    let text = c.args.text.now in
    let at = c.loop-at.at in
    let x = c.code-code.result in
    let u = c.at-here.result in
    let e = c.at-here.ensures in
    let value = c.code-code.ensures.value ∙ ap (λ (m : ℕ → ℕ → ℕ). m c.loop-at.state u.class) c.forward-forward.ensures.machine in
    let rest = characters b (drop (at + u.size) text) in
    let mark : c.if-marks.mark ≡ mark_at x at c.loop-at.mark =
    elim c.if-marks.branch [
      | then-marks w ↦ w.mark-is ∙ sym (mark_here x at c.loop-at.mark (leb-true 128 x (sym c.marks.ensures ∙ w.if-marks.true)))
      | else-marks w ↦ w.mark-is ∙ sym (mark_kept x at c.loop-at.mark (leb-false 128 x (sym c.marks.ensures ∙ w.if-marks.false)))
    ] in
    let goes : next x ≢ 0 = eqb-false (next x) 0 (sym c.exits.ensures ∙ c.if-exits.false) in
    let follows : c.next-state.result ≡ next x = c.next-state.ensures.value in
    let on = go_on (machine b Forward) c.loop-at.state at c.loop-at.mark x (characters b (drop at text)) (char u.size u.class) rest e.reads value goes in (
      e.within,
      omega arith,
      (let below = c.code-code.ensures.below in let total = c.forward-forward.ensures.states in omega arith),
      ap (λ (s : ℕ). go (machine b Forward) s (at + u.size) c.if-marks.mark rest) follows
          ∙ ap (λ (m : ℕ). go (machine b Forward) (next x) (at + u.size) m rest) mark ∙ sym on ∙ c.loop-at.invariant.3,
    )

pub returns-then-exits : goal.returns-then-exits
returns-then-exits c =
    let b = bytes_of c.args.self.now.table in
    let text = c.args.text.now in
    let at = c.loop-at.at in
    let u = c.at-here.result in
    let e = c.at-here.ensures in
    let value = c.code-code.ensures.value ∙ ap (λ (m : ℕ → ℕ → ℕ). m c.loop-at.state u.class) c.forward-forward.ensures.machine in
    let x = c.code-code.result in
    let mark : c.if-marks.mark ≡ mark_at x at c.loop-at.mark =
    elim c.if-marks.branch [
      | then-marks w ↦ w.mark-is ∙ sym (mark_here x at c.loop-at.mark (leb-true 128 x (sym c.marks.ensures ∙ w.if-marks.true)))
      | else-marks w ↦ w.mark-is ∙ sym (mark_kept x at c.loop-at.mark (leb-false 128 x (sym c.marks.ensures ∙ w.if-marks.false)))
    ] in
    let exit =
    go_exits (machine b Forward) c.loop-at.state at c.loop-at.mark c.code-code.result (characters b (drop at text)) (char u.size u.class) (characters b (drop (at + u.size) text)) e.reads value (eqb-true (next x) 0 (sym c.exits.ensures ∙ c.if-exits.true)) in
    let left = c.loop-at.invariant.3 in
    let inside = c.in_ok-check_place.ensures.inside in
    answers text c.args.place _ inside.0 inside.1 _ (omega arith)

pub returns : goal.returns
returns c =
    let b = bytes_of c.args.self.now.table in
    let text = c.args.text.now in
    let at = c.loop-at.at in
    let none = read_none (leads b) (one_class b) (two_class b) text at c.loop-at-test.false in
    let out : go (machine b Forward) c.loop-at.state at c.loop-at.mark (characters b (drop at text)) ≡ at =
    ap (go (machine b Forward) c.loop-at.state at c.loop-at.mark) none in
    let inside = c.in_ok-check_place.ensures.inside in
    answers text c.args.place _ inside.0 inside.1 at (sym out ∙ c.loop-at.invariant.3)
