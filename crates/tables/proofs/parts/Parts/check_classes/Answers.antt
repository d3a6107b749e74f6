use Rattle.std.proofs.Common.{◌≡◌, ℕ, ◌+◌, ◌-◌, ◌≤◌, List, length, take, drop, Some, sym, ap, ◌∙◌, arith, below_more}
use Rattle.refusals.specs.declared.Refusal.TheVariants.{ClassWrong}
use Rattle.tables.specs.Words.{byte}
use Rattle.tables.specs.Layout.{class_table}
use Rattle.tables.specs.Classes.{entry, entry_sound}
use Rattle.tables.proofs.Slices.{part_size, part_is}
use Rattle.tables.proofs.Passing.{each_passes, each_fails}
use Rattle.tables.proofs.parts.Parts.check_classes.Goals as goal

-- the entry that the loop is at
here : (b : List ℕ) (at v : ℕ) → at ≡ class_table b → at + 256 ≤ length b → entry_sound b (byte (take (at + 256 - at) (drop at b)) v) ≡ entry_sound b (entry b v)
here b at v e h =
    ap (λ (l : List ℕ). entry_sound b (byte l v)) (part_is b at 256 h ∙ ap (λ (n : ℕ). take 256 (drop n b)) e)

pub loop-entry-preserved : goal.loop-entry-preserved
loop-entry-preserved c =
    let b = c.args.self.now.bytes.now in
    let at = c.class_table_place-at.ensures in
    let n = part_size b c.class_table_place-at.result 256 at.bound in
    let counted = c.loop-entry.invariant.0 in (
      omega arith,
      below_more _ _ c.loop-entry.invariant.1
          (sym (here b c.class_table_place-at.result c.loop-entry.entry-index at.value at.bound) ∙ sym c.entry_is_sound.ensures ∙ c.if-not-entry_is_sound.false),
    )

pub returns-then-not-entry_is_sound : goal.returns-then-not-entry_is_sound
returns-then-not-entry_is_sound c =
    let b = c.args.self.now.bytes.now in
    let at = c.class_table_place-at.ensures in
    let n = part_size b c.class_table_place-at.result 256 at.bound in
    let v = c.loop-entry.entry-index in
    let e = at.value in
    let counted = c.loop-entry.invariant.0 in
    each_fails (λ v. (entry_sound b (entry b v), ClassWrong (class_table b + v))) 0 256 v (omega arith) (omega arith) (λ j lo hi. c.loop-entry.invariant.1 j hi)
    (sym (here b c.class_table_place-at.result v at.value at.bound) ∙ sym c.entry_is_sound.ensures ∙ c.if-not-entry_is_sound.true)
    ∙ ap (λ (p : ℕ). Some (ClassWrong p)) (omega arith)

pub returns : goal.returns
returns c =
    let b = c.args.self.now.bytes.now in
    let at = c.class_table_place-at.ensures in
    let n = part_size b c.class_table_place-at.result 256 at.bound in
    each_passes (λ v. (entry_sound b (entry b v), ClassWrong (class_table b + v))) 0 256 (λ j lo hi. c.loop-entry.invariant.1 j (omega arith))
