use Rattle.std.proofs.Common.{◌≡◌, ℕ, ◌+◌, ◌<◌, List, [], ◌∷◌, ◌++◌, length, get_or, take, ℤ, sym, ap, ◌∙◌, subst, arith, length-take, w32, to_z, of_z}
use Rattle.pins.specs.declared.pin.Pin.{Pin}
use Rattle.pins.specs.declared.pins.Pins.{Pins}
use Rattle.pins.specs.Order.{rising, nought, IsInside}
use Rattle.pins.specs.Kept.{kept}
use Rattle.pins.proofs.Rising.{T_true, low_in}
use Rattle.books.specs.Moves.{moved, renumbered}
use Rattle.books.proofs.Renumbers.{standing_at, renumbered_more, renumbered_same, rising_renumbered, few_renumbered}
use Rattle.books.proofs.book.judge.renumber.Goals as goal
use Rattle.books.proofs.book.judge.renumber.Goals.{then-is_wall, else-is_wall}

-- the k-th of the items, which are the pins that are kept
module _ (p : Pins) (items : List Pin) (k : ℕ) (same : items ≡ kept p) (within : k < length items) where
  abbrev pin : Pin
  pin = get_or items k nought

  there : k < length (kept p)
  there = let n = ap length same in omega arith

  is : pin ≡ get_or (kept p) k nought
  is = ap (λ (l : List Pin). get_or l k nought) same

  inside : IsInside p.size pin
  inside = subst (λ (q : Pin). IsInside p.size q) (sym is) (low_in p.size (kept p) (T_true _ p.ordered) k there)

pub is_wall-requires : goal.is_wall-requires
is_wall-requires g c =
    let low = (inside c.args.pins.now _ c.loop-pin.pin-index c.as_slice-pin-items.ensures c.loop-pin-test.true).1 in
    let size = c.requires in
    omega arith

pub moved_pin-requires : goal.moved_pin-requires
moved_pin-requires g c =
    let in_text = inside c.args.pins.now _ c.loop-pin.pin-index c.as_slice-pin-items.ensures c.loop-pin-test.true in
    let low = in_text.1 in
    let short = c.args.pins.now.short in
    (in_text.0, omega arith)

-- one more pin that stands
more : (g : _) (c : goal.After-moved_pin g)
    → kept c.loop-pin.left ++ c.moved_pin.result ∷ [] ≡ renumbered (g.R.Rule.parts c.args.page.now.rule.now) c.args.page.now.text.now c.args.to (to_z w32 (of_z w32 c.args.by)) (take (c.loop-pin.pin-index + 1) (kept c.args.pins.now))
more g c =
    let parts = g.R.Rule.parts c.args.page.now.rule.now in
    let text = c.args.page.now.text.now in
    let by : ℤ = to_z w32 (of_z w32 c.args.by) in
    let p = c.args.pins.now in
    let k = c.loop-pin.pin-index in
    let same = c.as_slice-pin-items.ensures in
    let here = is p _ k same c.loop-pin-test.true in
    let low = (inside p _ k same c.loop-pin-test.true).1 in
    let size = c.requires in
    let stand = standing_at parts text (kept p) k _ here (omega arith) ∙ sym c.is_wall.ensures.value ∙ c.if-is_wall.true in
    ap (λ (l : List Pin). l ++ c.moved_pin.result ∷ []) c.loop-pin.invariant.0
    ∙ ap (λ (q : Pin). renumbered parts text c.args.to by (take k (kept p)) ++ q ∷ []) (c.moved_pin.ensures ∙ ap (moved c.args.to by) here)
    ∙ sym (renumbered_more c.args.to by parts text (kept p) k (there p _ k same c.loop-pin-test.true) stand)

pub followed_by-left-requires : goal.followed_by-left-requires
followed_by-left-requires g c =
    let parts = g.R.Rule.parts c.args.page.now.rule.now in
    let text = c.args.page.now.text.now in
    let by : ℤ = to_z w32 (of_z w32 c.args.by) in
    let p = c.args.pins.now in
    let k = c.loop-pin.pin-index in
    let few = few_renumbered c.args.to by parts text (kept p) k in
    let rise = rising_renumbered c.args.to by parts text (kept p) p.size (k + 1) (T_true _ p.ordered) in
    let most = length-take p.count p.entries in
    let few_kept = p.few in
    let lt = there p _ k c.as_slice-pin-items.ensures c.loop-pin-test.true in (
      omega (arith, few, ap length c.loop-pin.invariant.0, most, few_kept, lt),
      ap (λ n. rising n (kept c.loop-pin.left ++ c.moved_pin.result ∷ [])) c.loop-pin.invariant.1 ∙ ap (rising p.size) (more g c) ∙ rise,
    )

pub loop-pin-preserved : goal.loop-pin-preserved
loop-pin-preserved g c =
    let parts = g.R.Rule.parts c.args.page.now.rule.now in
    let text = c.args.page.now.text.now in
    let by : ℤ = to_z w32 (of_z w32 c.args.by) in
    let p = c.args.pins.now in
    let k = c.loop-pin.pin-index in
    let same = c.as_slice-pin-items.ensures in
    let here = is p _ k same c.loop-pin-test.true in
    let lt = there p _ k same c.loop-pin-test.true in
    let low = (inside p _ k same c.loop-pin-test.true).1 in
    let size = c.requires in
    let stands-is = standing_at parts text (kept p) k _ here (omega arith) ∙ sym c.is_wall.ensures.value in
    elim c.if-is_wall.branch [
      | then-is_wall w ↦
          let up = renumbered_more c.args.to by parts text (kept p) k lt (stands-is ∙ w.if-is_wall.true) in (
            ap kept w.left-is ∙ w.followed_by-left.ensures.value
                ∙ ap (λ (l : List Pin). l ++ w.moved_pin.result ∷ []) c.loop-pin.invariant.0
                ∙ ap (λ (q : Pin). renumbered parts text c.args.to by (take k (kept p)) ++ q ∷ []) (w.moved_pin.ensures ∙ ap (moved c.args.to by) here)
                ∙ sym up,
            ap (λ q. q.size) w.left-is ∙ w.followed_by-left.ensures.size ∙ c.loop-pin.invariant.1,
          )
      | else-is_wall w ↦
          let up = renumbered_same c.args.to by parts text (kept p) k lt (stands-is ∙ w.if-is_wall.false) in
          (ap kept w.left-is ∙ c.loop-pin.invariant.0 ∙ sym up, ap (λ q. q.size) w.left-is ∙ c.loop-pin.invariant.1)
    ]
