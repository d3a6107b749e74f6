use Rattle.std.proofs.Common.{◌≡◌, take}
use Rattle.pins.specs.Kept.{kept}
use Rattle.books.specs.Moves.{renumbered}
use Rattle.books.proofs.book.judge.renumber.Given as goal

-- the first pins are done
abbrev pub invariant-loop-pin : goal.invariant-loop-pin
invariant-loop-pin g l =
    (kept l.left ≡ renumbered (g.R.Rule.parts l.page.rule.now) l.page.text.now l.to l.by (take l.pin-index (kept l.pins)))
    × (l.left.size ≡ l.pins.size)
