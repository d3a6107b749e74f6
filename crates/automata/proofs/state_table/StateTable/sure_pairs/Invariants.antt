use Rattle.std.proofs.Common.{◌≡◌, ℕ, ◌<◌, length, get_or}
use Rattle.automata.specs.Sure.{HaltsIn}
use Rattle.automata.specs.Parts.{code_of}
use Rattle.automata.proofs.Digits.{HasRow}
use Rattle.automata.proofs.state_table.StateTable.sure_pairs.Given as goal

abbrev pub invariant-loop-a : goal.invariant-loop-a
invariant-loop-a l =
    (length l.row-items ≡ 128)
    × ((a : ℕ) → a < l.a → HasRow (HaltsIn (code_of l.self) l.self.states l.reached.bits) l.self.classes a (get_or l.row-items a 0))
