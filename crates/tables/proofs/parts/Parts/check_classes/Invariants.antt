use Rattle.std.proofs.Common.{◌≡◌, ℕ, ◌<◌, true}
use Rattle.tables.specs.Classes.{entry, entry_sound}
use Rattle.tables.proofs.parts.Parts.check_classes.Given as goal

-- the counter is the byte value, and the values so far are sound
abbrev pub invariant-loop-entry : goal.invariant-loop-entry
invariant-loop-entry l = (l.value ≡ l.entry-index) × ((v : ℕ) → v < l.entry-index → entry_sound l.self.bytes.now (entry l.self.bytes.now v) ≡ true)
