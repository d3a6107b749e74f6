-- Where the code of a state and a class stands, and what it names.
use Rattle.std.proofs.Common.{ℕ, ◌-◌, ◌*◌, ◌<◌, ◌≤◌, length, arith}
use Rattle.std.proofs.lemmas.Nat.{mul-add-lt}
use Rattle.automata.specs.Machine.{index, next}
use Rattle.automata.specs.Parts.{code_of}
use Rattle.automata.specs.declared.state_table.StateTable.{StateTable}

index_below : (S C s c : ℕ) → 1 ≤ s → s < S → c < C → index C s c < (S - 1) * C
index_below S C s c lo hi lt = omega (arith, mul-add-lt (s - 1) C c (S - 1) (omega arith) lt)

pub index_within : (t : StateTable) (s c : ℕ) → 1 ≤ s → s < t.states → c < t.classes → index t.classes s c < length t.codes.now
index_within t s c lo hi lt = omega (arith, index_below t.states t.classes s c lo hi lt, t.size)

pub next_within : (t : StateTable) (s c : ℕ) → 1 ≤ s → s < t.states → c < t.classes → next (code_of t s c) < t.states
next_within t s c lo hi lt = t.named (index t.classes s c) (index_within t s c lo hi lt)
