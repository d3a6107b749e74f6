-- The machine of a state table.
use Rattle.std.specs.Prelude.{◌≡◌, ℕ, ◌<◌, List, length, slice_index}
use Rattle.automata.specs.Machine.{code_at}
use Rattle.automata.specs.declared.state_table.StateTable.{StateTable}

-- the code of each state and class
abbrev pub code_of : StateTable → ℕ → ℕ → ℕ
code_of t = code_at t.codes.now t.classes

-- the codes of one state, of classes below C
abbrev pub IsRow : (ℕ → ℕ) → ℕ → List ℕ → Type 0
IsRow code C row = (length row ≡ C) × ((c : ℕ) → c < C → slice_index row c ≡ code c)
