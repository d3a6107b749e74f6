-- What a steady check looks for, at its table, its sure pairs and the states that are reached.
use Rattle.std.specs.Prelude.{ℕ, Bool}
use Rattle.automata.specs.Sure.{holds}
use Rattle.automata.specs.Steady.{UnsureNow}
use Rattle.automata.specs.Unsure.{Enters, UnsureAt, Spoils, SpoilsTo, Spoilt, Shaky, ShakyBy}
use Rattle.automata.specs.Parts.{code_of}
use Rattle.automata.specs.declared.state_table.steady.SteadyCheck.{SteadyCheck}

-- whether a pair of classes is sure
abbrev pub sure_of : SteadyCheck → ℕ → ℕ → Bool
sure_of check = holds check.sure.now.rows

abbrev pub EntersIn : SteadyCheck → ℕ → ℕ → ℕ → Type 0
EntersIn check = Enters (code_of check.table) check.table.classes (sure_of check)

abbrev pub UnsureAtIn : SteadyCheck → ℕ → ℕ → Type 0
UnsureAtIn check = UnsureAt (code_of check.table) check.table.states check.table.classes (sure_of check) check.reached.bits

abbrev pub UnsureNowIn : SteadyCheck → ℕ → Type 0
UnsureNowIn check = UnsureNow (sure_of check) check.table.classes

abbrev pub SpoilsIn : SteadyCheck → ℕ → ℕ → Type 0
SpoilsIn check = Spoils (code_of check.table) check.table.states check.table.classes (sure_of check) check.reached.bits

abbrev pub SpoilsToIn : SteadyCheck → ℕ → ℕ → Type 0
SpoilsToIn check = SpoilsTo (code_of check.table) check.table.states check.table.classes (sure_of check) check.reached.bits

abbrev pub SpoiltIn : SteadyCheck → ℕ → Type 0
SpoiltIn check = Spoilt (code_of check.table) check.table.states check.table.classes (sure_of check) check.reached.bits

abbrev pub ShakyIn : SteadyCheck → ℕ → ℕ → ℕ → Type 0
ShakyIn check = Shaky (code_of check.table) check.table.states check.table.classes (sure_of check) check.reached.bits

abbrev pub ShakyByIn : SteadyCheck → ℕ → ℕ → Type 0
ShakyByIn check = ShakyBy (code_of check.table) check.table.states check.table.classes (sure_of check) check.reached.bits
