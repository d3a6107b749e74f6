-- What a row of classes reaches.
use Rattle.std.specs.Prelude.{◌≡◌, ℕ, ◌<◌, Bool, true, List, [], ◌∷◌, ◌≢◌}
use Rattle.automata.specs.Machine.{next}
use Rattle.automata.specs.Sets.{Has}

-- a code goes on: it does not exit and, where only quiet codes are asked for, does not mark
abbrev pub Goes : Bool → ℕ → Type 0
Goes quiet x = (next x ≢ 0) × (quiet ≡ true → x < 128)

-- the row, of classes below C, leads from state s to state r by codes that go on
abbrev pub Runs : Bool → (ℕ → ℕ → ℕ) → ℕ → ℕ → List ℕ → ℕ → Type 0
Runs quiet code C s [] r = s ≡ r
Runs quiet code C s (c ∷ cs) r = (c < C) × Goes quiet (code s c) × Runs quiet code C (next (code s c)) cs r

-- some row leads from state s to state r
abbrev pub Leads : Bool → (ℕ → ℕ → ℕ) → ℕ → ℕ → ℕ → Type 0
Leads quiet code C s r = (row : List ℕ) × Runs quiet code C s row r

-- some row leads from a state of the set to state r
abbrev pub From : Bool → (ℕ → ℕ → ℕ) → ℕ → ℕ → ℕ → Type 0
From quiet code C set r = (s : ℕ) × Has set s × Leads quiet code C s r

-- one code leads from state s to state r
abbrev pub Step : Bool → (ℕ → ℕ → ℕ) → ℕ → ℕ → ℕ → Type 0
Step quiet code C s r = (c : ℕ) × (c < C) × Goes quiet (code s c) × (next (code s c) ≡ r)
