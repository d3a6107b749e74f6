-- Steady tables: no row of classes, read backward, brings the backward scan to exit with an unsure last mark.
use Rattle.std.specs.Prelude.{◌≡◌, ℕ, ◌≤◌, Bool, List, Result, MatchResult}
use Rattle.refusals.specs.declared.Direction.TheVariants.{Backward}
use Rattle.refusals.specs.declared.Refusal.{Refusal}
use Rattle.refusals.specs.declared.Refusal.TheVariants.{Unsteady as refused_at}
use Rattle.automata.specs.Steady.{Unsteady}
use Rattle.tables.specs.Layout.{classes, machine, code_place}
use Rattle.tables.specs.Verdicts.{Tells}

-- by the backward code of index k some row of classes exits with an unsure last mark, by a test of the sure pairs
abbrev pub UnsteadyAt : List ℕ → (ℕ → ℕ → Bool) → ℕ → Type 0
UnsteadyAt b sure k = Unsteady (machine b Backward) (classes b) sure k

-- no code does so, by any test that tells the sure pairs
abbrev pub Steady : List ℕ → Type 0
Steady b = (sure : ℕ → ℕ → Bool) → Tells b sure → (k : ℕ) → UnsteadyAt b sure k → ⊥

-- the code of index k is the first that does so
abbrev pub UnsteadyFirst : List ℕ → ℕ → Type 0
UnsteadyFirst b k =
    (sure : ℕ → ℕ → Bool) → Tells b sure → UnsteadyAt b sure k × ((j : ℕ) → UnsteadyAt b sure j → k ≤ j)

-- the table is steady, or the place of the first such code is told
abbrev pub SteadyChecked : {V : Type 0} → List ℕ → Result V Refusal → Type 0
SteadyChecked b r =
    MatchResult r (λ _. Steady b) (λ e. (k : ℕ) × UnsteadyFirst b k × (e ≡ refused_at (code_place b Backward k)))
