-- Which tables are accepted, and what is told of the others.
use Rattle.std.specs.Prelude.{◌≡◌, ℕ, ◌<◌, ◌≤◌, Bool, false, ◌⊎◌, List, Some, Decides, Result, MatchResult}
use Rattle.refusals.specs.declared.Direction.TheVariants.{Forward}
use Rattle.refusals.specs.declared.Refusal.{Refusal}
use Rattle.refusals.specs.declared.Refusal.TheVariants.{NonAdvancing}
use Rattle.automata.specs.Machine.{Advances}
use Rattle.automata.specs.Stuck.{Stuck}
use Rattle.automata.specs.Sure.{Sure, holds, count_pairs}
use Rattle.tables.specs.Layout.{states, classes, machine, code_place}
use Rattle.tables.specs.Checks.{first_failed, Passes, checks}
use Rattle.tables.specs.Laid.{Laid}
use Rattle.tables.specs.declared.verdict.Judgement.{Judgement}
use Rattle.tables.specs.declared.verdict.Summary.{Summary}

-- by the forward code of index k some row of classes exits with no mark set after its first class
abbrev pub StuckAt : List ℕ → ℕ → Type 0
StuckAt b k = Stuck (machine b Forward) (classes b) k

-- the table is non-advancing, and the code of index k is the first by which that can happen
pub record StuckFirst (b : List ℕ) (k : ℕ) : Type 0 where
  pub there : StuckAt b k
  pub least : (j : ℕ) → StuckAt b j → k ≤ j

-- a sound table: it passes every check, and each run of every row of classes advances
pub record Sound (b : List ℕ) : Type 0 where
  pub passes : Passes (checks b)
  pub advances : Advances (machine b Forward) (classes b)

-- the refusal is that of the first check that fails, or, where all pass, of the first code that makes it non-advancing
abbrev pub Refused : List ℕ → Refusal → Type 0
Refused b e =
    (first_failed (checks b) ≡ Some e)
    ⊎ (Passes (checks b) × ((k : ℕ) × StuckFirst b k × (e ≡ NonAdvancing (code_place b Forward k))))

-- a test tells the sure pairs of classes
abbrev pub Tells : List ℕ → (ℕ → ℕ → Bool) → Type 0
Tells b test = (c d : ℕ) → c < classes b → d < classes b → Decides (test c d) (Sure (machine b Forward) (classes b) c d)

-- the bits of the sure pairs: bit (c, d) is set exactly where the pair of classes is sure by its definition over all rows
pub record SureBits (b : List ℕ) (rows : List ℕ) : Type 0 where
  pub bits : (c d : ℕ) → c < classes b → d < classes b → Decides (holds rows c d) (Sure (machine b Forward) (classes b) c d)
  pub none_first : (c d : ℕ) → classes b ≤ c → holds rows c d ≡ false
  pub none_second : (c d : ℕ) → classes b ≤ d → holds rows c d ≡ false

-- what is kept of a sound table is its own
pub record Judged (b : List ℕ) (j : Judgement) : Type 0 where
  pub is_sound : Sound b
  pub sure_bits : SureBits b j.sure.rows
  pub is_laid : Laid b j.layout

-- n is how many pairs of classes are sure: it is the count by any test that tells the sure pairs
abbrev pub SureCount : List ℕ → ℕ → Type 0
SureCount b n =
    (test : ℕ → ℕ → Bool)
    → ((c d : ℕ) → c < classes b → d < classes b → Decides (test c d) (Sure (machine b Forward) (classes b) c d))
    → n ≡ count_pairs test (classes b) (classes b)

-- what is told of an accepted table is its own
pub record Told (b : List ℕ) (s : Summary) : Type 0 where
  pub states_is : s.states ≡ states b Forward
  pub classes_is : s.classes ≡ classes b
  pub sure_is : SureCount b s.sure

abbrev pub Verdict : List ℕ → Result Summary Refusal → Type 0
Verdict b r = MatchResult r (λ s. Sound b × Told b s) (Refused b)
