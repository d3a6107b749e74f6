-- What it is to cut a page by the bytes of a table.
use Rattle.std.specs.Prelude.{◌≡◌, ℕ, cond, ◌⊎◌, List, length, is_ok, Err, Result}
use Rattle.refusals.specs.declared.Refusal.{Refusal}
use Rattle.rules.specs.CutFiles.{cut_file, written, over}
use Rattle.tables.specs.Verdicts.{Sound, Refused}
use Rattle.breaks.specs.Meaning.{table_run}

-- the table is sound, and the buffer has the cut file of the text, or is as it was where that is refused
pub record CutSo (b text old : List ℕ) (r : Result ℕ Refusal) (new : List ℕ) : Type 0 where
  pub is_sound : Sound b
  pub answer : r ≡ written (table_run b) text (length old)
  pub bytes : new ≡ cond (is_ok r) (over (cut_file (table_run b) text) old) old

-- the table is not sound, its first fault is told, and the buffer is as it was
pub record TurnedAway (b old : List ℕ) (r : Result ℕ Refusal) (new : List ℕ) : Type 0 where
  pub fault : Refusal
  pub is_refused : Refused b fault
  pub answer : r ≡ Err fault
  pub bytes : new ≡ old

abbrev pub PageCut : List ℕ → List ℕ → List ℕ → Result ℕ Refusal → List ℕ → Type 0
PageCut b text old r new = CutSo b text old r new ⊎ TurnedAway b old r new
