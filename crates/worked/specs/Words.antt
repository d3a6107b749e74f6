-- The words in which the worked cases are told.
use Rattle.std.specs.Prelude.{◌≡◌, ℕ, zero, suc, ◌+◌, Bool, cond, List, [], ◌∷◌, ◌++◌, length, None, Err}
use Rattle.refusals.specs.declared.Direction.TheVariants.{Forward}
use Rattle.refusals.specs.declared.Refusal.{Refusal}
use Rattle.refusals.specs.declared.Report.{Report}
use Rattle.refusals.specs.Reports.{report_of}
use Rattle.rules.specs.Cutting.{cutting}
use Rattle.rules.specs.Answers.{wall_at}
use Rattle.tables.specs.Layout.{states, classes}
use Rattle.tables.specs.Verdicts.{Sound, SureCount, Refused}
use Rattle.tables.specs.Steady.{SteadyChecked}
use Rattle.tables.specs.Meaning.{bytes_of}
use Rattle.tables.specs.declared.table.Table.{Table}
use Rattle.breaks.specs.Chars.{Char}
use Rattle.breaks.specs.Meaning.{table_run, run_of, parts_of}
use Rattle.breaks.specs.declared.rule.TableRule.{TableRule}
use Rattle.books.specs.declared.call.Call.{Call}
use Rattle.books.specs.declared.call.Answer.{Answer}
use Rattle.books.specs.declared.call.Step.{Step}
use Rattle.books.specs.Plain.{opened, answers}

-- the places of a text at which walls stand, of n places from p on
unfoldable pub walls_from : (List ℕ → List ℕ → Bool) → List ℕ → ℕ → ℕ → List ℕ
walls_from parts text p zero = []
walls_from parts text p (suc n) = cond (wall_at parts text p) (p ∷ []) [] ++ walls_from parts text (suc p) n

-- the places of a text at which walls stand, from 0 rising
abbrev pub walls : (List ℕ → List ℕ → Bool) → List ℕ → List ℕ
walls parts text = walls_from parts text 0 (length text)

-- where some characters begin, the first of them at place p
unfoldable pub places_from : ℕ → List Char → List ℕ
places_from p [] = []
places_from p (u ∷ us) = p ∷ places_from (p + u.size) us

-- where the characters of a text begin
abbrev pub places : List Char → List ℕ
places us = places_from 0 us

-- the rule of an accepted table
abbrev pub rule_of : Table → TableRule
rule_of t = record { table = t }

-- a table is accepted; how many states, classes and sure pairs it has
pub record Accepted (b : List ℕ) (state-total class-total sure-total : ℕ) : Type 0 where
  pub is_sound : Sound b
  pub states_are : states b Forward ≡ state-total
  pub classes_are : classes b ≡ class-total
  pub sure_are : SureCount b sure-total

-- a table is refused, and what is reported
pub record Refuses (b : List ℕ) (refusal : Refusal) (report : Report) : Type 0 where
  pub is_refused : Refused b refusal
  pub is_reported : report_of refusal ≡ report

-- a table is told unsteady: what the steady check answers, and what is reported
pub record ToldUnsteady (b : List ℕ) (refusal : Refusal) (report : Report) : Type 0 where
  pub is_answered : SteadyChecked {V = Unit {0}} b (Err refusal)
  pub is_reported : report_of refusal ≡ report

-- what a table makes of a text: the lengths of its runs, and the walls under every accepted table with these bytes
pub record Cuts (b text runs wall-places : List ℕ) : Type 0 where
  pub runs_are : cutting (table_run b) text ≡ runs
  pub walls_are : (t : Table) → bytes_of t ≡ b → walls (parts_of (rule_of t)) text ≡ wall-places

-- a call that is handed the book's text
abbrev pub step : Call → Step
step call = record { call = call; handed = None }

-- what a book of a text answers to some calls, one after another, under every accepted table with these bytes
abbrev pub BookAnswers : (b text : List ℕ) → List Step → List Answer → Type 0
BookAnswers b text steps said =
    (t : Table) → bytes_of t ≡ b → answers (run_of (rule_of t)) (parts_of (rule_of t)) (opened text) steps ≡ said
