-- Find: the run over a place, taken from a mark to which a backward scan leads.
use Rattle.std.specs.Prelude.{ℕ, ◌+◌, ◌-◌, cond, List, [], ◌∷◌, reverse, drop, Some, None, Option, ◌==◌, nat_lt}
use Rattle.refusals.specs.declared.Direction.TheVariants.{Backward}
use Rattle.automata.specs.Machine.{Ending, runs_out, exits_by, scanned}
use Rattle.rules.specs.declared.runs.Span.{Span}
use Rattle.rules.specs.Runs.{over_from, span_of}
use Rattle.tables.specs.Layout.{machine, backup}
use Rattle.breaks.specs.Chars.{Char, span, row_of}
use Rattle.breaks.specs.Meaning.{characters, table_run}

-- those of some characters that start below a place
abbrev pub starting_below : ℕ → List Char → List Char
starting_below place [] = []
starting_below place (u ∷ us) = cond (place == 0) [] (u ∷ starting_below (place - u.size) us)

-- the characters that a backward scan reads: the one that covers the place, then those before it, towards the text's start
abbrev pub backward_from : List ℕ → List ℕ → ℕ → List Char
backward_from b text place = reverse (starting_below (place + 1) (characters b text))

-- the place of a mark: where the marked character starts, which is past all those read after it; 0 where there is none
abbrev pub mark_place : List Char → Option ℕ → ℕ
mark_place back None = 0
mark_place back (Some i) = span (drop (i + 1) back)

-- where a backward scan leads: to its mark on exit, and to 0 where the text runs out
abbrev pub leads_to : List Char → Ending → ℕ
leads_to back runs_out = 0
leads_to back (exits_by s c mark) = mark_place back mark

-- where the backward scan from a place leads
abbrev pub scan_leads : List ℕ → List Char → ℕ
scan_leads b back = leads_to back (scanned (machine b Backward) (row_of back))

-- where find begins: at 0 for a place below doBackup, and else where the backward scan leads
abbrev pub begin : List ℕ → List ℕ → ℕ → ℕ
begin b text place = cond (nat_lt place (backup b)) 0 (scan_leads b (backward_from b text place))

-- what find answers: the run over the place, where runs are taken from its beginning on
abbrev pub found : List ℕ → List ℕ → ℕ → Span
found b text place = span_of (over_from (table_run b) text (begin b text place) place)
