-- The lines in which answers are printed.
use Rattle.std.specs.Prelude.{ℕ, cond, List, [], ◌++◌, codes, decimal, ℤ, pos, negsuc, Ok, Err, Result, ◌==◌}
use Rattle.std.specs.Fmt.{signed_decimal}
use Rattle.refusals.specs.declared.Refusal.{Refusal}
use Rattle.refusals.specs.Reports.{report_of, line_of}
use Rattle.rules.specs.Runs.{run_line, span_line}
use Rattle.pins.specs.Lines.{pin_line}
use Rattle.books.specs.declared.call.Change.{Change}
use Rattle.books.specs.declared.call.Answer.{Answer}
use Rattle.books.specs.declared.call.Answer.TheVariants.{Looked, Fetched, Told, Pinned, Unpinned, Tried, Written}

-- the sign of a difference above 0; nought has none
abbrev pub plus : ℤ → List ℕ
plus (pos n) = cond (n == 0) [] (codes "+")
plus (negsuc n) = []

abbrev pub change_line : Change → List ℕ
change_line c =
    codes "from " ++ (decimal c.from ++ (codes " to " ++ (decimal c.to ++ (codes " difference " ++ (plus c.difference ++ (signed_decimal c.difference ++ (codes " dropped " ++ decimal c.dropped)))))))

abbrev pub number_line : ℕ → List ℕ
number_line n = codes "number " ++ decimal n

-- what is answered, or the line of a refusal
abbrev pub told_line : {V : Type 0} → (V → List ℕ) → Result V Refusal → List ℕ
told_line line (Ok v) = line v
told_line line (Err e) = line_of (report_of e)

abbrev pub answer_line : Answer → List ℕ
answer_line (Looked r) = told_line run_line r
answer_line (Fetched r) = told_line span_line r
answer_line (Told r) = told_line pin_line r
answer_line (Pinned r) = told_line pin_line r
answer_line (Unpinned r) = told_line number_line r
answer_line (Tried r) = told_line change_line r
answer_line (Written r) = told_line change_line r
