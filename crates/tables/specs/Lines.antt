-- The line in which an accepted table is told.
use Rattle.std.specs.Prelude.{ℕ, List, ◌++◌, codes, decimal}
use Rattle.tables.specs.declared.verdict.Summary.{Summary}

abbrev pub summary_line : Summary → List ℕ
summary_line s = codes "states " ++ (decimal s.states ++ (codes " classes " ++ (decimal s.classes ++ (codes " sure " ++ decimal s.sure))))
