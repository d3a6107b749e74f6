-- The rules that stand on no other.
use Rattle.std.specs.Prelude.{ℕ, Bool, List}
use Rattle.rules.specs.Lines.{line_run, line_parts}
use Rattle.breaks.specs.Meaning.{run_of, parts_of}
use Rattle.requests.specs.declared.base.Base.{Base}
use Rattle.requests.specs.declared.base.Base.TheVariants.{Table, Line}

abbrev pub base_run : Base → List ℕ → ℕ
base_run (Table rule) = run_of rule
base_run (Line rule) = line_run

abbrev pub base_parts : Base → List ℕ → List ℕ → Bool
base_parts (Table rule) = parts_of rule
base_parts (Line rule) = line_parts
