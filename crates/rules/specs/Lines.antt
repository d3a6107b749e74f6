-- The line rule: a run ends after a byte 13, or where the text ends.
use Rattle.std.specs.Prelude.{ℕ, suc, Bool, cond, List, [], ◌∷◌, ◌==◌}
use Rattle.rules.specs.Cutting.{last}

abbrev pub line_run : List ℕ → ℕ
line_run [] = 0
line_run (x ∷ xs) = cond (x == 13) 1 (suc (line_run xs))

-- a wall stands after each byte 13
abbrev pub line_parts : List ℕ → List ℕ → Bool
line_parts before after = last before == 13
