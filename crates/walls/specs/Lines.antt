-- The lines that are written.
use Rattle.std.specs.Prelude.{ℕ, List, ◌∷◌, ◌++◌, decimal}
use Rattle.std.specs.List.{flat_map}

-- a word, and some places, each after a blank
abbrev pub places_line : List ℕ → List ℕ → List ℕ
places_line word places = word ++ flat_map (λ place. 32 ∷ decimal place) places
