-- Piles: any layers over a rule, one over the other, the lowest first.
use Rattle.std.specs.Prelude.{ℕ, Bool, List, [], ◌∷◌}
use Rattle.std.specs.List.{list_any}
use Rattle.layers.specs.Layers.{joint_glues, tail_glues, layer_run, layer_parts}
use Rattle.layers.specs.declared.pile.Layer.{Layer}
use Rattle.layers.specs.declared.pile.Layer.TheVariants.{Joint, Tail}

-- what a layer glues, by the byte before a seam and the byte after it
abbrev pub glues_of : Layer → ℕ → ℕ → Bool
glues_of (Joint byte) = joint_glues byte
glues_of (Tail byte) = tail_glues byte

-- the first run under a pile: each layer stands on the rule that the layers below it make
abbrev pub pile_run : List Layer → (List ℕ → ℕ) → List ℕ → ℕ
pile_run [] run = run
pile_run (l ∷ ls) run = pile_run ls (layer_run (glues_of l) run)

-- the walls under a pile
abbrev pub pile_parts : List Layer → (List ℕ → List ℕ → Bool) → List ℕ → List ℕ → Bool
pile_parts [] parts = parts
pile_parts (l ∷ ls) parts = pile_parts ls (layer_parts (glues_of l) parts)

-- whether any layer glues
abbrev pub any_glues : List Layer → ℕ → ℕ → Bool
any_glues ls before after = list_any (λ l. glues_of l before after) ls
