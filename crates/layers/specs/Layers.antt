-- Layers. A layer stands on a rule below. At each seam between two runs of the rule below it looks at the byte before and
-- at the byte after, and glues the two runs or leaves them apart.
use Rattle.std.specs.Prelude.{ℕ, zero, suc, ◌+◌, ◌-◌, Bool, cond, not, ◌&&◌, List, length, drop, ◌==◌, nat_lt, slice_index}
use Rattle.rules.specs.Cutting.{first, last}

-- a joint layer glues a run that ends with its byte to the next
abbrev pub joint_glues : ℕ → ℕ → ℕ → Bool
joint_glues byte before after = before == byte

-- a tail layer glues a run that starts with its byte to the one before
abbrev pub tail_glues : ℕ → ℕ → ℕ → Bool
tail_glues byte before after = after == byte

-- whether a seam lies behind the first k bytes of a text, and is glued
abbrev pub seam_glued : (ℕ → ℕ → Bool) → ℕ → List ℕ → Bool
seam_glued glues k xs = nat_lt k (length xs) && glues (slice_index xs (k - 1)) (slice_index xs k)

-- the first run of a layer, made of at most n runs below: the first run below and, where the seam behind it is glued, the
-- first run of the layer in what remains
unfoldable pub glued : (ℕ → ℕ → Bool) → (List ℕ → ℕ) → ℕ → List ℕ → ℕ
glued glues run zero xs = 0
glued glues run (suc n) xs = cond (seam_glued glues (run xs) xs) (run xs + glued glues run n (drop (run xs) xs)) (run xs)

-- the first run of a layer (a text has no more runs than bytes)
abbrev pub layer_run : (ℕ → ℕ → Bool) → (List ℕ → ℕ) → List ℕ → ℕ
layer_run glues run xs = glued glues run (length xs) xs

-- the walls of a layer: the walls below that are not glued
abbrev pub layer_parts : (ℕ → ℕ → Bool) → (List ℕ → List ℕ → Bool) → List ℕ → List ℕ → Bool
layer_parts glues parts before after = parts before after && not (glues (last before) (first after))
