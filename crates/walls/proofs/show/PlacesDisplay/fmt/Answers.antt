use Rattle.std.proofs.Common.{ℕ, ◌∷◌, List, ◌++◌, get_or, decimal, sym, ap, ◌∙◌, append_assoc, rules}
use Rattle.std.proofs.Output.{has_written_append}
use Rattle.std.proofs.lemmas.List.{at_drop_more}
use Rattle.std.specs.List.{flat_map}
use Rattle.walls.proofs.show.PlacesDisplay.fmt.Goals as goal

pub loop-place-preserved : goal.loop-place-preserved
loop-place-preserved g c = λ plain.
    let now = c.loop-place.invariant plain in
    let places = c.args.self.now.places.now in
    let i = c.loop-place.place-index in
    let word : List ℕ = 32 ∷ decimal (get_or places i 0) in (
      now.0 ++ word,
      has_written_append _ _ _ _ _ _ now.1 (search rules),
      append_assoc now.0 word _ ∙ ap (λ l. now.0 ++ l) (sym (at_drop_more (flat_map (λ place. 32 ∷ decimal place)) places i 0 (search rules))) ∙ now.2,
    )
