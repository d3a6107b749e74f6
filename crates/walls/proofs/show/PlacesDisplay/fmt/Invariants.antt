use Rattle.std.proofs.Common.{◌≡◌, ℕ, ◌∷◌, List, ◌++◌, drop, decimal}
use Rattle.std.specs.Fmt.{HasWritten, IsPlainFormatter}
use Rattle.std.specs.List.{flat_map}
use Rattle.walls.specs.Lines.{places_line}
use Rattle.walls.proofs.show.PlacesDisplay.fmt.Given as goal

-- what is written, and the places that are left, are the line
abbrev pub invariant-loop-place : goal.invariant-loop-place
invariant-loop-place g l =
    IsPlainFormatter l.fn.f
    → (done : List ℕ) × HasWritten g.W.Write.write_str_gives l.fn.f done l.f
    × (done ++ flat_map (λ place. 32 ∷ decimal place) (drop l.place-index l.place-items) ≡ places_line l.fn.self.word.now l.fn.self.places.now)
