-- Lists of pins in the order of their places.
use Rattle.std.specs.Prelude.{◌≡◌, ℕ, ◌<◌, ◌≤◌, Bool, true, cond, ◌&&◌, List, [], ◌∷◌, length, Some, None, Option, Result, MatchResult, ◌==◌, nat_le, nat_lt, slice_index_or}
use Rattle.pins.specs.declared.pin.Pin.{Pin}

-- a pin is not above a place; its number is not above a number
abbrev pub up_to : ℕ → Pin → Bool
up_to place q = nat_le q.place place

abbrev pub numbered_up_to : ℕ → Pin → Bool
numbered_up_to number q = nat_le q.number number

-- the first of the pins, if there is one, lies above a place
abbrev pub above : ℕ → List Pin → Bool
above place [] = true
above place (q ∷ qs) = nat_lt place q.place

-- the pins of a text of so many bytes: places lie inside it and rise, so that no two are the same, and no number passes
-- its place
abbrev pub rising : ℕ → List Pin → Bool
rising size [] = true
rising size (q ∷ qs) = nat_le q.number q.place && (nat_lt q.place size && (above q.place qs && rising size qs))

-- a pin put in by its place; one that is there already stays
abbrev pub insert : Pin → List Pin → List Pin
insert p [] = p ∷ []
insert p (q ∷ qs) =
    cond (nat_lt q.place p.place) (q ∷ insert p qs) (cond (q.place == p.place) (q ∷ qs) (p ∷ q ∷ qs))

-- what is left without the pin at a place
abbrev pub without : ℕ → List Pin → List Pin
without place [] = []
without place (q ∷ qs) = cond (q.place == place) qs (q ∷ without place qs)

-- the pin at a place
abbrev pub pin_at : ℕ → List Pin → Option Pin
pin_at place [] = None
pin_at place (q ∷ qs) = cond (q.place == place) (Some q) (pin_at place qs)

-- the last pin that passes a test
abbrev pub or_else : Option Pin → Option Pin → Option Pin
or_else None r = r
or_else (Some p) r = Some p

abbrev pub last_by : (Pin → Bool) → List Pin → Option Pin
last_by test [] = None
last_by test (q ∷ qs) = or_else (last_by test qs) (cond (test q) (Some q) None)

-- a pin at 0, as what is read of an array past its end
abbrev pub nought : Pin
nought = record { place = 0; number = 0 }

-- a pin of a text of so many bytes lies inside it, and its number does not pass its place
abbrev pub IsInside : ℕ → Pin → Type 0
IsInside size p = (p.number ≤ p.place) × (p.place < size)

-- the index of the pin at a place, or else the index between the pins below the place and those above it
abbrev pub IsSpot : ℕ → List Pin → Result ℕ ℕ → Type 0
IsSpot place qs r =
    MatchResult r (λ k. (k < length qs) × ((slice_index_or qs k nought).place ≡ place))
    (λ k. (k ≤ length qs)
    × ((i : ℕ) → i < k → (slice_index_or qs i nought).place < place)
    × ((i : ℕ) → k ≤ i → i < length qs → place < (slice_index_or qs i nought).place))
