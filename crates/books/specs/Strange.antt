-- What a book answers of any text as long as its own, even of one that it was not opened on: its answers stay within that
-- text. Refusals of the length handed in and of the place are the same whatever the text holds.
use Rattle.std.specs.Prelude.{◌≡◌, ℕ, ◌<◌, ◌≤◌, Bool, false, ◌⊎◌, ◌≢◌}
use Rattle.refusals.specs.declared.Refusal.{Refusal}
use Rattle.refusals.specs.declared.Refusal.TheVariants.{PlaceOutside, NumberOutside, OtherLength, PinsFull, NoPin}
use Rattle.rules.specs.declared.runs.Run.{Run}
use Rattle.rules.specs.declared.runs.Span.{Span}
use Rattle.pins.specs.declared.pin.Pin.{Pin}

-- a run over a place of a text of so many bytes; its number is no more than the bytes before it
pub record RunWithin (size place : ℕ) (r : Run) : Type 0 where
  pub few : r.number ≤ r.start
  pub low : r.start ≤ place
  pub high : place < r.end
  pub within : r.end ≤ size

-- a run of such a text
pub record SpanWithin (size : ℕ) (s : Span) : Type 0 where
  pub some : s.start < s.end
  pub within : s.end ≤ size

-- a place of such a text, with no more runs before it than bytes
pub record PinWithin (size : ℕ) (q : Pin) : Type 0 where
  pub few : q.number ≤ q.place
  pub within : q.place < size

-- the text handed in is not as long as the book's
abbrev pub LengthRefused : ℕ → ℕ → Refusal → Type 0
LengthRefused size handed e = (handed ≢ size) × (e ≡ OtherLength handed)

-- that, or the place is not inside it
abbrev pub PlaceRefused : ℕ → ℕ → ℕ → Refusal → Type 0
PlaceRefused size handed place e = LengthRefused size handed e ⊎ ((handed ≡ size) × (handed ≤ place) × (e ≡ PlaceOutside place))

-- the length, or there is no run of that number
abbrev pub NumberRefused : ℕ → ℕ → ℕ → Refusal → Type 0
NumberRefused size handed number e = LengthRefused size handed e ⊎ ((handed ≡ size) × (e ≡ NumberOutside number))

-- the length, or there are no more pins than k
abbrev pub ReadRefused : ℕ → ℕ → ℕ → ℕ → Refusal → Type 0
ReadRefused size handed k count e = LengthRefused size handed e ⊎ ((handed ≡ size) × (count ≤ k) × (e ≡ NumberOutside k))

-- the refusals of pin: of the length or the place, or, of a wall that is not kept, that 64 others are
abbrev pub PinRefused : ℕ → ℕ → ℕ → Bool → ℕ → Refusal → Type 0
PinRefused size handed place is-kept count e =
    PlaceRefused size handed place e ⊎ ((handed ≡ size) × (place < handed) × (is-kept ≡ false) × (count ≡ 64) × (e ≡ PinsFull))

-- the refusals of unpin: of the length or the place, or that no pin is there
abbrev pub UnpinRefused : ℕ → ℕ → ℕ → Bool → Refusal → Type 0
UnpinRefused size handed place is-kept e =
    PlaceRefused size handed place e ⊎ ((handed ≡ size) × (place < handed) × (is-kept ≡ false) × (e ≡ NoPin place))
