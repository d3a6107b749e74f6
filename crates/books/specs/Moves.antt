-- What a written byte does to the pins: those that are walls of the new text stay, and those at or after the window's end
-- move in number by the difference.
use Rattle.std.specs.Prelude.{◌≡◌, ℕ, min, Bool, cond, List, map, ℤ, pos, negsuc, ◌+ℤ◌, neg_ℤ, filter, nat_lt}
use Rattle.rules.specs.Cutting.{cutting}
use Rattle.pins.specs.declared.pin.Pin.{Pin}
use Rattle.windows.specs.Windows.{gained, window_begin, window_end, IsWindow, SameOutside}
use Rattle.books.specs.declared.call.Change.{Change}
use Rattle.books.specs.Plain.{stands}

-- a number held between 0 and a place; with a text that is the book's own this changes no number
abbrev pub held : ℕ → ℤ → ℕ
held place (pos n) = min n place
held place (negsuc n) = 0

abbrev pub moved : ℕ → ℤ → Pin → Pin
moved to by q = cond (nat_lt q.place to) q (record { place = q.place; number = held q.place (pos q.number +ℤ by) })

abbrev pub standing : (List ℕ → List ℕ → Bool) → List ℕ → List Pin → List Pin
standing parts text qs = filter (λ (q : Pin). stands parts text q.place) qs

abbrev pub renumbered : (List ℕ → List ℕ → Bool) → List ℕ → ℕ → ℤ → List Pin → List Pin
renumbered parts text to by qs = map (moved to by) (standing parts text qs)

-- what is answered of a written byte: the window is bounded by the nearest walls of both texts, and outside it the runs of
-- both texts are the same, but for numbers after it, which move by the difference; when the byte goes back, the window is
-- the same and the difference is negated
pub record Upset (run : List ℕ → ℕ) (parts : List ℕ → List ℕ → Bool) (old new : List ℕ) (place : ℕ) (c : Change) : Type 0 where
  pub is_window : IsWindow parts old new place c.from c.to
  pub same_outside : SameOutside (cutting run old) (cutting run new) c.from c.to c.difference
  pub same_window_back : (window_begin parts new old place ≡ c.from) × (window_end parts new old place ≡ c.to)
  pub negated_back : gained run new old ≡ neg_ℤ c.difference
