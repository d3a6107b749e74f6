-- A book beside its text.
use Rattle.std.specs.Prelude.{◌≡◌, ℕ, Bool, true, cond, List, map, length}
use Rattle.std.specs.List.{AllByRecursion}
use Rattle.pins.specs.declared.pin.Pin.{Pin}
use Rattle.pins.specs.Kept.{kept}
use Rattle.pins.specs.Order.{insert}
use Rattle.books.specs.declared.book.Book.{Book}
use Rattle.books.specs.Plain.{Plain, is_in, stands, number_at}

abbrev pub places_of : List Pin → List ℕ
places_of qs = map (λ (q : Pin). q.place) qs

-- the plain book of a book and its text
abbrev pub plain_of : {R : Type 0} → Book R → List ℕ → Plain
plain_of b text = record { bytes = text; places = places_of (kept b.pins) }

-- a pin is a wall of the text, with its true number
pub record TruePin (run : List ℕ → ℕ) (parts : List ℕ → List ℕ → Bool) (text : List ℕ) (q : Pin) : Type 0 where
  pub is_wall : stands parts text q.place ≡ true
  pub is_numbered : q.number ≡ number_at run text q.place

-- a book is faithful to a text: the text is as long as the book's, and every pin is a true one
pub record Faithful {R : Type 0} (run : List ℕ → ℕ) (parts : List ℕ → List ℕ → Bool) (b : Book R) (text : List ℕ) : Type 0 where
  pub is_long : length text ≡ b.pins.size
  pub are_true : AllByRecursion (TruePin run parts text) (kept b.pins)

-- after a call the book is faithful to the text, and is what the plain book is
pub record Follows {R : Type 0} (run : List ℕ → ℕ) (parts : List ℕ → List ℕ → Bool) (b : Book R) (text : List ℕ) (plain : Plain) : Type 0 where
  pub stays_faithful : Faithful run parts b text
  pub is_plain : plain_of b text ≡ plain

-- the pins with one more, where its place is new
abbrev pub kept_with : Pin → List Pin → List Pin
kept_with q qs = cond (is_in q.place (places_of qs)) qs (insert q qs)
