-- The plain book: a book that keeps its bytes and a list of places, and cuts all its bytes anew for every call. A rule is
-- known by `run` and `parts`; a call is fed its numbers and the length of the text handed in.
use Rattle.std.specs.Prelude.{ℕ, Bool, true, false, cond, not, ◌&&◌, List, [], ◌∷◌, length, is_ok, Some, None, Ok, Err, filter, Option, Result, ◌==◌, nat_lt, slice_index, slice_set}
use Rattle.refusals.specs.declared.Refusal.{Refusal}
use Rattle.refusals.specs.declared.Refusal.TheVariants.{PlaceOutside, NumberOutside, OtherLength, PinsFull, NoPin}
use Rattle.rules.specs.Cutting.{cutting}
use Rattle.rules.specs.Answers.{wall_at}
use Rattle.rules.specs.Walls.{starts_below}
use Rattle.rules.specs.Runs.{starts_at, ends_at, run_over_byte}
use Rattle.rules.specs.declared.runs.Run.{Run}
use Rattle.rules.specs.declared.runs.Span.{Span}
use Rattle.pins.specs.declared.pin.Pin.{Pin}
use Rattle.windows.specs.Windows.{runs, gained, greatest, window_begin, window_end}
use Rattle.books.specs.declared.call.Call.{Call}
use Rattle.books.specs.declared.call.Call.TheVariants.{Look, Fetch, Read, Pin as PinAt, Unpin, Try, Put}
use Rattle.books.specs.declared.call.Answer.{Answer}
use Rattle.books.specs.declared.call.Answer.TheVariants.{Looked, Fetched, Told, Pinned, Unpinned, Tried, Written}
use Rattle.books.specs.declared.call.Change.{Change}
use Rattle.books.specs.declared.call.Step.{Step}

pub record Plain : Type 0 where
  pub bytes : List ℕ
  pub places : List ℕ

-- open gives it a text, and no places
abbrev pub opened : List ℕ → Plain
opened text = record { bytes = text; places = [] }

-- ---- places in rising order
abbrev pub is_in : ℕ → List ℕ → Bool
is_in p [] = false
is_in p (q ∷ qs) = cond (q == p) true (is_in p qs)

-- a place put in, where it is new
abbrev pub placed : ℕ → List ℕ → List ℕ
placed p [] = p ∷ []
placed p (q ∷ qs) = cond (nat_lt q p) (q ∷ placed p qs) (p ∷ q ∷ qs)

abbrev pub added : ℕ → List ℕ → List ℕ
added p qs = cond (is_in p qs) qs (placed p qs)

-- a place taken out
abbrev pub taken_out : ℕ → List ℕ → List ℕ
taken_out p [] = []
taken_out p (q ∷ qs) = cond (q == p) qs (q ∷ taken_out p qs)

-- ---- what is asked of a text
-- a wall stands at a place inside the text
abbrev pub stands : (List ℕ → List ℕ → Bool) → List ℕ → ℕ → Bool
stands parts text place = nat_lt place (length text) && wall_at parts text place

-- the greatest wall not above a place
abbrev pub nearest_wall : (List ℕ → List ℕ → Bool) → List ℕ → ℕ → ℕ
nearest_wall parts text place = greatest (wall_at parts text) place

-- the number at a place: how many runs start below it
abbrev pub number_at : (List ℕ → ℕ) → List ℕ → ℕ → ℕ
number_at run text place = starts_below place (cutting run text)

-- a place that is kept, with its number
abbrev pub pinned_at : (List ℕ → ℕ) → List ℕ → ℕ → Pin
pinned_at run text place = record { place = place; number = number_at run text place }

-- what writing a byte upsets: the window, the difference in runs of the whole texts, and how many places are walls no more
abbrev pub upset_by : (List ℕ → ℕ) → (List ℕ → List ℕ → Bool) → Plain → ℕ → ℕ → Change
upset_by run parts b place byte =
    record {
      from = window_begin parts b.bytes (slice_set b.bytes place byte) place;
      to = window_end parts b.bytes (slice_set b.bytes place byte) place;
      difference = gained run b.bytes (slice_set b.bytes place byte);
      dropped = length (filter (λ q. not (stands parts (slice_set b.bytes place byte) q)) b.places);
    }

-- ---- refusals, in their order
-- 12 first: the text handed in is as long as the book's
abbrev pub as_long : {V : Type 0} → ℕ → ℕ → Result V Refusal → Result V Refusal
as_long size handed r = cond (handed == size) r (Err (OtherLength handed))

-- then 10: the place is inside the text
abbrev pub inside : {V : Type 0} → ℕ → ℕ → ℕ → Result V Refusal → Result V Refusal
inside size handed place r = as_long size handed (cond (nat_lt place handed) r (Err (PlaceOutside place)))

-- ---- the seven calls
abbrev pub look_answer : (List ℕ → ℕ) → Plain → ℕ → ℕ → Result Run Refusal
look_answer run b handed place = inside (length b.bytes) handed place (Ok (run_over_byte (cutting run b.bytes) place))

abbrev pub fetch_answer : (List ℕ → ℕ) → Plain → ℕ → ℕ → Result Span Refusal
fetch_answer run b handed number =
    as_long (length b.bytes) handed (cond (nat_lt number (runs run b.bytes))
    (Ok (record { start = starts_at (cutting run b.bytes) number; end = ends_at (cutting run b.bytes) number }))
    (Err (NumberOutside number)))

abbrev pub read_answer : (List ℕ → ℕ) → Plain → ℕ → ℕ → Result Pin Refusal
read_answer run b handed k =
    as_long (length b.bytes) handed (cond (nat_lt k (length b.places))
    (Ok (pinned_at run b.bytes (slice_index b.places k)))
    (Err (NumberOutside k)))

-- a wall that is kept already is answered again; of others at most 64 are kept
abbrev pub pin_answer : (List ℕ → ℕ) → (List ℕ → List ℕ → Bool) → Plain → ℕ → ℕ → Result Pin Refusal
pin_answer run parts b handed place =
    inside (length b.bytes) handed place (cond (is_in (nearest_wall parts b.bytes place) b.places)
    (Ok (pinned_at run b.bytes (nearest_wall parts b.bytes place)))
    (cond (nat_lt (length b.places) 64) (Ok (pinned_at run b.bytes (nearest_wall parts b.bytes place))) (Err PinsFull)))

abbrev pub unpin_answer : (List ℕ → ℕ) → Plain → ℕ → ℕ → Result ℕ Refusal
unpin_answer run b handed place =
    inside (length b.bytes) handed place (cond (is_in place b.places) (Ok (number_at run b.bytes place)) (Err (NoPin place)))

-- put and try answer alike
abbrev pub put_answer : (List ℕ → ℕ) → (List ℕ → List ℕ → Bool) → Plain → ℕ → ℕ → ℕ → Result Change Refusal
put_answer run parts b handed place byte = inside (length b.bytes) handed place (Ok (upset_by run parts b place byte))

abbrev pub answer : (List ℕ → ℕ) → (List ℕ → List ℕ → Bool) → Plain → ℕ → Call → Answer
answer run parts b handed (Look place) = Looked (look_answer run b handed place)
answer run parts b handed (Fetch number) = Fetched (fetch_answer run b handed number)
answer run parts b handed (Read k) = Told (read_answer run b handed k)
answer run parts b handed (PinAt place) = Pinned (pin_answer run parts b handed place)
answer run parts b handed (Unpin place) = Unpinned (unpin_answer run b handed place)
answer run parts b handed (Try place byte) = Tried (put_answer run parts b handed place byte)
answer run parts b handed (Put place byte) = Written (put_answer run parts b handed place byte)

-- ---- what a call leaves
abbrev pub after_pin : (List ℕ → ℕ) → (List ℕ → List ℕ → Bool) → Plain → ℕ → ℕ → Plain
after_pin run parts b handed place =
    cond (is_ok (pin_answer run parts b handed place)) (record { bytes = b.bytes; places = added (nearest_wall parts b.bytes place) b.places }) b

abbrev pub after_unpin : (List ℕ → ℕ) → Plain → ℕ → ℕ → Plain
after_unpin run b handed place =
    cond (is_ok (unpin_answer run b handed place)) (record { bytes = b.bytes; places = taken_out place b.places }) b

abbrev pub after_put : (List ℕ → ℕ) → (List ℕ → List ℕ → Bool) → Plain → ℕ → ℕ → ℕ → Plain
after_put run parts b handed place byte =
    cond (is_ok (put_answer run parts b handed place byte))
    (record { bytes = slice_set b.bytes place byte; places = filter (stands parts (slice_set b.bytes place byte)) b.places }) b

-- look, fetch, read and try change nothing
abbrev pub after : (List ℕ → ℕ) → (List ℕ → List ℕ → Bool) → Plain → ℕ → Call → Plain
after run parts b handed (Look place) = b
after run parts b handed (Fetch number) = b
after run parts b handed (Read k) = b
after run parts b handed (PinAt place) = after_pin run parts b handed place
after run parts b handed (Unpin place) = after_unpin run b handed place
after run parts b handed (Try place byte) = b
after run parts b handed (Put place byte) = after_put run parts b handed place byte

-- ---- a list of steps
-- how long the text is that a step hands in
abbrev pub length_or : ℕ → Option ℕ → ℕ
length_or size None = size
length_or size (Some n) = n

abbrev pub handed_at : Plain → Step → ℕ
handed_at b s = length_or (length b.bytes) s.handed

abbrev pub answers : (List ℕ → ℕ) → (List ℕ → List ℕ → Bool) → Plain → List Step → List Answer
answers run parts b [] = []
answers run parts b (s ∷ ss) =
    answer run parts b (handed_at b s) s.call ∷ answers run parts (after run parts b (handed_at b s) s.call) ss

abbrev pub final : (List ℕ → ℕ) → (List ℕ → List ℕ → Bool) → Plain → List Step → Plain
final run parts b [] = b
final run parts b (s ∷ ss) = final run parts (after run parts b (handed_at b s) s.call) ss
