-- What is promised of a list of steps that is carried out on a book.
use Rattle.std.specs.Prelude.{◌≡◌, ℕ, ◌<◌, ◌≤◌, Bool, List, [], ◌∷◌, length, Ok, slice_set}
use Rattle.std.specs.List.{AllByRecursion}
use Rattle.refusals.specs.declared.Refusal.TheVariants.{TextTooLong}
use Rattle.pins.specs.declared.pin.Pin.{Pin}
use Rattle.rules.specs.Answers.{about_place}
use Rattle.rules.specs.Runs.{span_of}
use Rattle.rules.specs.declared.runs.Run.{Run}
use Rattle.tables.specs.Meaning.{bytes_of}
use Rattle.tables.specs.Steady.{Steady}
use Rattle.breaks.specs.Meaning.{run_of}
use Rattle.breaks.specs.declared.rule.TableRule.{TableRule}
use Rattle.finds.specs.Finds.{found}
use Rattle.books.specs.declared.book.Book.{Book}
use Rattle.books.specs.declared.call.Call.{Call}
use Rattle.books.specs.declared.call.Call.TheVariants.{Look, Fetch, Read, Pin as PinAt, Unpin, Try, Put}
use Rattle.books.specs.declared.call.Answer.{Answer}
use Rattle.books.specs.declared.call.Change.{Change}
use Rattle.books.specs.declared.call.Step.{Step}
use Rattle.books.specs.declared.call.Halt.{Halt}
use Rattle.books.specs.declared.call.Halt.TheVariants.{Refused, NoMemory}
use Rattle.books.specs.Plain.{Plain, look_answer, put_answer, answer, after, handed_at, answers, final}
use Rattle.books.specs.Faithful.{Follows, TruePin, places_of}
use Rattle.books.specs.Moves.{Upset}

-- one call on a book that is faithful to its text: it answers as the plain book does, and stays faithful
pub record Stepped {R : Type 0} (run : List ℕ → ℕ) (parts : List ℕ → List ℕ → Bool) (plain : Plain) (handed : ℕ) (call : Call) (r : Answer) (left : Book R) (text : List ℕ) : Type 0 where
  pub answers_it : r ≡ answer run parts plain handed call
  pub follows : Follows run parts left text (after run parts plain handed call)

-- a list of steps on such a book: the answers are the plain book's, and the book at the end is what the plain book is
pub record CarriedOut {R : Type 0} (run : List ℕ → ℕ) (parts : List ℕ → List ℕ → Bool) (plain : Plain) (steps : List Step) (said : List Answer) (left : Book R) (text : List ℕ) : Type 0 where
  pub answers_are : said ≡ answers run parts plain steps
  pub follows : Follows run parts left text (final run parts plain steps)

-- an answered put upsets nothing outside its window
abbrev pub PutUpsets : (List ℕ → ℕ) → (List ℕ → List ℕ → Bool) → Plain → ℕ → Call → Type 0
PutUpsets run parts b handed (Put place byte) =
    (c : Change) → put_answer run parts b handed place byte ≡ Ok c → Upset run parts b.bytes (slice_set b.bytes place byte) place c
PutUpsets run parts b handed (Look place) = Unit {0}
PutUpsets run parts b handed (Fetch number) = Unit {0}
PutUpsets run parts b handed (Read k) = Unit {0}
PutUpsets run parts b handed (PinAt place) = Unit {0}
PutUpsets run parts b handed (Unpin place) = Unit {0}
PutUpsets run parts b handed (Try place byte) = Unit {0}

-- the same of each answered put in a list of steps
abbrev pub EachPutUpsets : (List ℕ → ℕ) → (List ℕ → List ℕ → Bool) → Plain → List Step → Type 0
EachPutUpsets run parts b [] = Unit {0}
EachPutUpsets run parts b (s ∷ ss) =
    PutUpsets run parts b (handed_at b s) s.call × EachPutUpsets run parts (after run parts b (handed_at b s) s.call) ss

-- the pins are the plain book's places, each a wall of the text with its true number
pub record TruePins (run : List ℕ → ℕ) (parts : List ℕ → List ℕ → Bool) (text places : List ℕ) (pins : List Pin) : Type 0 where
  pub at_its_places : places_of pins ≡ places
  pub are_true : AllByRecursion (TruePin run parts text) pins

-- nothing was begun: the text is too long, or there is no memory for the answers
abbrev pub Halted : List ℕ → Halt → Type 0
Halted text (Refused e) = (16383 < length text) × (e ≡ TextTooLong (length text))
Halted text NoMemory = length text ≤ 16383

-- find gives what look gives: for every steady table whose runs are the rule's, and every place at which look answers, find
-- answers the start and end of that run
abbrev pub FindAsLook : (List ℕ → ℕ) → Plain → Type 0
FindAsLook run b =
    (t : TableRule) → Steady (bytes_of t.table) → ((xs : List ℕ) → 1 ≤ length xs → run_of t xs ≡ run xs)
    → (place : ℕ) (r : Run) → look_answer run b (length b.bytes) place ≡ Ok r
    → about_place b.bytes place (found (bytes_of t.table) b.bytes place) ≡ Ok (span_of r)
