-- The cut file: for each run, start and end as two bytes each, high byte first.
use Rattle.std.specs.Prelude.{ℕ, ◌+◌, ◌*◌, ◌/◌, ◌%◌, cond, List, [], ◌∷◌, ◌++◌, length, drop, Ok, Err, Result, nat_lt}
use Rattle.refusals.specs.declared.Refusal.{Refusal}
use Rattle.refusals.specs.declared.Refusal.TheVariants.{BufferTooShort}
use Rattle.rules.specs.Cutting.{cutting}
use Rattle.rules.specs.Answers.{about}

-- the record of a run
abbrev pub record_of : ℕ → ℕ → List ℕ
record_of start end = start / 256 ∷ start % 256 ∷ end / 256 ∷ end % 256 ∷ []

-- the records of runs of these lengths, the first of which starts at a place
abbrev pub records : ℕ → List ℕ → List ℕ
records place [] = []
records place (k ∷ ks) = record_of place (place + k) ++ records (place + k) ks

abbrev pub cut_file : (List ℕ → ℕ) → List ℕ → List ℕ
cut_file run text = records 0 (cutting run text)

-- how many bytes it has
abbrev pub file_size : (List ℕ → ℕ) → List ℕ → ℕ
file_size run text = 4 * length (cutting run text)

-- whether a buffer of so many bytes has room for it
abbrev pub room_for : (List ℕ → ℕ) → List ℕ → ℕ → Result (Unit {0}) Refusal
room_for run text size = cond (nat_lt size (file_size run text)) (Err (BufferTooShort (file_size run text))) (Ok tt)

-- what writing it answers, into a buffer of so many bytes: how many bytes were written
abbrev pub written : (List ℕ → ℕ) → List ℕ → ℕ → Result ℕ Refusal
written run text size =
    about text (cond (nat_lt size (file_size run text)) (Err (BufferTooShort (file_size run text))) (Ok (file_size run text)))

-- a buffer that begins with these bytes, and is as it was past them
abbrev pub over : List ℕ → List ℕ → List ℕ
over bytes buffer = bytes ++ drop (length bytes) buffer
