-- The runs of a cutting, one by one. A cutting is the list of the lengths of its runs, which are numbered from 0.
use Rattle.std.specs.Prelude.{◌≡◌, ℕ, ◌+◌, ◌-◌, ◌<◌, cond, List, [], ◌∷◌, ◌++◌, length, take, drop, nat_le, codes, decimal}
use Rattle.rules.specs.Cutting.{cutting}
use Rattle.rules.specs.Walls.{total}
use Rattle.rules.specs.declared.runs.Run.{Run}
use Rattle.rules.specs.declared.runs.Span.{Span}

-- where run n starts and where it ends
abbrev pub starts_at : List ℕ → ℕ → ℕ
starts_at ks n = total (take n ks)

abbrev pub ends_at : List ℕ → ℕ → ℕ
ends_at ks n = total (take (n + 1) ks)

-- there is a run n, and it starts and ends there
pub record RunAt (ks : List ℕ) (n start end : ℕ) : Type 0 where
  pub there : n < length ks
  pub starts : start ≡ starts_at ks n
  pub ends : end ≡ ends_at ks n

-- the number of the run over the byte at a place: how many runs end at or before that place
abbrev pub number_over : ℕ → List ℕ → ℕ
number_over place [] = 0
number_over place (k ∷ ks) = cond (nat_le k place) (1 + number_over (place - k) ks) 0

-- run n of a cutting that begins at a place
abbrev pub nth_from : ℕ → List ℕ → ℕ → Run
nth_from from ks n = record { number = n; start = from + starts_at ks n; end = from + ends_at ks n }

-- the runs of these lengths, numbered on from a number, the first of which starts at a place
abbrev pub runs_of : ℕ → ℕ → List ℕ → List Run
runs_of number start [] = []
runs_of number start (k ∷ ks) = record { number = number; start = start; end = start + k } ∷ runs_of (number + 1) (start + k) ks

-- the run over the byte at a place, in a text cut from `from` on: as many runs are taken as end at or before the place
abbrev pub over_from : (List ℕ → ℕ) → List ℕ → ℕ → ℕ → Run
over_from run text from place =
    nth_from from (cutting run (drop from text)) (number_over (place - from) (cutting run (drop from text)))

-- the run over the byte at a place of a cutting
abbrev pub run_over_byte : List ℕ → ℕ → Run
run_over_byte ks place = nth_from 0 ks (number_over place ks)

-- where a run starts and ends
abbrev pub span_of : Run → Span
span_of r = record { start = r.start; end = r.end }

-- the lines in which a span and a run are printed
abbrev pub span_line : Span → List ℕ
span_line s = codes "start " ++ (decimal s.start ++ (codes " end " ++ decimal s.end))

abbrev pub run_line : Run → List ℕ
run_line r = codes "run " ++ (decimal r.number ++ (codes " " ++ span_line (span_of r)))
