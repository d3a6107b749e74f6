-- What each refusal tells: a number, a part and a place, and the line in which they are printed.
use Rattle.std.specs.Prelude.{ℕ, List, ◌++◌, codes, decimal}
use Rattle.refusals.specs.declared.Direction.{Direction}
use Rattle.refusals.specs.declared.Direction.TheVariants.{Forward, Backward}
use Rattle.refusals.specs.declared.Refusal.{Refusal}
use Rattle.refusals.specs.declared.Refusal.TheVariants.{TableTooShort, TableLength, TableFlags, OffsetOutside, ListWrong, ClassWrong, CodeWrong, NonAdvancing, Unsteady, TextTooLong, PlaceOutside, NumberOutside, OtherLength, BufferTooShort, PinsFull, NoPin}
use Rattle.refusals.specs.declared.Report.{Report}

-- parts: 0 header, 1 class table, 2 backward table, 3 forward table, 4 text or caller's number
abbrev pub part_of : Direction → ℕ
part_of Forward = 3
part_of Backward = 2

abbrev pub told : ℕ → ℕ → ℕ → Report
told number part place = record { number = number; part = part; place = place }

abbrev pub report_of : Refusal → Report
report_of TableTooShort = told 1 0 0
report_of TableLength = told 1 0 14
report_of TableFlags = told 2 0 0
report_of (OffsetOutside field) = told 3 0 field
report_of (ListWrong direction place) = told 4 (part_of direction) place
report_of (ClassWrong place) = told 5 1 place
report_of (CodeWrong direction place) = told 6 (part_of direction) place
report_of (NonAdvancing place) = told 7 3 place
report_of (Unsteady place) = told 8 2 place
report_of (TextTooLong size) = told 9 4 size
report_of (PlaceOutside place) = told 10 4 place
report_of (NumberOutside number) = told 11 4 number
report_of (OtherLength size) = told 12 4 size
report_of (BufferTooShort needed) = told 13 4 needed
report_of PinsFull = told 14 4 64
report_of (NoPin place) = told 15 4 place

abbrev pub line_of : Report → List ℕ
line_of r =
    codes "refused " ++ (decimal r.number ++ (codes " part " ++ (decimal r.part ++ (codes " place " ++ decimal r.place))))
