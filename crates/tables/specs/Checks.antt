-- What is asked of a break table, in the order in which it is tried: each check with its refusal.
use Rattle.std.specs.Prelude.{◌≡◌, ℕ, zero, suc, ◌+◌, ◌-◌, ◌*◌, Bool, cond, not, ◌&&◌, ◌||◌, List, [], ◌∷◌, ◌++◌, length, Some, None, Option, Result, MatchResult, nat_le, nat_lt, slice_index, unsigned_abs}
use Rattle.refusals.specs.declared.Direction.{Direction}
use Rattle.refusals.specs.declared.Direction.TheVariants.{Forward, Backward}
use Rattle.refusals.specs.declared.Refusal.{Refusal}
use Rattle.refusals.specs.declared.Refusal.TheVariants.{TableTooShort, TableLength, TableFlags, OffsetOutside, ListWrong, ClassWrong, CodeWrong}
use Rattle.automata.specs.Machine.{next}
use Rattle.tables.specs.Words.{word, within, even}
use Rattle.tables.specs.Layout.{size, fits, two_byte, class_table, state_table, list_word, states, classes, code_count, code_place}
use Rattle.tables.specs.Classes.{entry, entry_sound}

-- a check: whether it passes, and what is told where it does not
abbrev pub Check : Type 0
Check = Bool × Refusal

-- what the first check that fails tells
abbrev pub first_failed : List Check → Option Refusal
first_failed [] = None
first_failed (c ∷ cs) = cond c.0 (first_failed cs) (Some c.1)

-- every check passes
abbrev pub Passes : List Check → Type 0
Passes cs = first_failed cs ≡ None

-- an answer tells whether the checks pass, and otherwise the first refusal
abbrev pub Checked : {V : Type 0} → List Check → Result V Refusal → Type 0
Checked cs r = MatchResult r (λ _. Passes cs) (λ e. first_failed cs ≡ Some e)

-- a check for each of n numbers, from i on
unfoldable pub each : (ℕ → Check) → ℕ → ℕ → List Check
each f i zero = []
each f i (suc n) = f i ∷ each f (suc i) n

-- a header field's offset has so many bytes of the table from it on
abbrev pub offset_check : List ℕ → ℕ → ℕ → Check
offset_check b field need = (fits b (word b field) need, OffsetOutside field)

abbrev pub header_checks : List ℕ → List Check
header_checks b =
    (nat_le 272 (length b), TableTooShort)
    ∷ (within (word b 14) 272 (length b), TableLength)
    ∷ (nat_le 128 (slice_index b 0), TableFlags)
    ∷ offset_check b 4 256
    ∷ offset_check b 10 6
    ∷ offset_check b 8 6
    ∷ (not (two_byte b) || fits b (word b 6) 2, OffsetOutside 6)
    ∷ []

-- word 1 is even and 6 to 128
abbrev pub word_1 : List ℕ → Direction → Bool
word_1 b d = within (list_word b d 1) 6 128 && even (unsigned_abs (list_word b d 1))

-- word 2 is 1 to 128 more than word 1; in the backward list it is C more, C being the forward table's
abbrev pub word_2 : List ℕ → Direction → Bool
word_2 b Forward =
    within (list_word b Forward 2) (unsigned_abs (list_word b Forward 1) + 1) (unsigned_abs (list_word b Forward 1) + 128)
word_2 b Backward =
    within (list_word b Backward 2) (unsigned_abs (list_word b Backward 1) + classes b) (unsigned_abs (list_word b Backward 1) + classes b)

-- a later word is C more than the one before
abbrev pub later_word : List ℕ → Direction → ℕ → Bool
later_word b d k =
    within (list_word b d k) (unsigned_abs (list_word b d (k - 1)) + classes b) (unsigned_abs (list_word b d (k - 1)) + classes b)

-- the check of a word of the list, told at the place of word k
abbrev pub list_check : List ℕ → Direction → ℕ → Bool → Check
list_check b d k passes = (passes, ListWrong d (state_table b d + 2 * k))

abbrev pub later_checks : List ℕ → Direction → List Check
later_checks b d = each (λ k. list_check b d k (later_word b d k)) 3 (states b d - 3)

abbrev pub list_checks : List ℕ → Direction → List Check
list_checks b d =
    list_check b d 0 (within (list_word b d 0) 0 0)
    ∷ list_check b d 1 (word_1 b d)
    ∷ list_check b d 2 (word_2 b d)
    ∷ list_check b d 1 (nat_le (code_place b d (code_count b d)) (size b))
    ∷ later_checks b d

-- the classes of the 256 byte values
abbrev pub class_checks : List ℕ → List Check
class_checks b = each (λ v. (entry_sound b (entry b v), ClassWrong (class_table b + v))) 0 256

-- a code is even and names one of S states
abbrev pub code_sound : ℕ → ℕ → Bool
code_sound S x = even x && nat_lt (next x) S

abbrev pub code_checks : List ℕ → Direction → List Check
code_checks b d = each (λ k. (code_sound (states b d) (slice_index b (code_place b d k)), CodeWrong d (code_place b d k))) 0 (code_count b d)

-- all of them
unfoldable pub checks : List ℕ → List Check
checks b =
    header_checks b
    ++ (list_checks b Forward
    ++ (list_checks b Backward
    ++ (class_checks b
    ++ (code_checks b Forward
    ++ code_checks b Backward))))
