-- The tables of the worked cases.
use Rattle.std.proofs.Common.{◌≡◌, ℕ, ◌<◌, ◌≤◌, Bool, true, false, List, [], ◌∷◌, None, sym, refl, ap, ◌∙◌, inr, arith, lit<}
use Rattle.std.proofs.lemmas.Bool.{false≢true}
use Rattle.std.proofs.lemmas.Bool.Decides.{same_from_decides}
use Rattle.refusals.specs.declared.Direction.TheVariants.{Forward, Backward}
use Rattle.refusals.specs.declared.Refusal.TheVariants.{NonAdvancing, Unsteady}
use Rattle.refusals.specs.Reports.{told}
use Rattle.automata.specs.Sure.{count_row, count_pairs}
use Rattle.tables.specs.Layout.{codes, machine, classes, states, code_place}
use Rattle.tables.specs.Classes.{every}
use Rattle.tables.specs.Checks.{Passes, checks, each}
use Rattle.tables.specs.Verdicts.{Sound, StuckAt, SureCount, Tells}
use Rattle.tables.specs.Steady.{UnsteadyAt, Steady, UnsteadyFirst}
use Rattle.tables.proofs.Counting.{pairs_same}
use Rattle.school.specs.School.{school}
use Rattle.worked.specs.Words.{Accepted, Refuses, ToldUnsteady}
use Rattle.worked.specs.Cases.{hasty, loose}
use Rattle.worked.proofs.Stays.{begins, goes_on, advances_by, from, stuck_from}
use Rattle.worked.proofs.Sures.{Reached, states_of, all_reached, closed, sure_by, sure_decided}
use Rattle.worked.proofs.Steadies.{Standing, steadies, steady_by, stays_below, unsteady_from}

-- the states that the school table reaches from start, each with a row that leads to it
abbrev reached : List Reached
reached = (1, []) ∷ (2, 1 ∷ []) ∷ (4, 3 ∷ []) ∷ (5, 0 ∷ []) ∷ (3, 1 ∷ 2 ∷ []) ∷ []

abbrev pub school_sure : ℕ → ℕ → Bool
school_sure = sure_by (machine school Forward) (classes school) (states_of reached)

school_reached : all_reached (machine school Forward) (classes school) reached ≡ true
unfolding school
school_reached = refl

school_closed : closed (machine school Forward) (classes school) (states_of reached) ≡ true
unfolding school every
school_closed = refl

pub school_tells : Tells school school_sure
school_tells c d l m = sure_decided (machine school Forward) (classes school) reached school_reached school_closed c d

school_nine : 9 ≡ count_pairs school_sure (classes school) (classes school)
unfolding school count_row count_pairs
school_nine = refl

school_count : SureCount school 9
school_count test tells =
    school_nine
    ∙ pairs_same school_sure test (classes school) (classes school)
    (λ c d l m. same_from_decides (school_sure c d) (test c d) (school_tells c d l m) (tells c d l m))

school_passes : Passes (checks school)
unfolding school checks each every
school_passes = refl

-- what quiet codes reach after the first class
abbrev quiet : List ℕ
quiet = 2 ∷ 4 ∷ 5 ∷ []

school_begins : begins (machine school Forward) (classes school) (λ _ _. false) quiet ≡ true
unfolding school every
school_begins = refl

school_goes_on : goes_on (machine school Forward) (classes school) (λ _ _. false) quiet ≡ true
unfolding school every
school_goes_on = refl

school_states : states school Forward ≡ 6
unfolding school
school_states = refl

school_classes : classes school ≡ 4
unfolding school
school_classes = refl

pub school_accepted : Accepted school 6 4 9
school_accepted = record {
  is_sound = record {
    passes = school_passes;
    advances = advances_by (machine school Forward) (classes school) quiet school_begins school_goes_on;
  };
  states_are = school_states;
  classes_are = school_classes;
  sure_are = school_count;
}

-- what backward rows reach: state 2 is entered with a mark, on a class of 0 to 2
abbrev backward_standings : List Standing
backward_standings = (1, 0) ∷ (2, 1) ∷ (2, 2) ∷ (2, 3) ∷ (3, 0) ∷ []

school_steadies : steadies (machine school Backward) (classes school) school_sure backward_standings ≡ true
unfolding school every
school_steadies = refl

school_some : 1 ≤ classes school
unfolding school
school_some = lit< tt

pub school_steady : Steady school
school_steady sure tells =
    steady_by (machine school Backward) (classes school) school_sure backward_standings school_steadies school_some sure
    (λ c d l m. same_from_decides (sure c d) (school_sure c d) (tells c d l m) (school_tells c d l m))

-- with the quiet code for a hyphen quiet codes reach state 3 too, whose exits are those from index 8 on
abbrev hasty_quiet : List ℕ
hasty_quiet = 2 ∷ 3 ∷ 4 ∷ 5 ∷ []

hasty_passes : Passes (checks hasty)
unfolding school checks each every
hasty_passes = refl

hasty_begins : begins (machine hasty Forward) (classes hasty) (from (classes hasty) 8) hasty_quiet ≡ true
unfolding school every
hasty_begins = refl

hasty_goes_on : goes_on (machine hasty Forward) (classes hasty) (from (classes hasty) 8) hasty_quiet ≡ true
unfolding school every
hasty_goes_on = refl

-- a letter, a hyphen and another sign
hasty_stuck : StuckAt hasty 8
unfolding school
hasty_stuck = (1 ∷ 2 ∷ 0 ∷ [], 3, 0, None, (lit< tt, (lit< tt, (lit< tt, tt))), refl, refl, refl)

hasty_place : NonAdvancing 312 ≡ NonAdvancing (code_place hasty Forward 8)
unfolding school
hasty_place = refl

pub hasty_refused : Refuses hasty (NonAdvancing 312) (told 7 3 312)
hasty_refused = record {
  is_refused =
      inr (
        hasty_passes,
        (
          8,
          record { there = hasty_stuck; least = stuck_from (machine hasty Forward) (classes hasty) hasty_quiet 8 hasty_begins hasty_goes_on },
          hasty_place,
        ),
      );
  is_reported = refl;
}

-- the forward table is that of the school table
loose_passes : Passes (checks loose)
unfolding school checks each every
loose_passes = refl

loose_begins : begins (machine loose Forward) (classes loose) (λ _ _. false) quiet ≡ true
unfolding school every
loose_begins = refl

loose_goes_on : goes_on (machine loose Forward) (classes loose) (λ _ _. false) quiet ≡ true
unfolding school every
loose_goes_on = refl

pub loose_accepted : Sound loose
loose_accepted = record { passes = loose_passes; advances = advances_by (machine loose Forward) (classes loose) quiet loose_begins loose_goes_on }

-- a hyphen before a letter is no sure pair
abbrev loose_sure : ℕ → ℕ → Bool
loose_sure = sure_by (machine loose Forward) (classes loose) (states_of reached)

loose_reached : all_reached (machine loose Forward) (classes loose) reached ≡ true
unfolding school
loose_reached = refl

loose_closed : closed (machine loose Forward) (classes loose) (states_of reached) ≡ true
unfolding school every
loose_closed = refl

loose_unsure : loose_sure 2 1 ≡ false
unfolding school
loose_unsure = refl

loose_stays : stays_below (codes loose Backward) 6 ≡ true
unfolding school every
loose_stays = refl

two≢zero : ◌≡◌ {A = ℕ} 2 0 → ⊥
two≢zero e = omega arith

-- a letter, marked, and the hyphen before it
loose_row : (sure : ℕ → ℕ → Bool) → sure 2 1 ≡ false → UnsteadyAt loose sure 6
unfolding school
loose_row sure unsure = (1 ∷ [], 2, 2, (lit< tt, (λ z. two≢zero z, λ b. absurd (false≢true b)), refl), lit< tt, refl, refl, inr (refl, (0, refl, unsure)))

hyphen_class : 2 < classes loose
unfolding school
hyphen_class = lit< tt

letter_class : 1 < classes loose
unfolding school
letter_class = lit< tt

pub loose_unsteady_first : UnsteadyFirst loose 6
loose_unsteady_first sure tells =
    let known = sure_decided (machine loose Forward) (classes loose) reached loose_reached loose_closed 2 1 in (
      loose_row sure (same_from_decides (sure 2 1) (loose_sure 2 1) (tells 2 1 hyphen_class letter_class) known ∙ loose_unsure),
      unsteady_from (codes loose Backward) (classes loose) 6 loose_stays sure,
    )

pub loose_unsteady_place : code_place loose Backward 6 ≡ 286
unfolding school
loose_unsteady_place = refl

pub loose_unsteady : ToldUnsteady loose (Unsteady 286) (told 8 2 286)
loose_unsteady = record { is_answered = (6, loose_unsteady_first, ap Unsteady (sym loose_unsteady_place)); is_reported = refl }
