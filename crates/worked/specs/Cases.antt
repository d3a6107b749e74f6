-- The worked cases.
use Rattle.std.specs.Prelude.{◌≡◌, ℕ, List, [], ◌∷◌, pos, negsuc, Ok, slice_set}
use Rattle.refusals.specs.declared.Direction.TheVariants.{Backward}
use Rattle.refusals.specs.declared.Refusal.TheVariants.{NonAdvancing, Unsteady}
use Rattle.refusals.specs.Reports.{told}
use Rattle.rules.specs.Cutting.{cutting}
use Rattle.layers.specs.Layers.{joint_glues, tail_glues, layer_run}
use Rattle.breaks.specs.Meaning.{characters, table_run}
use Rattle.tables.specs.Layout.{code_place}
use Rattle.tables.specs.Verdicts.{Sound}
use Rattle.tables.specs.Steady.{Steady, UnsteadyFirst}
use Rattle.finds.specs.Finds.{found}
use Rattle.books.specs.declared.call.Call.TheVariants.{Read, Pin, Put}
use Rattle.books.specs.declared.call.Answer.{Answer}
use Rattle.books.specs.declared.call.Answer.TheVariants.{Told, Pinned, Written}
use Rattle.books.specs.declared.call.Step.{Step}
use Rattle.school.specs.School.{school}
use Rattle.worked.specs.Words.{places, Accepted, Refuses, ToldUnsteady, Cuts, step, BookAnswers}

-- `re-cut it`
abbrev pub re_cut_it : List ℕ
re_cut_it = 114 ∷ 101 ∷ 45 ∷ 99 ∷ 117 ∷ 116 ∷ 32 ∷ 105 ∷ 116 ∷ []

-- `cut- it`
abbrev pub cut_it : List ℕ
cut_it = 99 ∷ 117 ∷ 116 ∷ 45 ∷ 32 ∷ 105 ∷ 116 ∷ []

-- the school table with a quiet code for a hyphen after letters: the code at 310 made 6
abbrev pub hasty : List ℕ
hasty = slice_set school 310 6

-- the school table with an exit at a hyphen that is read backward after a mark: the code at 286 made 0
abbrev pub loose : List ℕ
loose = slice_set school 286 0

-- `re-cut`
abbrev pub re_cut : List ℕ
re_cut = 114 ∷ 101 ∷ 45 ∷ 99 ∷ 117 ∷ 116 ∷ []

-- `a b`
abbrev pub a_b : List ℕ
a_b = 97 ∷ 32 ∷ 98 ∷ []

-- the school table for two-byte text, with hexadecimal 81 a first byte by the odd entry -1
abbrev pub paired : List ℕ
paired = slice_set (slice_set school 1 1) 145 255

-- in a book of `re-cut it` a pin is kept at 7, a blank is put for the `c`, and the pin is read: the blank upsets 0 to 6 and
-- gains three runs, `re`, `-`, ` ` and `ut` for one, so that five runs stand before the pin in place of two
abbrev pub re_cut_it_calls : List Step
re_cut_it_calls = step (Pin 7) ∷ step (Put 3 32) ∷ step (Read 0) ∷ []

abbrev pub re_cut_it_said : List Answer
re_cut_it_said =
    Pinned (Ok (record { place = 7; number = 2 }))
    ∷ Written (Ok (record { from = 0; to = 6; difference = pos 3; dropped = 0 }))
    ∷ Told (Ok (record { place = 7; number = 5 }))
    ∷ []

-- in a book of `a b` pins are kept at 1 and 2, and an `x` is put for the blank: two runs fewer, and both pins are dropped
abbrev pub joining_calls : List Step
joining_calls = step (Pin 1) ∷ step (Pin 2) ∷ step (Put 1 120) ∷ []

abbrev pub joining_said : List Answer
joining_said =
    Pinned (Ok (record { place = 1; number = 1 }))
    ∷ Pinned (Ok (record { place = 2; number = 2 }))
    ∷ Written (Ok (record { from = 0; to = 3; difference = negsuc 1; dropped = 2 }))
    ∷ []

-- in a book of `a b` a pin is kept at 1, and a hyphen is put for the `a`: the runs are as many, and the pin is dropped, since
-- a hyphen and a blank are no sure pair
abbrev pub hyphen_calls : List Step
hyphen_calls = step (Pin 1) ∷ step (Put 0 45) ∷ []

abbrev pub hyphen_said : List Answer
hyphen_said =
    Pinned (Ok (record { place = 1; number = 1 }))
    ∷ Written (Ok (record { from = 0; to = 2; difference = pos 0; dropped = 1 }))
    ∷ []

pub record WorkedCases : Type 0 where
  -- the school table is accepted: 6 states, 4 classes, 9 sure pairs
  pub school_accepted : Accepted school 6 4 9
  -- by the school table `re-cut it` has the runs `re-cut`, ` ` and `it`, and walls at 0, 6 and 7
  pub re_cut_it_cut : Cuts school re_cut_it (6 ∷ 1 ∷ 2 ∷ []) (0 ∷ 6 ∷ 7 ∷ [])
  -- by the school table `cut- it` has the runs `cut`, `-`, ` ` and `it`, and walls at 0 and 5
  pub cut_it_cut : Cuts school cut_it (3 ∷ 1 ∷ 1 ∷ 2 ∷ []) (0 ∷ 5 ∷ [])
  -- under a joint layer for the hyphen `cut- it` has the runs `cut`, `- ` and `it`
  pub cut_it_joint : cutting (layer_run (joint_glues 45) (table_run school)) cut_it ≡ 3 ∷ 2 ∷ 2 ∷ []
  -- under a tail layer for the blank `re-cut it` has the runs `re-cut ` and `it`
  pub re_cut_it_tail : cutting (layer_run (tail_glues 32) (table_run school)) re_cut_it ≡ 7 ∷ 2 ∷ []
  -- with its code at 310 made 6 the school table is refused 7, part 3, place 312
  pub hasty_refused : Refuses hasty (NonAdvancing 312) (told 7 3 312)
  -- with hexadecimal 81 a first byte, the text 81 81 81 41 has characters at 0 and 2
  pub paired_characters : places (characters paired (129 ∷ 129 ∷ 129 ∷ 65 ∷ [])) ≡ 0 ∷ 2 ∷ []
  -- by the school table find at 3 in `re-cut it` gives the run from 0 to 6
  pub re_cut_it_found : found school re_cut_it 3 ≡ record { start = 0; end = 6 }
  -- with its code at 286 made 0 it is accepted, and find at 3 in `re-cut` gives the run from 3 to 6, where the cutting has one from 0 to 6
  pub loose_accepted : Sound loose
  pub loose_found : found loose re_cut 3 ≡ record { start = 3; end = 6 }
  pub loose_cut : cutting (table_run loose) re_cut ≡ 6 ∷ []
  -- the school table is steady
  pub school_steady : Steady school
  -- with its code at 286 made 0 it is not: the steady check refuses it 8, part 2, place 286, of the backward code of index 6
  pub loose_unsteady_first : UnsteadyFirst loose 6
  pub loose_unsteady_place : code_place loose Backward 6 ≡ 286
  pub loose_unsteady : ToldUnsteady loose (Unsteady 286) (told 8 2 286)
  -- the book of `re-cut it`
  pub re_cut_it_book : BookAnswers school re_cut_it re_cut_it_calls re_cut_it_said
  -- the books of `a b`
  pub a_b_joined : BookAnswers school a_b joining_calls joining_said
  pub a_b_hyphen : BookAnswers school a_b hyphen_calls hyphen_said
