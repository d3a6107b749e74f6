-- The texts of the worked cases.
use Rattle.std.proofs.Common.{◌≡◌, ℕ, Bool, List, [], ◌∷◌, refl, ap, ◌∙◌}
use Rattle.rules.specs.Cutting.{cut, cutting}
use Rattle.layers.specs.Layers.{joint_glues, tail_glues, glued, layer_run}
use Rattle.breaks.specs.Chars.{chars}
use Rattle.breaks.specs.Tables.{parted}
use Rattle.breaks.specs.Meaning.{characters, table_run, table_parts}
use Rattle.finds.specs.Finds.{found}
use Rattle.school.specs.School.{school}
use Rattle.worked.specs.Words.{walls_from, walls, places_from, places, Cuts}
use Rattle.worked.specs.Cases.{re_cut_it, cut_it, re_cut, loose, paired}
use Rattle.worked.proofs.Walls.{parts_by}
use Rattle.worked.proofs.Tables.{school_sure, school_tells}

-- what the school table makes of a text, by its runs and by the walls of its sure pairs
school_cuts : (text runs wall-places : List ℕ) → cutting (table_run school) text ≡ runs
    → walls (table_parts school school_sure) text ≡ wall-places → Cuts school text runs wall-places
school_cuts text runs wall-places cut-so walled = record {
  runs_are = cut-so;
  walls_are = λ t e. ap (λ (p : List ℕ → List ℕ → Bool). walls p text) (parts_by school school_sure school_tells t e) ∙ walled;
}

pub re_cut_it_cut : Cuts school re_cut_it (6 ∷ 1 ∷ 2 ∷ []) (0 ∷ 6 ∷ 7 ∷ [])
unfolding school cutting cut chars parted walls_from
re_cut_it_cut = school_cuts re_cut_it (6 ∷ 1 ∷ 2 ∷ []) (0 ∷ 6 ∷ 7 ∷ []) refl refl

pub cut_it_cut : Cuts school cut_it (3 ∷ 1 ∷ 1 ∷ 2 ∷ []) (0 ∷ 5 ∷ [])
unfolding school cutting cut chars parted walls_from
cut_it_cut = school_cuts cut_it (3 ∷ 1 ∷ 1 ∷ 2 ∷ []) (0 ∷ 5 ∷ []) refl refl

pub cut_it_joint : cutting (layer_run (joint_glues 45) (table_run school)) cut_it ≡ 3 ∷ 2 ∷ 2 ∷ []
unfolding school cutting cut chars glued
cut_it_joint = refl

pub re_cut_it_tail : cutting (layer_run (tail_glues 32) (table_run school)) re_cut_it ≡ 7 ∷ 2 ∷ []
unfolding school cutting cut chars glued
re_cut_it_tail = refl

pub paired_characters : places (characters paired (129 ∷ 129 ∷ 129 ∷ 65 ∷ [])) ≡ 0 ∷ 2 ∷ []
unfolding school chars places_from
paired_characters = refl

pub re_cut_it_found : found school re_cut_it 3 ≡ record { start = 0; end = 6 }
unfolding school cutting cut chars
re_cut_it_found = refl

pub loose_found : found loose re_cut 3 ≡ record { start = 3; end = 6 }
unfolding school cutting cut chars
loose_found = refl

pub loose_cut : cutting (table_run loose) re_cut ≡ 6 ∷ []
unfolding school cutting cut chars
loose_cut = refl
