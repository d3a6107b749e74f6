-- The books of the worked cases.
use Rattle.std.proofs.Common.{◌≡◌, ℕ, Bool, List, refl, ap, ◌∙◌}
use Rattle.rules.specs.Cutting.{cut, cutting}
use Rattle.windows.specs.Windows.{greatest, least}
use Rattle.breaks.specs.Chars.{chars}
use Rattle.breaks.specs.Tables.{parted}
use Rattle.breaks.specs.Meaning.{table_run, table_parts, parts_of}
use Rattle.books.specs.declared.call.Answer.{Answer}
use Rattle.books.specs.declared.call.Step.{Step}
use Rattle.books.specs.Plain.{opened, answers}
use Rattle.school.specs.School.{school}
use Rattle.worked.specs.Words.{rule_of, BookAnswers}
use Rattle.worked.specs.Cases.{re_cut_it, a_b, re_cut_it_calls, re_cut_it_said, joining_calls, joining_said, hyphen_calls, hyphen_said}
use Rattle.worked.proofs.Walls.{parts_by}
use Rattle.worked.proofs.Tables.{school_sure, school_tells}

-- what a book answers by the school table, by the runs of its bytes and the walls of its sure pairs
school_book : (text : List ℕ) (steps : List Step) (said : List Answer)
    → answers (table_run school) (table_parts school school_sure) (opened text) steps ≡ said → BookAnswers school text steps said
school_book text steps said so t e =
    ap (λ (b : List ℕ). answers (table_run b) (parts_of (rule_of t)) (opened text) steps) e
    ∙ ap (λ (p : List ℕ → List ℕ → Bool). answers (table_run school) p (opened text) steps) (parts_by school school_sure school_tells t e)
    ∙ so

pub re_cut_it_book : BookAnswers school re_cut_it re_cut_it_calls re_cut_it_said
unfolding school cutting cut chars parted greatest least
re_cut_it_book = school_book re_cut_it re_cut_it_calls re_cut_it_said refl

pub a_b_joined : BookAnswers school a_b joining_calls joining_said
unfolding school cutting cut chars parted greatest least
a_b_joined = school_book a_b joining_calls joining_said refl

pub a_b_hyphen : BookAnswers school a_b hyphen_calls hyphen_said
unfolding school cutting cut chars parted greatest least
a_b_hyphen = school_book a_b hyphen_calls hyphen_said refl
