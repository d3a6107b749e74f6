use Rattle.std.proofs.Common.{◌∙◌, rules}
use Rattle.std.proofs.lemmas.Bool.Decides.{same_from_decides}
use Rattle.refusals.specs.declared.Direction.TheVariants.{Forward}
use Rattle.automata.specs.Sure.{holds}
use Rattle.automata.proofs.Counts.{pairs_within}
use Rattle.tables.specs.Layout.{classes}
use Rattle.tables.proofs.Tabled.{classes_high, list_passes}
use Rattle.tables.proofs.Counting.{pairs_same}
use Rattle.tables.proofs.verdict.judge.examine.Goals as goal

pub returns : goal.returns
returns c =
    let b = c.args.bytes.now in
    let C = classes b in
    let e = c.in_ok-judgement.ensures in
    let s = e.sure_bits in
    let laid = e.is_laid in
    let rows = c.in_ok-judgement.judgement.sure.rows in (
      e.is_sound,
      record {
        states_is = search rules;
        classes_is = search rules;
        sure_is = λ test tells.
            c.summary.ensures.sure
            ∙ pairs_within (holds rows) C 128 (classes_high b (list_passes b e.is_sound.passes Forward)) s.none_first s.none_second
            ∙ pairs_same (holds rows) test C C (λ x y l r. same_from_decides (holds rows x y) (test x y) (s.bits x y l r) (tells x y l r));
      },
    )
