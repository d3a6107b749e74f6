use Rattle.std.proofs.Common.{◌∙◌, rules}
use Rattle.std.proofs.lemmas.Bool.Decides.{same_from_decides}
use Rattle.refusals.specs.declared.Direction.TheVariants.{Forward}
use Rattle.automata.specs.Sure.{holds}
use Rattle.automata.proofs.Counts.{pairs_within}
use Rattle.tables.specs.Layout.{classes}
use Rattle.tables.specs.Meaning.{bytes_of}
use Rattle.tables.proofs.Kept.{table_passes, table_tells}
use Rattle.tables.proofs.Tabled.{classes_high, list_passes}
use Rattle.tables.proofs.Counting.{pairs_same}
use Rattle.tables.proofs.table.Table.summary.Goals as goal

pub returns : goal.returns
returns c =
    let t = c.args.self.now in
    let b = bytes_of t in
    let C = classes b in
    let rows = t.judgement.sure.rows in
    record {
      states_is = search rules;
      classes_is = search rules;
      sure_is = λ test tells.
          c.summary.ensures.sure
          ∙ pairs_within (holds rows) C 128 (classes_high b (list_passes b (table_passes t) Forward)) t.none_first t.none_second
          ∙ pairs_same (holds rows) test C C
          (λ x y l r. same_from_decides (holds rows x y) (test x y) (table_tells t x y l r) (tells x y l r));
    }
