-- The laws of the rule of an accepted table.
use Rattle.std.specs.Prelude.{◌≡◌, ℕ, true, List}
use Rattle.refusals.specs.declared.Direction.TheVariants.{Forward}
use Rattle.rules.specs.Cutting.{Bounded, Joined}
use Rattle.tables.specs.Layout.{machine, classes}
use Rattle.tables.specs.Classes.{leads, one_class, two_class}
use Rattle.tables.specs.Meaning.{bytes_of}
use Rattle.tables.proofs.Kept.{table_passes}
use Rattle.tables.proofs.Tabled.{classes_low, list_passes}
use Rattle.tables.proofs.Classed.{one_low, two_low}
use Rattle.breaks.specs.Meaning.{run_of, parts_of}
use Rattle.breaks.specs.declared.rule.TableRule.{TableRule}
use Rattle.breaks.specs.TableLaws.{table_bounded, table_joins}

pub by_table_bounded : (r : TableRule) → Bounded (run_of r)
by_table_bounded r =
    let t = r.table in
    let b = bytes_of t in
    let p = table_passes t in
    table_bounded (leads b) (one_class b) (two_class b) (machine b Forward) (classes b) (classes_low b (list_passes b p Forward)) (one_low b p) (two_low b p) t.advances

pub by_table_joins : (r : TableRule) (before after : List ℕ) → parts_of r before after ≡ true → Joined (run_of r) before after
by_table_joins r =
    let t = r.table in
    let b = bytes_of t in
    let p = table_passes t in
    table_joins (leads b) (one_class b) (two_class b) (machine b Forward) (classes b) (classes_low b (list_passes b p Forward)) (one_low b p) (two_low b p) t.advances
    _ (λ x y l m h r d. t.sound x y r (l, m, h, d))
