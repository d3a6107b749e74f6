use Rattle.std.proofs.Common.{◌≡◌, ◌-◌, false, negsuc, sym, ap, ◌∙◌, arith}
use lib.Signed.{non_neg}
use Rattle.std.proofs.lemmas.Bool.{cond-false, and_parts}
use Rattle.tables.specs.Layout.{two_byte}
use Rattle.tables.specs.Classes.{entry}
use Rattle.tables.specs.Meaning.{bytes_of}
use Rattle.tables.proofs.Numbers.{byte_below}
use Rattle.tables.proofs.Entering.{no_class}
use Rattle.tables.proofs.Tabled.{entries_sound}
use Rattle.tables.proofs.Kept.{table_passes}
use Rattle.tables.proofs.table.Table.one_byte_class.Goals as goal

pub returns-in_default : goal.returns-in_default
returns-in_default c =
    let b = bytes_of c.args.self.now in
    let x = c.args.byte in
    let f = c.ranges.byte in
    let small = c.entry.type_inv in
    let high = no_class c.entry.result c.read.result c.read.ensures c.in_default.not-Class in
    let is : entry b x ≡ negsuc (255 - c.entry.result) = sym c.entry.ensures ∙ byte_below c.entry.result high (omega arith) in
    let neg : non_neg (entry b x) ≡ false = ap non_neg is in
    cond-false _ _ _ neg ∙ (and_parts (two_byte b) _ (sym (cond-false _ _ _ neg) ∙ entries_sound b (table_passes c.args.self.now) x (omega arith))).0
