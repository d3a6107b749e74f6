use Rattle.std.proofs.Common.{sym, ◌∙◌, arith}
use Rattle.std.proofs.lemmas.Bool.{leb-true, and_parts}
use Rattle.tables.specs.Layout.{list_word}
use Rattle.tables.proofs.Numbers.{within_low, within_high}
use Rattle.tables.proofs.Heads.{head}
use Rattle.tables.proofs.parts.state_part.StatePart.check_list.Goals as goal

pub check_later_words-requires : goal.check_later_words-requires
check_later_words-requires c =
    let b = c.args.self.now.parts.bytes.now in
    let d = c.args.self.now.direction in
    let one = (and_parts _ _ (sym c.word_1_fits.ensures ∙ c.if-not-word_1_fits.false)).0 in
    let low = within_low (list_word b d 1) 6 128 one in
    let high = within_high (list_word b d 1) 6 128 one in
    let rows = leb-true _ _ (sym c.rows_fit.ensures ∙ c.if-not-rows_fit.false) in
    let whole = (head b c.args.self.now.parts.sound).size_high in
    (omega arith, (omega arith, omega arith))
