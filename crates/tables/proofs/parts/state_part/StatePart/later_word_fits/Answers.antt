use Rattle.std.proofs.Common.{◌≡◌, ◌+◌, ◌-◌, nat_abs, ◌∙◌, arith, w16, SFits, rules}
use Rattle.tables.specs.Layout.{list_word, classes}
use Rattle.tables.proofs.Numbers.{exactly, absolute}
use Rattle.tables.proofs.parts.state_part.StatePart.later_word_fits.Goals as goal

pub returns : goal.returns
returns c =
    let b = c.args.self.now.parts.bytes.now in
    let d = c.args.self.now.direction in
    let k = c.args.k in
    let e : SFits w16 c.word.result = search rules in
    let f : SFits w16 c.word-2.result = search rules in
    let first : c.magnitude.result ≡ nat_abs (list_word b d (k - 1)) = c.magnitude.ensures.value ∙ absolute _ _ e c.word.ensures in
    let more = c.class_count.ensures.value in
    let wanted : c.magnitude.result + c.class_count.result ≡ nat_abs (list_word b d (k - 1)) + classes b = omega arith in
    c.is_within.ensures ∙ exactly _ (list_word b d k) _ _ f c.word-2.ensures wanted
