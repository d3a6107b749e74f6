use Rattle.std.proofs.Common.{◌≡◌, ◌+◌, nat_abs, sym, ap, ◌∙◌, arith, w16, SFits, rules}
use Rattle.refusals.specs.declared.Direction.{Direction}
use Rattle.refusals.specs.declared.Direction.TheVariants.{Backward}
use Rattle.tables.specs.Layout.{list_word, classes}
use Rattle.tables.specs.Checks.{word_2}
use Rattle.tables.proofs.Numbers.{exactly, absolute}
use Rattle.tables.proofs.parts.state_part.StatePart.word_2_fits.Goals as goal

pub returns-in-Backward : goal.returns-in-Backward
returns-in-Backward c =
    let b = c.args.self.now.parts.bytes.now in
    let d = c.args.self.now.direction in
    let e : SFits w16 c.word.result = search rules in
    let f : SFits w16 c.word-in-Backward.result = search rules in
    let on = ap (λ (x : Direction). list_word b x 1) c.in-Backward.is in
    let first : c.magnitude-first.result ≡ nat_abs (list_word b Backward 1) = c.magnitude-first.ensures.value ∙ absolute _ _ e (c.word.ensures ∙ on) in
    let more = c.class_count.ensures.value in
    let wanted : c.magnitude-first.result + c.class_count.result ≡ nat_abs (list_word b Backward 1) + classes b = omega arith in
    c.is_within-in-Backward.ensures
    ∙ exactly _ (list_word b Backward 2) _ _ f (c.word-in-Backward.ensures ∙ ap (λ (x : Direction). list_word b x 2) c.in-Backward.is) wanted
    ∙ sym (ap (word_2 b) c.in-Backward.is)
