use Rattle.std.proofs.Common.{◌≡◌, ℕ, ◌+◌, ◌-◌, ◌<◌, Bool, true, false, List, length, take, drop, sym, ap, ◌∙◌, arith, rules}
use Rattle.std.specs.List.{AllWithin, HoldsAt}
use Rattle.std.specs.Bool.{MatchBool}
use Rattle.std.proofs.lemmas.Iterator.{cases_from_all, YieldsList-from_slice}
use borrow.Author.Tests.{tests}
use Rattle.tables.specs.Words.{signed8, byte}
use Rattle.tables.specs.Classes.{is_class, every}
use Rattle.tables.proofs.Everys.{every_passes, every_fails}
use Rattle.tables.proofs.Slices.{part_size, part_is}
use Rattle.tables.proofs.parts.Parts.row_is_sound.Goals as goal

-- what `all` tells of a row of bytes
told : (b row : List ℕ) (r : Bool)
    → MatchBool r (AllWithin (λ x. is_class b (signed8 x) ≡ true) row 0 (length row)) ((k : ℕ) × (k < length row) × HoldsAt (λ x. is_class b (signed8 x) ≡ false) row k)
    → length row ≡ 256 → r ≡ every (λ y. is_class b (byte row y)) 256
told b row true h n = sym (every_passes (λ y. is_class b (byte row y)) 256 (λ y l. h y 0 (omega arith) (omega arith)))
told b row false h n = sym (every_fails (λ y. is_class b (byte row y)) 256 h.0 (let l = h.1 in omega arith) (h.2 0))

pub returns : goal.returns
returns c =
    let b = c.args.self.now.bytes.now in
    let at = c.args.at in
    let row = take (at + 256 - at) (drop at b) in
    told b row c.all.result
    (cases_from_all _ _ _ (λ x. is_class b (signed8 x) ≡ true) (λ x. is_class b (signed8 x) ≡ false) c.all.ensures.ran (YieldsList-from_slice row cc)
    (λ x q k. search (rules, tests)) (λ x q k. search (rules, tests)))
    (part_size b at 256 c.requires)
    ∙ ap (λ (l : List ℕ). every (λ y. is_class b (byte l y)) 256) (part_is b at 256 c.requires)
