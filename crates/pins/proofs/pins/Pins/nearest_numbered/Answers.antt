use Rattle.std.proofs.Common.{◌∙◌, rules}
use Rattle.std.proofs.lemmas.Bool.{leb-true}
use Rattle.std.proofs.lemmas.Iterator.Adapters.{YieldsList-from_rev_slice}
use Rattle.std.proofs.lemmas.Iterator.Search.{find_from_yields_List}
use Rattle.std.proofs.lemmas.Option.{IfSome_then}
use borrow.Author.Tests.{tests}
use Rattle.pins.specs.Order.{numbered_up_to}
use Rattle.pins.specs.Kept.{kept}
use Rattle.pins.proofs.Rising.{T_true}
use Rattle.pins.proofs.Lasts.{found_last}
use Rattle.pins.proofs.pins.Pins.nearest_numbered.Goals as goal

pub returns : goal.returns
returns c =
    let p = c.args.self.now in
    let is = found_last p.size (numbered_up_to c.args.number) (kept p) c.copied.result (T_true _ p.ordered)
    (c.copied.ensures ∙ find_from_yields_List (numbered_up_to c.args.number) _ _ c.find.result c.find.ensures.ran (YieldsList-from_rev_slice (kept p) cc) (λ x b q k. search (rules, tests))) in
    record { value = is.0; inside = IfSome_then c.copied.result is.1 (λ q h. (h.0, leb-true _ _ h.1)) }
