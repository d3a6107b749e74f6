use Rattle.std.proofs.Common.{◌≡◌, true, List, sym, ap, ◌∙◌, subst, rules}
use Rattle.std.proofs.lemmas.Bool.{leb-true}
use Rattle.std.proofs.lemmas.List.Sorted.{IsPartitionPoint-from_clause}
use Rattle.std.proofs.lemmas.Option.{IfSome_then}
use borrow.Author.Tests.{tests}
use Rattle.pins.specs.declared.pin.Pin.{Pin}
use Rattle.pins.specs.Order.{up_to, rising, last_by}
use Rattle.pins.proofs.Rising.{parts_at, T_true}
use Rattle.pins.proofs.Lasts.{parted_last}
use Rattle.pins.proofs.pins.Pins.nearest.Goals as goal

pub returns : goal.returns
returns c =
    let p = c.args.self.now in
    let qs = c.as_slice-pins.result.now in
    let n = c.partition_point-above.result in
    let rise = subst (λ (l : List Pin). rising p.size l ≡ true) (sym c.as_slice-pins.ensures) (T_true _ p.ordered) in
    let point = IsPartitionPoint-from_clause (up_to c.args.place) qs n c.partition_point-above.ensures.partitioned (parts_at p.size c.args.place qs rise) (λ x r f q. search (rules, tests)) in
    let is = parted_last p.size (up_to c.args.place) qs n c.copied.result rise c.partition_point-above.ensures.bound point (c.copied.ensures ∙ c.last.ensures.value) in
    record { value = is.0 ∙ ap (last_by (up_to c.args.place)) c.as_slice-pins.ensures; inside = IfSome_then c.copied.result is.1 (λ q h. (h.0, leb-true _ _ h.1)) }
