use Rattle.std.proofs.Common.{◌≡◌, true, List, sym, subst, rules}
use Rattle.std.proofs.lemmas.List.Sorted.{answers_always}
use Rattle.pins.specs.declared.pin.Pin.{Pin}
use Rattle.pins.specs.Order.{rising, IsSpot}
use Rattle.pins.proofs.Rising.{spot_found, T_true}
use Rattle.pins.proofs.pins.Pins.spot.Goals as goal

pub returns : goal.returns
returns c =
    let p = c.args.self.now in
    let found = c.binary_search_by_key in
    let rise = subst (λ (qs : List Pin). rising p.size qs ≡ true) (sym c.as_slice.ensures) (T_true _ p.ordered) in
    subst (λ (qs : List Pin). IsSpot c.args.place qs found.result) c.as_slice.ensures
    (spot_found p.size c.args.place c.as_slice.result.now rise found.result found.ensures.bound
    (found.ensures.position (λ q. q.place) (answers_always _ _ _ (λ f a r g h. search rules))))
