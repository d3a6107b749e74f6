use Rattle.std.proofs.Common.{◌≡◌, ℕ, ◌+◌, take, sym, refl, ◌∙◌, arith, rules}
use Rattle.std.proofs.lemmas.List.{length-take, length-take-le}
use Rattle.pins.specs.Order.{insert}
use Rattle.pins.specs.Kept.{kept}
use Rattle.pins.proofs.Rising.{there, nowhere, put_again, put_new, rising_insert, T_true, true_T}
use Rattle.pins.proofs.pins.Pins.with.Goals as goal
use Rattle.pins.proofs.pins.Pins.with.Goals.{After-put_in-entries}

pub returns-in_default : goal.returns-in_default
returns-in_default c =
    let p = c.args.self in
    let pin = c.args.pin in
    let k = c.in_default.field-0 in (
      sym (put_again p.size pin.place (kept p) (T_true _ p.ordered) k c.in_default.ensures pin refl),
      refl,
      λ none.
          let bad = sym none ∙ (there p.size pin.place (kept p) (T_true _ p.ordered) k c.in_default.ensures).1 in
          absurd (let z : ◌≡◌ {A = ℕ} 0 1 = cc in omega arith),
    )

pub returns-then-self-ge-MOST : goal.returns-then-self-ge-MOST
returns-then-self-ge-MOST c =
    let p = c.args.self in
    (search (rules, length-take-le), (nowhere p.size c.args.pin.place (kept p) (T_true _ p.ordered) c.in-Err.k c.in-Err.ensures).1)

now-is : (c : goal.After-put_in-entries) → take (c.args.self.count + 1) c.put_in-entries.result ≡ insert c.args.pin (kept c.args.self)
now-is c =
    let p = c.args.self in
    c.put_in-entries.ensures ∙ sym (put_new p.size c.args.pin.place (kept p) (T_true _ p.ordered) c.in-Err.k c.in-Err.ensures c.args.pin refl)

pub invariant_of-result : goal.invariant_of-result
invariant_of-result c =
    let ordered = rising_insert c.args.self.size c.args.pin (kept c.args.self) c.requires.0 c.requires.1 (T_true _ c.args.self.ordered) in
    record { short = c.args.self.short; few = omega (arith, c.if-self-ge-MOST.false); ordered = true_T _ (rw (now-is c) ordered) }

pub returns : goal.returns
returns c =
    let l = length-take c.args.self.count c.args.self.entries in
    (now-is (goal.at.returns c).After-put_in-entries, refl, λ _. omega (arith, l, c.if-self-ge-MOST.false))
