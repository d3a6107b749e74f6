use Rattle.std.proofs.Common.{◌≡◌, ℕ, ◌-◌, true, false, not, List, Some, None, sym, ap, ◌∙◌, arith, rules}
use Rattle.std.proofs.lemmas.Bool.{not-true, not-false}
use Rattle.std.proofs.lemmas.Iterator.{first_from_Range, serves_from_Range}
use borrow.Author.Tests.{tests}
use Rattle.refusals.specs.declared.Direction.{Direction}
use Rattle.refusals.specs.declared.Refusal.{Refusal}
use Rattle.tables.specs.Checks.{Check, list_check, later_word}
use Rattle.tables.specs.Layout.{states}
use Rattle.tables.proofs.Passing.{each_passes, each_fails}
use Rattle.tables.proofs.parts.state_part.StatePart.check_later_words.Goals as goal

abbrev word-check : List ℕ → Direction → ℕ → Check
word-check b d k = list_check b d k (later_word b d k)

pub find-requires-clause-callable : goal.find-requires-clause-callable
find-requires-clause-callable c =
    let s = c.state_count.ensures.value in
    serves_from_Range (λ x q h. search (rules, tests)) (λ x lo hi y e. search (rules, arith))

pub wrong_at-requires : goal.wrong_at-requires
wrong_at-requires c =
    let b = c.args.self.now.parts.bytes.now in
    let d = c.args.self.now.direction in
    let s = c.state_count.ensures.value in
    let first = first_from_Range _ _ _ (Some c.in-Some.k) (λ x. not (later_word b d x) ≡ true) (λ x. not (later_word b d x) ≡ false) c.in-Some.ensures.ran (λ x q h. search (rules, tests)) (λ x q h. search (rules, tests)) in
    let below = first.1 in
    omega arith

pub returns-in-Some : goal.returns-in-Some
returns-in-Some c =
    let b = c.args.self.now.parts.bytes.now in
    let d = c.args.self.now.direction in
    let k = c.in-Some.k in
    let s = c.state_count.ensures.value in
    let first = first_from_Range _ _ _ (Some k) (λ x. not (later_word b d x) ≡ true) (λ x. not (later_word b d x) ≡ false) c.in-Some.ensures.ran (λ x q h. search (rules, tests)) (λ x q h. search (rules, tests)) in
    let below = first.1 in
    each_fails (word-check b d) 3 (states b d - 3) k first.0 (omega arith) (λ j lo hi. not-false _ (first.3 j lo hi)) (not-true _ first.2)
    ∙ ap (λ (e : Refusal). Some e) (sym c.wrong_at.ensures)

pub returns-in-None : goal.returns-in-None
returns-in-None c =
    let b = c.args.self.now.parts.bytes.now in
    let d = c.args.self.now.direction in
    let s = c.state_count.ensures.value in
    let least = c.requires.0 in
    let none = first_from_Range _ _ _ None (λ x. not (later_word b d x) ≡ true) (λ x. not (later_word b d x) ≡ false) c.in-None.ensures.ran (λ x q h. search (rules, tests)) (λ x q h. search (rules, tests)) in
    each_passes (word-check b d) 3 (states b d - 3) (λ j lo hi. not-false _ (none j lo (omega arith)))
