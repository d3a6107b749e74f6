use Rattle.std.proofs.Common.{◌≡◌, ℕ, ◌+◌, ◌<◌, true, false, not, List, get_or, drop, Some, None, sym, ap, ◌∙◌, arith, rules}
use Rattle.std.proofs.lemmas.List.{get_or-take, get_or-drop}
use Rattle.std.proofs.lemmas.Bool.{not-true, not-false}
use Rattle.std.proofs.lemmas.Iterator.{IsFirst-from_position, YieldsList-from_slice}
use borrow.Author.Tests.{tests}
use Rattle.refusals.specs.declared.Direction.{Direction}
use Rattle.refusals.specs.declared.Refusal.TheVariants.{CodeWrong}
use Rattle.tables.specs.Layout.{states, codes, code_place, code_count}
use Rattle.tables.specs.Checks.{Check, code_sound}
use Rattle.tables.proofs.Passing.{each_passes, each_fails}
use Rattle.tables.proofs.parts.state_part.StatePart.check_codes.Goals as goal

abbrev code-check : List ℕ → Direction → ℕ → Check
code-check b d k = (code_sound (states b d) (get_or b (code_place b d k) 0), CodeWrong d (code_place b d k))

-- what the code tests at the k-th of the codes that it goes through
here : (b : List ℕ) (d : Direction) (s k : ℕ) (row : List ℕ) → s ≡ states b d → row ≡ codes b d → k < code_count b d → code_sound s (get_or row k 0) ≡ (code-check b d k).0
here b d s k row e q l =
    let place : code_place b d 0 + k ≡ code_place b d k = omega arith in
    ap (λ (n : ℕ). code_sound n (get_or row k 0)) e
    ∙ ap (code_sound (states b d))
    (ap (λ (r : List ℕ). get_or r k 0) q ∙ get_or-take (code_count b d) (drop (code_place b d 0) b) k 0 l ∙ get_or-drop (code_place b d 0) b k 0 ∙ ap (λ (n : ℕ). get_or b n 0) place)

pub returns-in-Some : goal.returns-in-Some
returns-in-Some c =
    let b = c.args.self.now.parts.bytes.now in
    let d = c.args.self.now.direction in
    let row = c.codes.result.now in
    let s = c.state_count-states.result in
    let k = c.in-Some.k in
    let n = c.codes.ensures.size in
    let e = c.state_count-states.ensures.value in
    let first = IsFirst-from_position _ _ (Some k) (λ x. not (code_sound s x) ≡ true) (λ x. not (code_sound s x) ≡ false) c.in-Some.ensures.ran (YieldsList-from_slice row cc)
    (λ x q h. search (rules, tests)) (λ x q h. search (rules, tests)) in
    let l : k < code_count b d = let inside = first.0 in omega arith in
    let place : code_place b d k ≡ c.first_code_place-at.result + k = let at = c.first_code_place-at.ensures.value in omega arith in
    each_fails (code-check b d) 0 (code_count b d) k (omega arith) (omega arith)
    (λ j lo hi. sym (here b d s j row e c.codes.ensures.value (omega arith)) ∙ not-false _ (first.2 j 0 lo hi))
    (sym (here b d s k row e c.codes.ensures.value l) ∙ not-true _ (first.1 0))
    ∙ ap (λ (p : ℕ). Some (CodeWrong d p)) place

pub returns-in-None : goal.returns-in-None
returns-in-None c =
    let b = c.args.self.now.parts.bytes.now in
    let d = c.args.self.now.direction in
    let row = c.codes.result.now in
    let s = c.state_count-states.result in
    let n = c.codes.ensures.size in
    let e = c.state_count-states.ensures.value in
    let none = IsFirst-from_position _ _ None (λ x. not (code_sound s x) ≡ true) (λ x. not (code_sound s x) ≡ false) c.in-None.ensures.ran (YieldsList-from_slice row cc)
    (λ x q h. search (rules, tests)) (λ x q h. search (rules, tests)) in
    each_passes (code-check b d) 0 (code_count b d) (λ j lo hi. sym (here b d s j row e c.codes.ensures.value (omega arith)) ∙ not-false _ (none j 0 lo (omega arith)))
