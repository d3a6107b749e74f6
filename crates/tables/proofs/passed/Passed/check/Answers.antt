use Rattle.std.proofs.Common.{◌≡◌, ℕ, ◌≤◌, List, length, Option, sym, ap, ◌∙◌, subst, arith}
use Rattle.std.proofs.lemmas.Result.{err_from_is_err_and}
use Rattle.refusals.specs.declared.Direction.{Direction}
use Rattle.refusals.specs.declared.Direction.TheVariants.{Forward, Backward}
use Rattle.refusals.specs.declared.Refusal.{Refusal}
use Rattle.tables.specs.Layout.{code_place, code_count}
use Rattle.tables.specs.Checks.{Check, first_failed, Passes, checks, header_checks, list_checks, code_checks}
use Rattle.tables.proofs.Heads.{head}
use Rattle.tables.proofs.Tabled.{listed}
use Rattle.tables.proofs.Orders.{header_fails, forward_fails, backward_fails, classes_fail, forward_codes_fail, backward_codes_fail, all_pass}
use Rattle.tables.proofs.passed.Passed.check.Goals as goal

-- the codes of a part lie inside its bytes
codes-in : (b a : List ℕ) (d e : Direction) → a ≡ b → e ≡ d → Passes (header_checks b) → Passes (list_checks a e) → code_place a e (code_count a e) ≤ length a
codes-in b a d e p q h l =
    let rows = (listed a e l).rows_in in
    let whole = (head a (subst (λ (x : List ℕ). Passes (header_checks x)) (sym p) h)).size_high in
    omega arith

-- what is told of the bytes that the header's check hands on is told of the bytes
told : (b a : List ℕ) (r : Option Refusal) → b ≡ a → first_failed (checks b) ≡ r → first_failed (checks a) ≡ r
told b a r e p = ap (λ (l : List ℕ). first_failed (checks l)) (sym e) ∙ p

-- what is told of the part of the bytes a is told of the bytes b
here : (f : List ℕ → Direction → List Check) (a b : List ℕ) (d e : Direction) (r : Option Refusal) → a ≡ b → d ≡ e → first_failed (f a d) ≡ r → first_failed (f b e) ≡ r
here f a b d e r p q h = sym (ap (λ (l : List ℕ). first_failed (f l d)) p ∙ ap (λ (x : Direction). first_failed (f b x)) q) ∙ h

pub returns-in_err-parts-clause-checked : goal.returns-in_err-parts-clause-checked
returns-in_err-parts-clause-checked c =
    let p = err_from_is_err_and c.from_residual.result c.from_residual.ensures.1 in
    rw (p.1, p.2) (header_fails c.args.bytes.now _ c.in_err-parts.ensures.checked)

pub returns-in_err-check_list-clause-checked : goal.returns-in_err-check_list-clause-checked
returns-in_err-check_list-clause-checked c =
    let parts = c.in_ok-parts.parts in
    let p = err_from_is_err_and c.from_residual-in_err-check_list.result c.from_residual-in_err-check_list.ensures.1 in
    rw (p.1, p.2) (told _ _ _ c.in_ok-parts.ensures.same (forward_fails parts.bytes.now parts.sound _ (here list_checks _ parts.bytes.now _ Forward _ c.state_part-forward.ensures.parts c.state_part-forward.ensures.direction c.in_err-check_list.ensures)))

pub returns-in_err-check_list-2-clause-checked : goal.returns-in_err-check_list-2-clause-checked
returns-in_err-check_list-2-clause-checked c =
    let parts = c.in_ok-parts.parts in
    let p = err_from_is_err_and c.from_residual-in_err-check_list-2.result c.from_residual-in_err-check_list-2.ensures.1 in
    rw (p.1, p.2) (told _ _ _ c.in_ok-parts.ensures.same (backward_fails parts.bytes.now parts.sound (here list_checks _ parts.bytes.now _ Forward _ c.state_part-forward.ensures.parts c.state_part-forward.ensures.direction c.in_ok-check_list.ensures) _ (here list_checks _ parts.bytes.now _ Backward _ c.state_part-backward.ensures.parts c.state_part-backward.ensures.direction c.in_err-check_list-2.ensures)))

pub returns-in_err-check_classes-clause-checked : goal.returns-in_err-check_classes-clause-checked
returns-in_err-check_classes-clause-checked c =
    let parts = c.in_ok-parts.parts in
    let p = err_from_is_err_and c.from_residual-in_err-check_classes.result c.from_residual-in_err-check_classes.ensures.1 in
    rw (p.1, p.2) (told _ _ _ c.in_ok-parts.ensures.same (classes_fail parts.bytes.now parts.sound (here list_checks _ parts.bytes.now _ Forward _ c.state_part-forward.ensures.parts c.state_part-forward.ensures.direction c.in_ok-check_list.ensures) (here list_checks _ parts.bytes.now _ Backward _ c.state_part-backward.ensures.parts c.state_part-backward.ensures.direction c.in_ok-check_list-2.ensures) _ c.in_err-check_classes.ensures))

pub check_codes-requires : goal.check_codes-requires
check_codes-requires c = codes-in c.in_ok-parts.parts.bytes.now _ Forward _ c.state_part-forward.ensures.parts c.state_part-forward.ensures.direction c.in_ok-parts.parts.sound c.in_ok-check_list.ensures

pub returns-in_err-check_codes-clause-checked : goal.returns-in_err-check_codes-clause-checked
returns-in_err-check_codes-clause-checked c =
    let parts = c.in_ok-parts.parts in
    let p = err_from_is_err_and c.from_residual-in_err-check_codes.result c.from_residual-in_err-check_codes.ensures.1 in
    rw (p.1, p.2) (told _ _ _ c.in_ok-parts.ensures.same (forward_codes_fail parts.bytes.now parts.sound (here list_checks _ parts.bytes.now _ Forward _ c.state_part-forward.ensures.parts c.state_part-forward.ensures.direction c.in_ok-check_list.ensures) (here list_checks _ parts.bytes.now _ Backward _ c.state_part-backward.ensures.parts c.state_part-backward.ensures.direction c.in_ok-check_list-2.ensures) c.in_ok-check_classes.ensures _ (here code_checks _ parts.bytes.now _ Forward _ c.state_part-forward.ensures.parts c.state_part-forward.ensures.direction c.in_err-check_codes.ensures)))

pub check_codes-requires-2 : goal.check_codes-requires-2
check_codes-requires-2 c = codes-in c.in_ok-parts.parts.bytes.now _ Backward _ c.state_part-backward.ensures.parts c.state_part-backward.ensures.direction c.in_ok-parts.parts.sound c.in_ok-check_list-2.ensures

pub returns-in_err-check_codes-2-clause-checked : goal.returns-in_err-check_codes-2-clause-checked
returns-in_err-check_codes-2-clause-checked c =
    let parts = c.in_ok-parts.parts in
    let p = err_from_is_err_and c.from_residual-in_err-check_codes-2.result c.from_residual-in_err-check_codes-2.ensures.1 in
    rw (p.1, p.2) (told _ _ _ c.in_ok-parts.ensures.same (backward_codes_fail parts.bytes.now parts.sound (here list_checks _ parts.bytes.now _ Forward _ c.state_part-forward.ensures.parts c.state_part-forward.ensures.direction c.in_ok-check_list.ensures) (here list_checks _ parts.bytes.now _ Backward _ c.state_part-backward.ensures.parts c.state_part-backward.ensures.direction c.in_ok-check_list-2.ensures) c.in_ok-check_classes.ensures (here code_checks _ parts.bytes.now _ Forward _ c.state_part-forward.ensures.parts c.state_part-forward.ensures.direction c.in_ok-check_codes.ensures) _ (here code_checks _ parts.bytes.now _ Backward _ c.state_part-backward.ensures.parts c.state_part-backward.ensures.direction c.in_err-check_codes-2.ensures)))

pub invariant_of-result : goal.invariant_of-result
invariant_of-result c =
    let parts = c.in_ok-parts.parts in
    record { sound = told _ _ _ c.in_ok-parts.ensures.same (all_pass parts.bytes.now parts.sound (here list_checks _ parts.bytes.now _ Forward _ c.state_part-forward.ensures.parts c.state_part-forward.ensures.direction c.in_ok-check_list.ensures) (here list_checks _ parts.bytes.now _ Backward _ c.state_part-backward.ensures.parts c.state_part-backward.ensures.direction c.in_ok-check_list-2.ensures) c.in_ok-check_classes.ensures (here code_checks _ parts.bytes.now _ Forward _ c.state_part-forward.ensures.parts c.state_part-forward.ensures.direction c.in_ok-check_codes.ensures) (here code_checks _ parts.bytes.now _ Backward _ c.state_part-backward.ensures.parts c.state_part-backward.ensures.direction c.in_ok-check_codes-2.ensures)) }
