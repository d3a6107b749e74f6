-- The checks of a table, one list after the other.
use Rattle.std.proofs.Common.{◌≡◌, ℕ, List, Some, ◌∙◌}
use Rattle.refusals.specs.declared.Direction.TheVariants.{Forward, Backward}
use Rattle.refusals.specs.declared.Refusal.{Refusal}
use Rattle.tables.specs.Checks.{first_failed, Passes, checks, header_checks, list_checks, class_checks, code_checks}
use Rattle.tables.proofs.Passing.{append_passes, append_fails}
use Rattle.tables.proofs.Tabled.{from_forward, from_backward, from_classes, from_codes}

module _ (b : List ℕ) where
  pub header_fails : (e : Refusal) → first_failed (header_checks b) ≡ Some e → first_failed (checks b) ≡ Some e
  unfolding checks
  header_fails e f = append_fails (header_checks b) (from_forward b) e f

  module _ (header : Passes (header_checks b)) where
    at_forward : first_failed (checks b) ≡ first_failed (from_forward b)
    unfolding checks
    at_forward = append_passes (header_checks b) (from_forward b) header

    pub forward_fails : (e : Refusal) → first_failed (list_checks b Forward) ≡ Some e → first_failed (checks b) ≡ Some e
    forward_fails e f = at_forward ∙ append_fails (list_checks b Forward) (from_backward b) e f

    module _ (forward : Passes (list_checks b Forward)) where
      at_backward : first_failed (checks b) ≡ first_failed (from_backward b)
      at_backward = at_forward ∙ append_passes (list_checks b Forward) (from_backward b) forward

      pub backward_fails : (e : Refusal) → first_failed (list_checks b Backward) ≡ Some e → first_failed (checks b) ≡ Some e
      backward_fails e f = at_backward ∙ append_fails (list_checks b Backward) (from_classes b) e f

      module _ (backward : Passes (list_checks b Backward)) where
        at_classes : first_failed (checks b) ≡ first_failed (from_classes b)
        at_classes = at_backward ∙ append_passes (list_checks b Backward) (from_classes b) backward

        pub classes_fail : (e : Refusal) → first_failed (class_checks b) ≡ Some e → first_failed (checks b) ≡ Some e
        classes_fail e f = at_classes ∙ append_fails (class_checks b) (from_codes b) e f

        module _ (classes : Passes (class_checks b)) where
          at_codes : first_failed (checks b) ≡ first_failed (from_codes b)
          at_codes = at_classes ∙ append_passes (class_checks b) (from_codes b) classes

          pub forward_codes_fail : (e : Refusal) → first_failed (code_checks b Forward) ≡ Some e → first_failed (checks b) ≡ Some e
          forward_codes_fail e f = at_codes ∙ append_fails (code_checks b Forward) (code_checks b Backward) e f

          module _ (codes : Passes (code_checks b Forward)) where
            last_codes : first_failed (checks b) ≡ first_failed (code_checks b Backward)
            last_codes = at_codes ∙ append_passes (code_checks b Forward) (code_checks b Backward) codes

            pub backward_codes_fail : (e : Refusal) → first_failed (code_checks b Backward) ≡ Some e → first_failed (checks b) ≡ Some e
            backward_codes_fail e f = last_codes ∙ f

            pub all_pass : Passes (code_checks b Backward) → Passes (checks b)
            all_pass p = last_codes ∙ p
