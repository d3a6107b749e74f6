-- Refusals of a text that is handed in, and of a place in it.
use Rattle.std.proofs.Common.{◌≡◌, ℕ, ◌<◌, ◌≤◌, Err, Result, sym, ap, ◌∙◌, ⊎_elim}
use Rattle.std.proofs.lemmas.Bool.{cond-true, cond-false, eq-eqb, ne_eqb, lt-ltb, le-ltb}
use Rattle.refusals.specs.declared.Refusal.{Refusal}
use Rattle.refusals.specs.declared.Refusal.TheVariants.{PlaceOutside}
use Rattle.books.specs.Plain.{as_long, inside}
use Rattle.books.specs.Strange.{LengthRefused, PlaceRefused}

module _ {V : Type 0} (r : Result V Refusal) (size handed own : ℕ) (faithful : own ≡ size) where
  pub length_refused : (e : Refusal) → LengthRefused size handed e → Err e ≡ as_long own handed r
  length_refused e h =
      ap (λ x. Err x) h.1 ∙ sym (cond-false _ _ _ (ne_eqb handed own (λ s. h.0 (s ∙ faithful))))

  pub length_taken : handed ≡ size → r ≡ as_long own handed r
  length_taken h = sym (cond-true _ _ _ (eq-eqb handed own (h ∙ sym faithful)))

module _ {V : Type 0} (r : Result V Refusal) (size handed place own : ℕ) (faithful : own ≡ size) where
  pub place_refused : (e : Refusal) → PlaceRefused size handed place e → Err e ≡ inside own handed place r
  place_refused e h =
      ⊎_elim (length_refused _ size handed own faithful e)
      (λ (p : (handed ≡ size) × (handed ≤ place) × (e ≡ PlaceOutside place)).
      ap (λ x. Err x) p.2 ∙ sym (cond-false _ _ _ (le-ltb place handed p.1)) ∙ length_taken _ size handed own faithful p.0)
      h

  pub place_taken : handed ≡ size → place < handed → r ≡ inside own handed place r
  place_taken h l = sym (cond-true _ _ _ (lt-ltb place handed l)) ∙ length_taken _ size handed own faithful h
