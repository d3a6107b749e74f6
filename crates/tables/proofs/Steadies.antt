-- Whether a machine is steady hangs on a test of the sure pairs only by its answers for classes.
use Rattle.std.proofs.Common.{◌≡◌, ℕ, zero, suc, ◌+◌, ◌<◌, ◌≤◌, Bool, false, List, [], ◌∷◌, ◌++◌, get_or, sym, ◌∙◌, subst, inl, inr}
use Rattle.std.proofs.lemmas.Bool.Decides.{same_from_decides}
use Rattle.refusals.specs.declared.Direction.TheVariants.{Forward, Backward}
use Rattle.automata.specs.Machine.{next, Row}
use Rattle.automata.specs.Reach.{Runs}
use Rattle.automata.specs.Sure.{holds}
use Rattle.automata.specs.Steady.{Unsteady}
use Rattle.tables.specs.Layout.{classes, machine}
use Rattle.tables.specs.Verdicts.{Tells}
use Rattle.tables.specs.Steady.{UnsteadyAt}
use Rattle.tables.specs.Meaning.{bytes_of}
use Rattle.tables.specs.declared.table.Table.{Table}
use Rattle.tables.proofs.Kept.{table_passes, table_tells}
use Rattle.tables.proofs.Tabled.{classes_low, list_passes}

-- what stands in a row of classes is a class, and so is 0
pub row_at : (C : ℕ) (row : List ℕ) (i : ℕ) → 1 ≤ C → Row C row → get_or row i 0 < C
row_at C [] i least r = least
row_at C (c ∷ cs) zero least r = r.0
row_at C (c ∷ cs) (suc i) least r = row_at C cs i least r.1

-- a row that goes on, and one class more
runs_row : (code : ℕ → ℕ → ℕ) (C s : ℕ) (front : List ℕ) (t c : ℕ) → Runs false code C s front t → c < C → Row C (front ++ c ∷ [])
runs_row code C s [] t c run lt = (lt, tt)
runs_row code C s (x ∷ xs) t c run lt = (run.0, runs_row code C (next (code s x)) xs t c run.2 lt)

unsteady_same : (code : ℕ → ℕ → ℕ) (C : ℕ) (f g : ℕ → ℕ → Bool) → 1 ≤ C → ((c d : ℕ) → c < C → d < C → f c d ≡ g c d)
    → (k : ℕ) → Unsteady code C f k → Unsteady code C g k
unsteady_same code C f g least same k u =
    let row = runs_row code C 1 u.0 u.1 u.2 u.3 u.4 in (
      u.0,
      u.1,
      u.2,
      u.3,
      u.4,
      u.5,
      u.6,
      elim u.7 [
        | inl m ↦ inl (m.0, (m.1.0, m.1.1, sym (same m.1.0 u.2 m.1.1 u.4) ∙ m.1.2))
        | inr n ↦
            let i = n.1.0 in
            inr (n.0, (i, n.1.1, sym (same _ _ (row_at C _ (i + 1) least row) (row_at C _ i least row)) ∙ n.1.2))
      ],
    )

-- so what its own bits tell of an accepted table, any test tells that has the sure pairs
module _ (t : Table) (code : ℕ → ℕ → ℕ) (C : ℕ) (is : code ≡ machine (bytes_of t) Backward) (are : C ≡ classes (bytes_of t))
    (sure : ℕ → ℕ → Bool) (tells : Tells (bytes_of t) sure) (k : ℕ) where
  least : 1 ≤ classes (bytes_of t)
  least = classes_low (bytes_of t) (list_passes (bytes_of t) (table_passes t) Forward)

  same : (c d : ℕ) → c < classes (bytes_of t) → d < classes (bytes_of t) → holds t.judgement.sure.rows c d ≡ sure c d
  same c d l m = same_from_decides _ _ (table_tells t c d l m) (tells c d l m)

  pub by_test : Unsteady code C (holds t.judgement.sure.rows) k → UnsteadyAt (bytes_of t) sure k
  by_test u =
      let on = subst (λ (n : ℕ). Unsteady (machine (bytes_of t) Backward) n (holds t.judgement.sure.rows) k) are (subst (λ (f : ℕ → ℕ → ℕ). Unsteady f C (holds t.judgement.sure.rows) k) is u) in
      unsteady_same (machine (bytes_of t) Backward) (classes (bytes_of t)) (holds t.judgement.sure.rows) sure least same k on

  pub by_bits : UnsteadyAt (bytes_of t) sure k → Unsteady code C (holds t.judgement.sure.rows) k
  by_bits u =
      let on = unsteady_same (machine (bytes_of t) Backward) (classes (bytes_of t)) sure (holds t.judgement.sure.rows) least (λ c d l m. sym (same c d l m)) k u in
      subst (λ (f : ℕ → ℕ → ℕ). Unsteady f C (holds t.judgement.sure.rows) k) (sym is) (subst (λ (n : ℕ). Unsteady (machine (bytes_of t) Backward) n (holds t.judgement.sure.rows) k) (sym are) on)
