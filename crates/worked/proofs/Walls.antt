-- What every accepted table with given bytes parts: what any test parts that tells the sure pairs.
use Rattle.std.proofs.Common.{◌≡◌, ℕ, ◌-◌, ◌<◌, Bool, false, cond, eqb, ltb, List, [], ◌∷◌, ◌++◌, length, refl, ap, ◌∙◌, subst}
use mathlib.Core.Path.{fun_ext}
use Rattle.std.proofs.lemmas.Bool.Decides.{same_from_decides}
use Rattle.refusals.specs.declared.Direction.TheVariants.{Forward}
use Rattle.automata.specs.Sure.{holds}
use Rattle.tables.specs.Layout.{classes}
use Rattle.tables.specs.Classes.{leads, one_class, two_class}
use Rattle.tables.specs.Verdicts.{Tells}
use Rattle.tables.specs.Meaning.{bytes_of}
use Rattle.tables.specs.declared.table.Table.{Table}
use Rattle.tables.proofs.Kept.{table_passes, table_tells}
use Rattle.tables.proofs.Tabled.{classes_low, list_passes}
use Rattle.tables.proofs.Classed.{one_low, two_low}
use Rattle.breaks.specs.Chars.{Char}
use Rattle.breaks.specs.Tables.{parted}
use Rattle.breaks.specs.Meaning.{characters, table_parts, parts_of}
use Rattle.breaks.specs.CharLaws.{Fit, fit}
use Rattle.worked.specs.Words.{rule_of}

module _ (p q : ℕ → ℕ → Bool) (C : ℕ) (same : (c d : ℕ) → c < C → d < C → p c d ≡ q c d) where
  parted_same : (k : ℕ) (us : List Char) → Fit C us → parted p k us ≡ parted q k us
  unfolding parted
  parted_same k [] f = refl
  parted_same k (u ∷ []) f = refl
  parted_same k (u ∷ v ∷ us) f =
      ap (λ (t : Bool). cond (ltb k u.size) false (cond (eqb k u.size) t (parted p (k - u.size) (v ∷ us)))) (same u.class v.class f.1 f.2.1)
      ∙ ap (λ (t : Bool). cond (ltb k u.size) false (cond (eqb k u.size) (q u.class v.class) t)) (parted_same (k - u.size) (v ∷ us) f.2)

own_parts : (t : Table) (test : ℕ → ℕ → Bool) → Tells (bytes_of t) test → parts_of (rule_of t) ≡ table_parts (bytes_of t) test
own_parts t test tells =
    let b = bytes_of t in
    let p = table_passes t in
    fun_ext (λ xs. fun_ext (λ ys.
    parted_same (holds t.judgement.sure.rows) test (classes b)
    (λ c d l m. same_from_decides (holds t.judgement.sure.rows c d) (test c d) (table_tells t c d l m) (tells c d l m))
    (length xs) (characters b (xs ++ ys))
    (fit (leads b) (one_class b) (two_class b) (classes b) (classes_low b (list_passes b p Forward)) (one_low b p) (two_low b p) (xs ++ ys))))

pub parts_by : (b : List ℕ) (test : ℕ → ℕ → Bool) → Tells b test → (t : Table) → bytes_of t ≡ b → parts_of (rule_of t) ≡ table_parts b test
parts_by b test tells t e =
    subst (λ (l : List ℕ). Tells l test → parts_of (rule_of t) ≡ table_parts l test) e (own_parts t test) tells
