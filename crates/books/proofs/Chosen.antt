-- What is known of an option, where `ok_or` tells what it was.
use Rattle.std.proofs.Common.{◌≡◌, Some, None, Ok, Err, Option, Result, subst}
use Rattle.std.specs.Option.{MatchOption, ok_or}

pub was_none : {X E : Type 0} (o : Option X) (err e : E) → Err e ≡ ok_or o err → (o ≡ None) × (e ≡ err)
was_none None err e h = (cc, cc)
was_none {X} {E} (Some x) err e h = let z : ◌≡◌ {A = Result X E} (Err e) (Ok x) = h in absurd cc

module _ {X : Type 0} (o : Option X) (P : Type 0) (Q : X → Type 0) (told : MatchOption o P Q) where
  pub told_some : (x : X) → o ≡ Some x → Q x
  told_some x e = subst (λ (q : Option X). MatchOption q P Q) e told

  pub told_none : o ≡ None → P
  told_none e = subst (λ (q : Option X). MatchOption q P Q) e told
