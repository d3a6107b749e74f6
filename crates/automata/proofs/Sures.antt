-- Sure pairs: what class a leads to from the states that are reached, and class b there.
use Rattle.std.proofs.Common.{◌≡◌, ℕ, ◌<◌, ◌≤◌, Bool, true, false, T, Decides, sym, refl, subst, inl, inr, arith}
use Rattle.std.proofs.lemmas.Bool.{cond-true, cond-false, cases_Bool, eq-eqb, ne_eqb, eqb-true, eqb-false, le-leb, leb-true, and_from, and_parts}
use Rattle.automata.specs.Machine.{next, exits, marks}
use Rattle.automata.specs.Sets.{Has}
use Rattle.automata.specs.Reach.{Leads}
use Rattle.automata.specs.Sure.{Sure, HaltsIn, Ends, Follows, Stops}
use Rattle.automata.proofs.Rows.{Closed, within}

T_true : (b : Bool) → T b → b ≡ true
T_true true t = refl
T_true false t = absurd t

true_T : (b : Bool) → b ≡ true → T b
true_T b e = subst T (sym e) tt

-- class b marks and exits in each state that class a leads to from one of the set, just where it halts there
module _ (code : ℕ → ℕ → ℕ) (S C set a : ℕ) (inside : Closed code S C) (lt : a < C)
    (after : ℕ) (follows : (k : ℕ) → Has after k → Follows code S set a k) (followed : (k : ℕ) → Follows code S set a k → Has after k) where
  stops_halts : (b : ℕ) → Stops code S after b → HaltsIn code S set a b
  stops_halts b f s lo hi h =
      elim (cases_Bool (exits (code s a))) [
        | inl e ↦ true_T _ (cond-true _ _ _ e)
        | inr e ↦
            let n = eqb-false _ 0 e in
            let g : Ends (code (next (code s a)) b) =
            f (next (code s a)) (omega (arith, n)) (inside s a lo hi lt) (followed _ (s, lo, hi, h, n, refl)) in
            subst T (sym (cond-false _ _ _ e)) (true_T _ (and_from _ _ (eq-eqb _ 0 g.0) (le-leb 128 _ g.1)))
      ]

  halts_stops : (b : ℕ) → HaltsIn code S set a b → Stops code S after b
  halts_stops b f s lo hi h =
      let g = follows s h in
      let t = subst T (cond-false _ _ _ (ne_eqb _ 0 g.4)) (f g.0 g.1 g.2 g.3) in
      let v = and_parts (exits (code (next (code g.0 a)) b)) (marks (code (next (code g.0 a)) b)) (T_true _ t) in
      subst (λ (n : ℕ). Ends (code n b)) g.5 (eqb-true _ 0 v.0, leb-true 128 _ v.1)

  pub halts_where_stops : (r : Bool) (b : ℕ) → Decides r (Stops code S after b) → Decides r (HaltsIn code S set a b)
  halts_where_stops r b d = (λ e. stops_halts b (d.0 e), λ f. d.1 (halts_stops b f))

-- a pair is sure just where that holds of the states that are reached
pub sure_where_halts : (code : ℕ → ℕ → ℕ) (S C : ℕ) (low : 3 ≤ S) (inside : Closed code S C)
    (set : ℕ) (sound : (k : ℕ) → Has set k → Leads false code C 1 k) (complete : (k : ℕ) → Leads false code C 1 k → Has set k)
    (r : Bool) (a b : ℕ) → Decides r (HaltsIn code S set a b) → Decides r (Sure code C a b)
sure_where_halts code S C low inside set sound complete r a b d = (
  λ e s l. let w = within false code C S inside 1 l.0 s (omega arith) (omega arith) l.1 in d.0 e s w.0 w.1 (complete s l),
  λ f. d.1 (λ s lo hi h. f s (sound s h)),
)
