-- The sure pairs of a machine, by a list of the states that are reached, each with a row that leads to it: two computed
-- tests, and then the pair is sure just where it halts in each state of the list.
use Rattle.std.proofs.Common.{◌≡◌, ℕ, Bool, true, false, cond, not, ◌&&◌, eqb, ltb, List, [], ◌∷◌, map, Decides, sym, refl, ◌∙◌, subst}
use Rattle.std.proofs.lemmas.Bool.{cond-false, and_parts, and_from, not-true, ne_eqb, eqb-true, eqb-false, ltb-true, false≢true}
use Rattle.automata.specs.Machine.{next, exits}
use Rattle.automata.specs.Reach.{Runs}
use Rattle.automata.specs.Sure.{halts, Sure}
use Rattle.tables.specs.Classes.{every}
use Rattle.tables.proofs.Everys.{passes_every}
use Rattle.worked.proofs.Lists.{T_true, true_T, among, each_passes, passes_among}

-- a state, and a row that leads to it from start
abbrev pub Reached : Type 0
Reached = ℕ × List ℕ

abbrev pub states_of : List Reached → List ℕ
states_of xs = map (λ x. x.0) xs

module _ (code : ℕ → ℕ → ℕ) (C : ℕ) where
  -- the row leads from state s to state r without exit
  abbrev runs : ℕ → List ℕ → ℕ → Bool
  runs s [] r = eqb s r
  runs s (c ∷ cs) r = ltb c C && (not (exits (code s c)) && runs (next (code s c)) cs r)

  -- each row of the list leads from start to its state
  abbrev pub all_reached : List Reached → Bool
  all_reached [] = true
  all_reached (x ∷ xs) = runs 1 x.1 x.0 && all_reached xs

  -- by each class a state exits or goes to one of the list
  abbrev keeps : List ℕ → ℕ → Bool
  keeps all s = every (λ c. cond (exits (code s c)) true (among (next (code s c)) all)) C

  -- start is in the list, and no code of a state of the list leaves it
  abbrev pub closed : List ℕ → Bool
  closed all = among 1 all && each_passes (keeps all) all

  -- in each state of the list the pair halts
  abbrev pub sure_by : List ℕ → ℕ → ℕ → Bool
  sure_by all a b = each_passes (λ s. halts code s a b) all

  runs_so : (s : ℕ) (row : List ℕ) (r : ℕ) → runs s row r ≡ true → Runs false code C s row r
  runs_so s [] r e = eqb-true s r e
  runs_so s (c ∷ cs) r e =
      let t = and_parts (ltb c C) _ e in
      let u = and_parts (not (exits (code s c))) _ t.1 in
      (ltb-true c C t.0, (eqb-false _ 0 (not-true _ u.0), λ q. absurd (false≢true q)), runs_so (next (code s c)) cs r u.1)

  -- what a row leads to from a state of the list is in it
  stays_in : (all : List ℕ) → each_passes (keeps all) all ≡ true → (s : ℕ) (row : List ℕ) (r : ℕ) → among s all ≡ true → Runs false code C s row r → among r all ≡ true
  stays_in all k s [] r m e = subst (λ (n : ℕ). among n all ≡ true) e m
  stays_in all k s (c ∷ cs) r m run =
      stays_in all k (next (code s c)) cs r
      (sym (cond-false (exits (code s c)) true _ (ne_eqb _ 0 run.1.0)) ∙ passes_every _ C (passes_among (keeps all) all s k m) c run.0) run.2

  halting : (xs : List Reached) → all_reached xs ≡ true → (a b : ℕ) → Sure code C a b → sure_by (states_of xs) a b ≡ true
  halting [] e a b f = refl
  halting (x ∷ xs) e a b f =
      let t = and_parts (runs 1 x.1 x.0) (all_reached xs) e in
      and_from (halts code x.0 a b) _ (T_true _ (f x.0 (x.1, runs_so 1 x.1 x.0 t.0))) (halting xs t.1 a b f)

  pub sure_decided : (xs : List Reached) → all_reached xs ≡ true → closed (states_of xs) ≡ true
      → (a b : ℕ) → Decides (sure_by (states_of xs) a b) (Sure code C a b)
  sure_decided xs e k a b =
      let all = states_of xs in
      let t = and_parts (among 1 all) _ k in (
        λ h r l. true_T _ (passes_among (λ s. halts code s a b) all r h (stays_in all t.1 1 l.0 r t.0 l.1)),
        halting xs e a b,
      )
