-- Numbers of runs, before and after a change of the byte at place p.
use Rattle.std.proofs.Common.{◌≡◌, ℕ, ◌+◌, ◌<◌, ◌≤◌, List, [], ◌++◌, length, take, drop, set, pos, ◌+ℤ◌, ◌-ℤ◌, sym, ap, ◌∙◌, subst, arith, length-append}
use Rattle.std.proofs.lemmas.List.{append-nil, drop_all, take-set-le, drop-set-lt}
use Rattle.std.proofs.lemmas.Int.{ints}
use Rattle.rules.specs.Cutting.{cutting, Bounded, Joined}
use Rattle.rules.specs.Cuts.{cutting_none}
use Rattle.rules.proofs.WallLaws.{inside, Parted, parted_cutting, parted_three}
use Rattle.windows.specs.Windows.{runs, gained}

module _ (run : List ℕ → ℕ) (b : Bounded run) where
  joined_none : (xs : List ℕ) → Joined run xs []
  joined_none xs =
      ap (cutting run) (append-nil xs) ∙ sym (append-nil (cutting run xs)) ∙ ap (λ l. cutting run xs ++ l) (sym (cutting_none run b))

  -- a text is cut apart at its end
  pub parted_end : (text : List ℕ) (q : ℕ) → length text ≤ q → Parted run b text q
  parted_end text q h = subst (λ (l : List ℕ). Joined run (take q text) l) (sym (drop_all q text h)) (joined_none (take q text))

  -- where a text is cut apart, the runs on both sides are all
  pub parted_runs : (text : List ℕ) (q : ℕ) → Parted run b text q → runs run text ≡ runs run (take q text) + runs run (drop q text)
  parted_runs text q j = ap length (parted_cutting run b text q j) ∙ length-append (cutting run (take q text)) (cutting run (drop q text))

  pub three_runs : (text : List ℕ) (from to : ℕ) → from ≤ to → Parted run b text from → Parted run b text to
      → runs run text ≡ runs run (take from text) + (runs run (inside from to text) + runs run (drop to text))
  three_runs text from to h i j =
      ap length (parted_three run b text from to h i j)
      ∙ length-append (cutting run (take from text)) _
      ∙ ap (λ n. runs run (take from text) + n) (length-append (cutting run (inside from to text)) (cutting run (drop to text)))

  -- the number at a place and the runs from there on make the number at a later one
  pub number_on : (text : List ℕ) (from to : ℕ) → from ≤ to → Parted run b text from → Parted run b text to
      → runs run (take from text) + runs run (inside from to text) ≡ runs run (take to text)
  number_on text from to h i j = omega (arith, three_runs text from to h i j, parted_runs text to j)

  module _ (xs : List ℕ) (p v : ℕ) where
    -- up to the change the numbers stay
    pub number_early : (q : ℕ) → q ≤ p → length (cutting run (take q (set xs p v))) ≡ length (cutting run (take q xs))
    number_early q h = ap (runs run) (take-set-le q xs p v h)

    runs_late : (q : ℕ) → p < q → runs run (drop q (set xs p v)) ≡ runs run (drop q xs)
    runs_late q h = ap (runs run) (drop-set-lt q xs p v h)

    -- past it they move by the difference
    pub number_late : (q : ℕ) → p < q → Parted run b xs q → Parted run b (set xs p v) q
        → pos (length (cutting run (take q (set xs p v)))) ≡ pos (length (cutting run (take q xs))) +ℤ gained run xs (set xs p v)
    number_late q h i j =
        let old = parted_runs xs q i in
        let new = parted_runs (set xs p v) q j in
        let late = runs_late q h in
        omega (arith, ints)

    -- the difference is that between two places around the change
    pub gained_inside : (from to : ℕ) → from ≤ p → p < to → Parted run b xs from → Parted run b (set xs p v) from → Parted run b xs to → Parted run b (set xs p v) to
        → gained run xs (set xs p v) ≡ pos (runs run (inside from to (set xs p v))) -ℤ pos (runs run (inside from to xs))
    gained_inside from to f t from_old from-new to-old to-new =
        let le : from ≤ to = omega arith in
        let old = three_runs xs from to le from_old to-old in
        let new = three_runs (set xs p v) from to le from-new to-new in
        let early = number_early from f in
        let late = runs_late to t in
        omega (arith, ints)
