-- What is so of a window, and outside it.
use Rattle.std.proofs.Common.{◌≡◌, ℕ, ◌+◌, ◌-◌, ◌<◌, ◌≤◌, Bool, true, ◌⊎◌, List, length, drop, set, pos, ◌-ℤ◌, sym, refl, subst, inl, inr, ⊎_elim, arith}
use Rattle.std.proofs.lemmas.List.{length-set, take-set-le, drop-set-lt}
use Rattle.std.proofs.lemmas.Bool.{cases_lt, and_parts, both_ways}
use Rattle.rules.specs.Cutting.{cutting, Bounded, Joined}
use Rattle.rules.specs.Answers.{wall_at}
use Rattle.rules.proofs.Lawful.{wall_joined}
use Rattle.rules.proofs.WallLaws.{inside, Parted, parted_inside}
use Rattle.windows.specs.Windows.{runs, gained, both_walls, window_begin, window_end, IsWindow, SameOutside}
use Rattle.windows.proofs.Searches.{greatest_le, greatest_passes, greatest_above, least_ge, least_le, least_passes, least_below}
use Rattle.windows.proofs.Numbers.{parted_end, gained_inside}
use Rattle.windows.proofs.Outsides.{same_outside}

module _ (parts : List ℕ → List ℕ → Bool) (xs ys : List ℕ) (p : ℕ) where
  -- the two searches find the window
  pub window_is : p < length xs → IsWindow parts xs ys p (window_begin parts xs ys p) (window_end parts xs ys p)
  window_is h =
      record {
        low = greatest_le (both_walls parts xs ys) p;
        high = omega (arith, least_ge (both_walls parts xs ys) (length xs - (p + 1)) (p + 1));
        within = omega (arith, least_le (both_walls parts xs ys) (length xs - (p + 1)) (p + 1));
        from_wall = greatest_passes (both_walls parts xs ys) p refl;
        to_wall = λ l. least_passes (both_walls parts xs ys) (length xs - (p + 1)) (p + 1) (omega arith);
        none_between = λ q a l.
            ⊎_elim
            (λ (c : q < p + 1). greatest_above (both_walls parts xs ys) p q a (omega arith))
            (λ (c : p + 1 ≤ q). least_below (both_walls parts xs ys) (length xs - (p + 1)) (p + 1) q c l)
            (cases_lt q (p + 1));
      }

  -- what they found is the window
  pub window_found : (from to : ℕ) → p < length xs → from ≡ window_begin parts xs ys p → to ≡ window_end parts xs ys p → IsWindow parts xs ys p from to
  window_found from to h f t =
      subst (λ (v : ℕ). IsWindow parts xs ys p v to) (sym f) (subst (λ (v : ℕ). IsWindow parts xs ys p (window_begin parts xs ys p) v) (sym t) (window_is h))

  -- a wall of both texts does not lie inside
  pub outside_of : (from to : ℕ) → IsWindow parts xs ys p from to → (q : ℕ) → both_walls parts xs ys q ≡ true → (q ≤ from) ⊎ (to ≤ q)
  outside_of from to w q e =
      ⊎_elim
      (λ (a : from < q).
      ⊎_elim
      (λ (l : q < to). absurd (both_ways (both_walls parts xs ys q) (w.none_between q a l) e))
      (λ (l : to ≤ q). inr l)
      (cases_lt q to))
      (λ (a : q ≤ from). inl a)
      (cases_lt from q)

  pub outside_window : p < length xs → (q : ℕ) → both_walls parts xs ys q ≡ true → (q ≤ window_begin parts xs ys p) ⊎ (window_end parts xs ys p ≤ q)
  outside_window h = outside_of (window_begin parts xs ys p) (window_end parts xs ys p) (window_is h)

module _ (run : List ℕ → ℕ) (b : Bounded run) (parts : List ℕ → List ℕ → Bool) (joins : (before after : List ℕ) → parts before after ≡ true → Joined run before after) where
  pub both_parted : (xs ys : List ℕ) (q : ℕ) → both_walls parts xs ys q ≡ true → Parted run b xs q × Parted run b ys q
  both_parted xs ys q e =
      let walls = and_parts (wall_at parts xs q) (wall_at parts ys q) e in
      (wall_joined run b parts joins xs q walls.0, wall_joined run b parts joins ys q walls.1)

  module _ (xs : List ℕ) (p v : ℕ) where
    -- both texts are cut apart at both ends of a window
    from_parted : (from to : ℕ) → IsWindow parts xs (set xs p v) p from to → Parted run b xs from × Parted run b (set xs p v) from
    from_parted from to w = both_parted xs (set xs p v) from w.from_wall

    to_parted : (from to : ℕ) → IsWindow parts xs (set xs p v) p from to → Parted run b xs to × Parted run b (set xs p v) to
    to_parted from to w =
        ⊎_elim
        (λ (lt : to < length xs). both_parted xs (set xs p v) to (w.to_wall lt))
        (λ (ge : length xs ≤ to). (parted_end run b xs to ge, parted_end run b (set xs p v) to (omega (arith, length-set xs p v))))
        (cases_lt to (length xs))

    -- its end is a wall of what follows its start
    pub window_joined : (from to : ℕ) → IsWindow parts xs (set xs p v) p from to
        → Joined run (inside from to xs) (drop to xs) × Joined run (inside from to (set xs p v)) (drop to (set xs p v))
    window_joined from to w =
        let le : from ≤ to = omega (arith, w.low, w.high) in
        let f = from_parted from to w in
        let t = to_parted from to w in
        (parted_inside run b xs from to le f.0 t.0, parted_inside run b (set xs p v) from to le f.1 t.1)

    -- the difference counted inside is that of the whole texts
    pub window_gained : (from to : ℕ) → IsWindow parts xs (set xs p v) p from to
        → gained run xs (set xs p v) ≡ pos (runs run (inside from to (set xs p v))) -ℤ pos (runs run (inside from to xs))
    window_gained from to w =
        let f = from_parted from to w in
        let t = to_parted from to w in
        gained_inside run b xs p v from to w.low w.high f.0 f.1 t.0 t.1

    -- outside nothing moves
    pub outside_same : (from to : ℕ) → IsWindow parts xs (set xs p v) p from to
        → SameOutside (cutting run xs) (cutting run (set xs p v)) from to (gained run xs (set xs p v))
    outside_same from to w =
        let f = from_parted from to w in
        let t = to_parted from to w in
        same_outside run b xs (set xs p v) from to (omega (arith, w.low, w.high, w.within)) w.within (length-set xs p v)
        (take-set-le from xs p v w.low) (drop-set-lt to xs p v w.high) f.0 f.1 t.0 t.1

    pub window_outside : p < length xs
        → SameOutside (cutting run xs) (cutting run (set xs p v)) (window_begin parts xs (set xs p v) p) (window_end parts xs (set xs p v) p) (gained run xs (set xs p v))
    window_outside h = outside_same (window_begin parts xs (set xs p v) p) (window_end parts xs (set xs p v) p) (window_is parts xs (set xs p v) p h)
