-- The runs of two cuttings that are the same outside a window, one by one.
use Rattle.std.proofs.Common.{◌≡◌, ℕ, zero, suc, ◌+◌, ◌-◌, ◌<◌, ◌≤◌, List, [], ◌∷◌, ◌++◌, length, take, drop, sym, refl, ap, ◌∙◌, subst, ⊎_elim, arith, length-append}
use Rattle.std.proofs.lemmas.List.{take_at, take-append-le, length-take-le}
use Rattle.std.proofs.lemmas.Int.{ints}
use Rattle.std.proofs.lemmas.Bool.{cases_lt}
use Rattle.rules.specs.Cutting.{cutting, Bounded}
use Rattle.rules.specs.Walls.{total}
use Rattle.rules.specs.Runs.{RunAt}
use Rattle.rules.specs.Cuts.{shorter, cutting_some, cutting_none}
use Rattle.rules.proofs.WallLaws.{Parted, parted_cutting, total_cutting}
use Rattle.rules.proofs.RunLaws.{starts_past}
use Rattle.windows.specs.Windows.{gained, SameOutside}

-- ---- lists of lengths
-- no run is empty: a later run starts later
abbrev Rising : List ℕ → Type 0
Rising ks = (m n : ℕ) → m < n → n ≤ length ks → total (take m ks) < total (take n ks)

rising_more : (k : ℕ) (ks : List ℕ) → 1 ≤ k → Rising ks → Rising (k ∷ ks)
rising_more k ks h r zero zero l e = absurd (omega arith)
rising_more k ks h r zero (suc n) l e = omega arith
rising_more k ks h r (suc m) zero l e = absurd (omega arith)
rising_more k ks h r (suc m) (suc n) l e = omega (arith, r m n (omega arith) (omega arith))

module _ (old new : List ℕ) (rising : Rising old) (n start end : ℕ) (at : RunAt old n start end) where
  -- a run that ends in a common front is a run of both
  before_same : (front ms ns : List ℕ) → old ≡ front ++ ms → new ≡ front ++ ns → end ≤ total front → RunAt new n start end
  before_same front ms ns o e h =
      let ends = ap (λ l. total (take (length front) l)) o ∙ ap total (take_at front ms (length front) refl) in
      let size = ap length e ∙ length-append front ns in
      let early : n < length front =
      ⊎_elim
      (λ (lt : n < length front). lt)
      (λ (ge : length front ≤ n). absurd (omega (arith, rising (length front) (n + 1) (omega arith) (omega (arith, at.there)), at.ends)))
      (cases_lt n (length front)) in
      let same : (m : ℕ) → m ≤ length front → total (take m old) ≡ total (take m new) =
      λ m l. ap total (ap (take m) o ∙ take-append-le m front ms l ∙ sym (ap (take m) e ∙ take-append-le m front ns l)) in
      record {
        there = omega arith;
        starts = at.starts ∙ same n (omega arith);
        ends = at.ends ∙ same (n + 1) (omega arith);
      }

  -- a run that starts in a common end is a run of both, with the number moved
  after_same : (ms ns rest : List ℕ) → old ≡ ms ++ rest → new ≡ ns ++ rest → total ms ≡ total ns → total ms ≤ start
      → (m : ℕ) × (m + length old ≡ n + length new) × RunAt new m start end
  after_same ms ns rest o e t h =
      let ends = ap (λ l. total (take (length ms) l)) o ∙ ap total (take_at ms rest (length ms) refl) in
      let old-size = ap length o ∙ length-append ms rest in
      let new-size = ap length e ∙ length-append ns rest in
      let late : length ms ≤ n =
      ⊎_elim
      (λ (lt : n < length ms). absurd (omega (arith, rising n (length ms) lt (omega arith), at.starts)))
      (λ (ge : length ms ≤ n). ge)
      (cases_lt n (length ms)) in
      let same : (k : ℕ) → total (take (length ms + k) old) ≡ total (take (length ns + k) new) =
      λ k. ap (λ l. total (take (length ms + k) l)) o ∙ starts_past ms rest k ∙ ap (λ j. j + total (take k rest)) t
      ∙ sym (ap (λ l. total (take (length ns + k) l)) e ∙ starts_past ns rest k) in
      let from : n ≡ length ms + (n - length ms) = omega arith in
      let to : n + 1 ≡ length ms + (n - length ms + 1) = omega arith in
      let next : length ns + (n - length ms + 1) ≡ length ns + (n - length ms) + 1 = omega arith in (
        length ns + (n - length ms),
        omega arith,
        record {
          there = omega (arith, at.there);
          starts = at.starts ∙ ap (λ j. total (take j old)) from ∙ same (n - length ms);
          ends = at.ends ∙ ap (λ j. total (take j old)) to ∙ same (n - length ms + 1) ∙ ap (λ j. total (take j new)) next;
        },
      )

-- ---- cuttings
module _ (run : List ℕ → ℕ) (b : Bounded run) where
  rising_by : (n : ℕ) (xs : List ℕ) → length xs ≤ n → Rising (cutting run xs)
  rising_by n [] h = subst Rising (sym (cutting_none run b)) (λ i j l e. absurd (let z : ⊥ = omega arith in z))
  rising_by zero (x ∷ xs) h = absurd (omega arith)
  rising_by (suc n) (x ∷ xs) h =
      let one : 1 ≤ length (x ∷ xs) = omega arith in
      let some = b.some (x ∷ xs) one in
      subst Rising (sym (cutting_some run b (x ∷ xs) one))
      (rising_more (run (x ∷ xs)) _ some (rising_by n (drop (run (x ∷ xs)) (x ∷ xs)) (shorter _ n (x ∷ xs) some h)))

  rising : (xs : List ℕ) → Rising (cutting run xs)
  rising xs = rising_by (length xs) xs (omega arith)

  total_front : (xs : List ℕ) (q : ℕ) → q ≤ length xs → total (cutting run (take q xs)) ≡ q
  total_front xs q h = total_cutting run b (take q xs) ∙ length-take-le q xs h

  -- two texts that are the same up to `from` and past `to`, and are both cut apart there
  pub same_outside : (xs ys : List ℕ) (from to : ℕ) → from ≤ length xs → to ≤ length xs → length ys ≡ length xs
      → take from ys ≡ take from xs → drop to ys ≡ drop to xs
      → Parted run b xs from → Parted run b ys from → Parted run b xs to → Parted run b ys to
      → SameOutside (cutting run xs) (cutting run ys) from to (gained run xs ys)
  same_outside xs ys from to f t size front rest from_old from-new to-old to-new =
      let at_from = total_front xs from f in
      let at-to = total_front xs to t in
      let same : total (cutting run (take to xs)) ≡ total (cutting run (take to ys)) = at-to ∙ sym (total_front ys to (omega arith)) in
      let old-front = parted_cutting run b xs from from_old in
      let new-front : cutting run ys ≡ cutting run (take from xs) ++ cutting run (drop from ys) =
      parted_cutting run b ys from from-new ∙ ap (λ l. cutting run l ++ cutting run (drop from ys)) front in
      let old-rest = parted_cutting run b xs to to-old in
      let new-rest : cutting run ys ≡ cutting run (take to ys) ++ cutting run (drop to xs) =
      parted_cutting run b ys to to-new ∙ ap (λ l. cutting run (take to ys) ++ cutting run l) rest in
      record {
        before = λ n start end h at.
            before_same (cutting run xs) (cutting run ys) (rising xs) n start end at (cutting run (take from xs)) _ _ old-front new-front (omega arith);
        before_back = λ n start end h at.
            before_same (cutting run ys) (cutting run xs) (rising ys) n start end at (cutting run (take from xs)) _ _ new-front old-front (omega arith);
        after = λ n start end h at.
            let moved = after_same (cutting run xs) (cutting run ys) (rising xs) n start end at (cutting run (take to xs)) (cutting run (take to ys)) (cutting run (drop to xs)) old-rest new-rest same (omega arith) in
            (moved.0, omega (arith, ints, moved.1), moved.2);
        after_back = λ m start end h at.
            let moved = after_same (cutting run ys) (cutting run xs) (rising ys) m start end at (cutting run (take to ys)) (cutting run (take to xs)) (cutting run (drop to xs)) new-rest old-rest (sym same) (omega arith) in
            (moved.0, omega (arith, ints, moved.1), moved.2);
      }
