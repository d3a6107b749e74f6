-- What the bounds of a rule give of its cuttings.
use Rattle.std.specs.Prelude.{◌≡◌, ℕ, zero, suc, ◌+◌, ◌-◌, ◌<◌, ◌≤◌, List, [], ◌∷◌, ◌++◌, length, take, drop, slice_index}
use Rattle.std.proofs.Math.Path.{refl, ap}
use Rattle.std.proofs.Common.{sym, ◌∙◌, length-append}
use native.Mathlib.Omega.{arith}
use Rattle.std.proofs.Math.ListN.{length-drop}
use Rattle.std.proofs.lemmas.List.{drop-drop, drop-append-le, get_or-drop, get_or-take, length-take-le}
use Rattle.rules.specs.Cutting.{cut, cutting, Bounded, Joined, last}

pub shorter : (k n : ℕ) (xs : List ℕ) → 1 ≤ k → length xs ≤ suc n → length (drop k xs) ≤ n
shorter k n xs h l = simp length-drop (omega arith)

-- the last byte of what remains, and of what lies before a place
pub last_drop : (k : ℕ) (xs : List ℕ) → 1 ≤ length (drop k xs) → last (drop k xs) ≡ last xs
last_drop k xs h =
    let e = length-drop k xs in
    let i : k + (length (drop k xs) - 1) ≡ length xs - 1 = omega arith in
    get_or-drop k xs (length (drop k xs) - 1) 0 ∙ ap (λ j. slice_index xs j) i

pub last_take : (text : List ℕ) (place : ℕ) → 1 ≤ place → place ≤ length text → last (take place text) ≡ slice_index text (place - 1)
last_take text place h l =
    ap (λ j. slice_index (take place text) (j - 1)) (length-take-le place text l) ∙ get_or-take place text (place - 1) 0 (omega arith)

module _ (run : List ℕ → ℕ) (b : Bounded run) where
  -- more turns than bytes change nothing
  cut_enough : (n m : ℕ) (xs : List ℕ) → length xs ≤ n → length xs ≤ m → cut run n xs ≡ cut run m xs
  unfolding cut
  cut_enough zero zero [] h k = refl
  cut_enough zero (suc m) [] h k = refl
  cut_enough (suc n) zero [] h k = refl
  cut_enough (suc n) (suc m) [] h k = refl
  cut_enough zero m (x ∷ xs) h k = absurd (omega arith)
  cut_enough (suc n) zero (x ∷ xs) h k = absurd (omega arith)
  cut_enough (suc n) (suc m) (x ∷ xs) h k =
      let one = b.some (x ∷ xs) (omega arith) in
      ap (λ r. run (x ∷ xs) ∷ r) (cut_enough n m (drop (run (x ∷ xs)) (x ∷ xs)) (shorter _ n (x ∷ xs) one h) (shorter _ m (x ∷ xs) one k))

  -- the first run, then the cutting of what remains
  pub cutting_some : (xs : List ℕ) → 1 ≤ length xs → cutting run xs ≡ run xs ∷ cutting run (drop (run xs) xs)
  unfolding cut cutting
  cutting_some [] h = absurd (omega arith)
  cutting_some (x ∷ xs) h =
      let one = b.some (x ∷ xs) h in
      ap (λ r. run (x ∷ xs) ∷ r) (cut_enough (length xs) _ (drop (run (x ∷ xs)) (x ∷ xs)) (shorter _ (length xs) (x ∷ xs) one (omega arith)) (omega arith))

  pub cutting_none : cutting run [] ≡ []
  unfolding cut cutting
  cutting_none = refl

  -- the same of what begins at a place, where its first run ends at the place `end`
  pub cutting_from : (text : List ℕ) (at end : ℕ) → at < length text → end ≡ at + run (drop at text) → cutting run (drop at text) ≡ run (drop at text) ∷ cutting run (drop end text)
  cutting_from text at end h e =
      cutting_some (drop at text) (simp length-drop (omega arith))
      ∙ ap (λ l. run (drop at text) ∷ cutting run l) (drop-drop (run (drop at text)) at text ∙ ap (λ n. drop n text) (sym e))

  -- and where that end lies
  pub end_inside : (text : List ℕ) (at end : ℕ) → at < length text → end ≡ at + run (drop at text) → (at < end) × (end ≤ length text)
  end_inside text at end h e =
      let l = length-drop at text in
      let full : 1 ≤ length (drop at text) = omega arith in
      let some = b.some (drop at text) full in
      let within = b.within (drop at text) full in
      (omega arith, omega arith)

  -- a text has no more runs than bytes
  cut_few : (n : ℕ) (xs : List ℕ) → length xs ≤ n → length (cut run n xs) ≤ length xs
  unfolding cut
  cut_few zero xs h = omega arith
  cut_few (suc n) [] h = omega arith
  cut_few (suc n) (x ∷ xs) h =
      let one = b.some (x ∷ xs) (omega arith) in
      let i = cut_few n (drop (run (x ∷ xs)) (x ∷ xs)) (shorter _ n (x ∷ xs) one h) in
      let l = length-drop (run (x ∷ xs)) (x ∷ xs) in
      omega arith

  pub runs_few : (xs : List ℕ) → length (cutting run xs) ≤ length xs
  unfolding cutting
  runs_few xs = cut_few (length xs) xs (omega arith)

  some_append : (xs after : List ℕ) → 1 ≤ length xs → 1 ≤ length (xs ++ after)
  some_append xs after h = simp length-append (omega arith)

  -- texts are cut apart where this is seen from run to run: a property of what is left before the seam that gives the
  -- same first run with and without what lies behind, and that what remains after that run has as well
  pub joined_by : (P : List ℕ → Type 0) (after : List ℕ)
      → ((xs : List ℕ) → 1 ≤ length xs → P xs → run (xs ++ after) ≡ run xs)
      → ((xs : List ℕ) → 1 ≤ length xs → P xs → 1 ≤ length (drop (run xs) xs) → P (drop (run xs) xs))
      → (n : ℕ) (xs : List ℕ) → length xs ≤ n → (1 ≤ length xs → P xs) → Joined run xs after
  joined_by P after same rest n [] h p = sym (ap (λ l. l ++ cutting run after) cutting_none)
  joined_by P after same rest zero (x ∷ xs) h p = absurd (omega arith)
  joined_by P after same rest (suc n) (x ∷ xs) h p =
      let one : 1 ≤ length (x ∷ xs) = omega arith in
      let here = p one in
      let next = joined_by P after same rest n (drop (run (x ∷ xs)) (x ∷ xs)) (shorter _ n (x ∷ xs) (b.some (x ∷ xs) one) h) (rest (x ∷ xs) one here) in
      cutting_some (x ∷ xs ++ after) (some_append (x ∷ xs) after one)
      ∙ ap (λ j. j ∷ cutting run (drop j (x ∷ xs ++ after))) (same (x ∷ xs) one here)
      ∙ ap (λ l. run (x ∷ xs) ∷ cutting run l) (drop-append-le (run (x ∷ xs)) (x ∷ xs) after (b.within (x ∷ xs) one))
      ∙ ap (λ l. run (x ∷ xs) ∷ l) next
      ∙ ap (λ l. l ++ cutting run after) (sym (cutting_some (x ∷ xs) one))

  both_heads : (xs after : List ℕ) → 1 ≤ length xs → Joined run xs after
      → run (xs ++ after) ∷ cutting run (drop (run (xs ++ after)) (xs ++ after)) ≡ run xs ∷ (cutting run (drop (run xs) xs) ++ cutting run after)
  both_heads xs after h j =
      sym (cutting_some (xs ++ after) (some_append xs after h)) ∙ j ∙ ap (λ l. l ++ cutting run after) (cutting_some xs h)

  -- texts that are cut apart have the first run of the first
  pub joined_run : (xs after : List ℕ) → 1 ≤ length xs → Joined run xs after → run (xs ++ after) ≡ run xs
  joined_run xs after h j = let e = both_heads xs after h j in cc

  -- and so has what remains after it
  pub joined_rest : (xs after : List ℕ) → 1 ≤ length xs → Joined run xs after → Joined run (drop (run xs) xs) after
  joined_rest xs after h j =
      let e = both_heads xs after h j in
      let t : cutting run (drop (run (xs ++ after)) (xs ++ after)) ≡ cutting run (drop (run xs) xs) ++ cutting run after = cc in
      ap (cutting run) (sym (drop-append-le (run xs) xs after (b.within xs h)))
      ∙ ap (λ j. cutting run (drop j (xs ++ after))) (sym (joined_run xs after h j))
      ∙ t
