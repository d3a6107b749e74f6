-- A layer keeps the bounds, and its walls the law, where the rule below does.
use Rattle.std.specs.Prelude.{◌≡◌, ℕ, zero, suc, ◌+◌, ◌-◌, ◌<◌, ◌≤◌, Bool, true, false, cond, not, ◌&&◌, List, [], ◌∷◌, ◌++◌, length, drop, nat_lt, slice_index, slice_index_or}
use Rattle.std.proofs.Math.Path.{sym, ap}
use Rattle.std.proofs.Common.{subst, ◌∙◌, arith, length-drop, length-append}
use Rattle.std.proofs.Math.Logic.{⊎_elim}
use Rattle.std.proofs.lemmas.List.{drop-append-le, drop-drop, get_or-drop, get_or_append_left, get_or-append_right}
use Rattle.std.proofs.lemmas.Bool.{cond-true, cond-false, cases_Bool, cases_lt, and_parts, and_left, and_right, ltb-true, lt-ltb, le-ltb, not-true}
use Rattle.rules.specs.Cutting.{Bounded, Joined, first, last}
use Rattle.rules.specs.Answers.{wall_at}
use Rattle.layers.specs.Layers.{seam_glued, glued, layer_run, layer_parts}
use Rattle.rules.specs.Cuts.{shorter, last_drop, last_take, joined_by, joined_run, joined_rest}
use Rattle.rules.proofs.Lawful.{wall_past}

-- where the layer's run ends that the runs below up to a place begin
abbrev pub ends_from : (ℕ → ℕ → Bool) → (List ℕ → ℕ) → List ℕ → ℕ → ℕ
ends_from glues run text at = cond (seam_glued glues at text) (at + layer_run glues run (drop at text)) at

module _ (glues : ℕ → ℕ → Bool) where
  -- a seam that is glued lies inside
  seam_inside : (k : ℕ) (xs : List ℕ) → seam_glued glues k xs ≡ true → k < length xs
  seam_inside k xs t = ltb-true _ _ (and_parts (nat_lt k (length xs)) _ t).0

  pub seam_none : (k : ℕ) (xs : List ℕ) → length xs ≤ k → seam_glued glues k xs ≡ false
  seam_none k xs h = and_left _ _ (le-ltb k (length xs) h)

  -- a seam of what begins at a place is a seam of the text
  pub seam_drop : (at k : ℕ) (text : List ℕ) → at ≤ length text → 1 ≤ k → seam_glued glues k (drop at text) ≡ seam_glued glues (at + k) text
  seam_drop at k text h one =
      let l = length-drop at text in
      let before : slice_index_or (drop at text) (k - 1) 0 ≡ slice_index_or text (at + k - 1) 0 =
      get_or-drop at text (k - 1) 0 ∙ ap (λ j. slice_index text j) (let e : at + (k - 1) ≡ at + k - 1 = omega arith in e) in
      let after : slice_index_or (drop at text) k 0 ≡ slice_index_or text (at + k) 0 = get_or-drop at text k 0 in
      ⊎_elim
      (λ (lt : k < length (drop at text)).
      let a = lt-ltb k (length (drop at text)) lt in
      let b = lt-ltb (at + k) (length text) (omega arith) in
      cc)
      (λ (ge : length (drop at text) ≤ k). seam_none k (drop at text) ge ∙ sym (seam_none (at + k) text (omega arith)))
      (cases_lt k (length (drop at text)))

  -- a seam that is not glued leaves the seams before it as they are
  seam_append : (k : ℕ) (xs after : List ℕ) → 1 ≤ k → k ≤ length xs → glues (last xs) (first after) ≡ false → seam_glued glues k (xs ++ after) ≡ seam_glued glues k xs
  seam_append k xs after one h apart =
      ⊎_elim
      (λ (lt : k < length xs).
      let l = length-append xs after in
      let a = lt-ltb k (length xs) lt in
      let b = lt-ltb k (length (xs ++ after)) (omega arith) in
      let before = get_or_append_left xs after 0 (k - 1) (omega arith) in
      let behind = get_or_append_left xs after 0 k lt in
      cc)
      (λ (ge : length xs ≤ k).
      let e : length xs ≡ k = omega arith in
      let before : slice_index_or (xs ++ after) (k - 1) 0 ≡ last xs = get_or_append_left xs after 0 (k - 1) (omega arith) ∙ ap (λ j. slice_index xs (j - 1)) (sym e) in
      let behind : slice_index_or (xs ++ after) k 0 ≡ first after =
      get_or-append_right xs after k k 0 e (omega arith) ∙ ap (λ j. slice_index after j) (let z : k - k ≡ 0 = omega arith in z) in
      let here : glues (slice_index (xs ++ after) (k - 1)) (slice_index (xs ++ after) k) ≡ false = cc in
      and_right (nat_lt k (length (xs ++ after))) _ here ∙ sym (seam_none k xs ge))
      (cases_lt k (length xs))

  -- a wall past the text's start, by the bytes before and after it
  pub layer_wall : (parts : List ℕ → List ℕ → Bool) (text : List ℕ) (place : ℕ) → 1 ≤ place → place < length text
      → wall_at (layer_parts glues parts) text place ≡ (wall_at parts text place && not (glues (slice_index text (place - 1)) (slice_index text place)))
  layer_wall parts text place one h =
      let here = wall_past (layer_parts glues parts) text place one in
      let below = wall_past parts text place one in
      let before = last_take text place one (omega arith) in
      let after : first (drop place text) ≡ slice_index_or text place 0 = get_or-drop place text 0 0 ∙ ap (λ j. slice_index text j) (let e : place + 0 ≡ place = omega arith in e) in
      cc

  module _ (run : List ℕ → ℕ) (b : Bounded run) where
    -- what remains behind a seam that is glued is not empty
    pub seam_left : (xs : List ℕ) → seam_glued glues (run xs) xs ≡ true → 1 ≤ length (drop (run xs) xs)
    seam_left xs t = let h = seam_inside (run xs) xs t in simp length-drop (omega arith)

    -- more turns than bytes change nothing
    glued_enough : (n m : ℕ) (xs : List ℕ) → 1 ≤ length xs → length xs ≤ n → length xs ≤ m → glued glues run n xs ≡ glued glues run m xs
    unfolding glued
    glued_enough zero m xs one h k = absurd (omega arith)
    glued_enough (suc n) zero xs one h k = absurd (omega arith)
    glued_enough (suc n) (suc m) xs one h k =
        ⊎_elim
        (λ (t : seam_glued glues (run xs) xs ≡ true).
        let some = b.some xs one in
        let next = glued_enough n m (drop (run xs) xs) (seam_left xs t) (shorter _ n xs some h) (shorter _ m xs some k) in
        cond-true _ _ _ t ∙ ap (λ r. run xs + r) next ∙ sym (cond-true _ _ _ t))
        (λ (f : seam_glued glues (run xs) xs ≡ false). cond-false _ _ _ f ∙ sym (cond-false _ _ _ f))
        (cases_Bool (seam_glued glues (run xs) xs))

    -- where the seam behind the first run is glued the layer's run goes on
    pub goes : (xs : List ℕ) → 1 ≤ length xs → seam_glued glues (run xs) xs ≡ true → layer_run glues run xs ≡ run xs + layer_run glues run (drop (run xs) xs)
    unfolding glued
    goes [] one t = absurd (omega arith)
    goes (x ∷ xs) one t =
        let some = b.some (x ∷ xs) one in
        cond-true _ _ _ t
        ∙ ap (λ r. run (x ∷ xs) + r) (glued_enough (length xs) _ (drop (run (x ∷ xs)) (x ∷ xs)) (seam_left (x ∷ xs) t) (shorter _ (length xs) (x ∷ xs) some (omega arith)) (omega arith))

    -- and elsewhere it stops
    pub stops : (xs : List ℕ) → 1 ≤ length xs → seam_glued glues (run xs) xs ≡ false → layer_run glues run xs ≡ run xs
    unfolding glued
    stops [] one f = absurd (omega arith)
    stops (x ∷ xs) one f = cond-false _ _ _ f

    layer_some : (xs : List ℕ) → 1 ≤ length xs → 1 ≤ layer_run glues run xs
    layer_some xs one =
        let some = b.some xs one in
        ⊎_elim
        (λ (t : seam_glued glues (run xs) xs ≡ true). omega (arith, goes xs one t))
        (λ (f : seam_glued glues (run xs) xs ≡ false). omega (arith, stops xs one f))
        (cases_Bool (seam_glued glues (run xs) xs))

    layer_within : (n : ℕ) (xs : List ℕ) → length xs ≤ n → 1 ≤ length xs → layer_run glues run xs ≤ length xs
    layer_within zero xs h one = absurd (omega arith)
    layer_within (suc n) xs h one =
        let within = b.within xs one in
        ⊎_elim
        (λ (t : seam_glued glues (run xs) xs ≡ true).
        let rest = layer_within n (drop (run xs) xs) (shorter _ n xs (b.some xs one) h) (seam_left xs t) in
        omega (arith, goes xs one t, rest, length-drop (run xs) xs))
        (λ (f : seam_glued glues (run xs) xs ≡ false). omega (arith, stops xs one f))
        (cases_Bool (seam_glued glues (run xs) xs))

    pub layer_bounded : Bounded (layer_run glues run)
    layer_bounded = record { some = layer_some; within = λ xs one. layer_within (length xs) xs (omega arith) one }

    -- before a seam that is cut apart below and not glued: the same first run, and what remains is cut apart below as well
    same_first : (after : List ℕ) (n : ℕ) (xs : List ℕ) → length xs ≤ n → 1 ≤ length xs → Joined run xs after → glues (last xs) (first after) ≡ false
        → (layer_run glues run (xs ++ after) ≡ layer_run glues run xs) × Joined run (drop (layer_run glues run xs) xs) after
    same_first after zero xs h one j apart = absurd (omega arith)
    same_first after (suc n) xs h one j apart =
        let some = b.some xs one in
        let within = b.within xs one in
        let more : 1 ≤ length (xs ++ after) = simp length-append (omega arith) in
        let begins = joined_run run b xs after one j in
        let rest = joined_rest run b xs after one j in
        let seam : seam_glued glues (run (xs ++ after)) (xs ++ after) ≡ seam_glued glues (run xs) xs =
        ap (λ k. seam_glued glues k (xs ++ after)) begins ∙ seam_append (run xs) xs after some within apart in
        ⊎_elim
        (λ (t : seam_glued glues (run xs) xs ≡ true).
        let left = seam_left xs t in
        let next = same_first after n (drop (run xs) xs) (shorter _ n xs some h) left rest (ap (λ v. glues v (first after)) (last_drop (run xs) xs left) ∙ apart) in
        let whole = goes xs one t in (
          goes (xs ++ after) more (seam ∙ t)
              ∙ ap (λ k. k + layer_run glues run (drop k (xs ++ after))) begins
              ∙ ap (λ l. run xs + layer_run glues run l) (drop-append-le (run xs) xs after within)
              ∙ ap (λ k. run xs + k) next.0
              ∙ sym whole,
          subst (λ (l : List ℕ). Joined run l after) (drop-drop (layer_run glues run (drop (run xs) xs)) (run xs) xs ∙ ap (λ k. drop k xs) (sym whole)) next.1,
        ))
        (λ (f : seam_glued glues (run xs) xs ≡ false).
        let whole = stops xs one f in
        (stops (xs ++ after) more (seam ∙ f) ∙ begins ∙ sym whole, subst (λ (k : ℕ). Joined run (drop k xs) after) (sym whole) rest))
        (cases_Bool (seam_glued glues (run xs) xs))

    layer_joined : (before after : List ℕ) → Joined run before after → glues (last before) (first after) ≡ false → Joined (layer_run glues run) before after
    layer_joined before after j apart =
        joined_by (layer_run glues run) layer_bounded (λ xs. Joined run xs after × (glues (last xs) (first after) ≡ false)) after
        (λ xs one p. (same_first after (length xs) xs (omega arith) one p.0 p.1).0)
        (λ xs one p left. ((same_first after (length xs) xs (omega arith) one p.0 p.1).1, ap (λ v. glues v (first after)) (last_drop (layer_run glues run xs) xs left) ∙ p.1))
        (length before) before (omega arith) (λ _. (j, apart))

    pub layer_joins : (parts : List ℕ → List ℕ → Bool) → ((before after : List ℕ) → parts before after ≡ true → Joined run before after)
        → (before after : List ℕ) → layer_parts glues parts before after ≡ true → Joined (layer_run glues run) before after
    layer_joins parts joins before after w =
        let both = and_parts (parts before after) (not (glues (last before) (first after))) w in
        layer_joined before after (joins before after both.0) (not-true _ both.1)

    -- one run below more
    pub ends_more : (text : List ℕ) (at to : ℕ) → at < length text → to ≡ at + run (drop at text) → at + layer_run glues run (drop at text) ≡ ends_from glues run text to
    ends_more text at to h e =
        let one : 1 ≤ length (drop at text) = simp length-drop (omega arith) in
        let some = b.some (drop at text) one in
        let seam : seam_glued glues (run (drop at text)) (drop at text) ≡ seam_glued glues to text =
        seam_drop at (run (drop at text)) text (omega arith) some ∙ ap (λ k. seam_glued glues k text) (sym e) in
        ⊎_elim
        (λ (t : seam_glued glues to text ≡ true).
        let all = goes (drop at text) one (seam ∙ t) in
        let rest : drop (run (drop at text)) (drop at text) ≡ drop to text = drop-drop (run (drop at text)) at text ∙ ap (λ k. drop k text) (sym e) in
        let next = ap (layer_run glues run) rest in
        omega (arith, all, next, e) ∙ sym (cond-true _ _ _ t))
        (λ (f : seam_glued glues to text ≡ false). omega (arith, stops (drop at text) one (seam ∙ f), e) ∙ sym (cond-false _ _ _ f))
        (cases_Bool (seam_glued glues to text))
