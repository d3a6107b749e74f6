-- A pile of layers has the same runs and walls as one layer that glues where any of them does; and it keeps the bounds and
-- the law of walls, where the rule below does.
use Rattle.std.specs.Prelude.{◌≡◌, ℕ, zero, suc, ◌+◌, ◌-◌, ◌<◌, ◌≤◌, Bool, true, false, cond, not, ◌&&◌, ◌||◌, List, [], ◌∷◌, length, drop, ◌==◌, nat_lt, slice_index, slice_index_or, refl}
use Rattle.std.proofs.Common.{sym, ap, ◌∙◌, ⊎_elim, arith, length-drop}
use Rattle.std.proofs.lemmas.List.{drop-drop, at_drop_more, at_drop_all}
use Rattle.std.proofs.lemmas.Bool.{cond-false, both_ways, cases_Bool, cases_lt, and_right, or_left, le-ltb}
use Rattle.rules.specs.Cutting.{Bounded, Joined}
use Rattle.rules.specs.Answers.{about, about_place, end_of, wall_of}
use Rattle.layers.specs.Layers.{seam_glued, layer_run, layer_parts}
use Rattle.layers.specs.Piles.{glues_of, pile_run, pile_parts, any_glues}
use Rattle.layers.specs.declared.pile.Layer.{Layer}
use Rattle.rules.specs.Cuts.{shorter}
use Rattle.layers.specs.LayerLaws.{seam_drop, seam_left, goes, stops, layer_bounded, layer_joins}

-- tests that are or-ed
either_low : (x low high : Bool) → (x && low) ≡ true → (x && (low || high)) ≡ true
either_low true true high t = refl
either_low true false high t = absurd (both_ways false refl t)
either_low false low high t = t

either_high : (x low high : Bool) → (x && low) ≡ false → (x && (low || high)) ≡ (x && high)
either_high true true high f = absurd (both_ways true f refl)
either_high true false high f = refl
either_high false low high f = refl

neither : (x low high : Bool) → ((x && not low) && not high) ≡ (x && not (low || high))
neither true true high = refl
neither true false high = refl
neither false low high = refl

and_all : (x : Bool) → x ≡ (x && true)
and_all true = refl
and_all false = refl

-- one layer that glues where either of two does
abbrev either : (ℕ → ℕ → Bool) → (ℕ → ℕ → Bool) → ℕ → ℕ → Bool
either low high before after = low before after || high before after

module _ (low high : ℕ → ℕ → Bool) (run : List ℕ → ℕ) (b : Bounded run) where
  lows : Bounded (layer_run low run)
  lows = layer_bounded low run b

  -- a seam that the lower layer glues, and one that it does not
  seam_low : (k : ℕ) (xs : List ℕ) → seam_glued low k xs ≡ true → seam_glued (either low high) k xs ≡ true
  seam_low k xs t = either_low (nat_lt k (length xs)) (low (slice_index xs (k - 1)) (slice_index xs k)) (high (slice_index xs (k - 1)) (slice_index xs k)) t

  seam_high : (k : ℕ) (xs : List ℕ) → seam_glued low k xs ≡ false → seam_glued (either low high) k xs ≡ seam_glued high k xs
  seam_high k xs f = either_high (nat_lt k (length xs)) (low (slice_index xs (k - 1)) (slice_index xs k)) (high (slice_index xs (k - 1)) (slice_index xs k)) f

  -- where the lower layer goes on over a seam, so does the layer above it
  goes_both : (xs : List ℕ) → 1 ≤ length xs → seam_glued low (run xs) xs ≡ true
      → layer_run high (layer_run low run) xs ≡ run xs + layer_run high (layer_run low run) (drop (run xs) xs)
  goes_both xs one t =
      let rest : List ℕ = drop (run xs) xs in
      let left : 1 ≤ length rest = seam_left low run b xs t in
      let more : ℕ = layer_run low run rest in
      let some : 1 ≤ more = lows.some rest left in
      let whole : layer_run low run xs ≡ run xs + more = goes low run b xs one t in
      let seam : seam_glued high (layer_run low run xs) xs ≡ seam_glued high more rest =
      ap (λ k. seam_glued high k xs) whole ∙ sym (seam_drop high (run xs) more xs (b.within xs one) some) in
      ⊎_elim
      (λ (t2 : seam_glued high more rest ≡ true).
      let all = goes high (layer_run low run) lows xs one (seam ∙ t2) in
      let last = goes high (layer_run low run) lows rest left t2 in
      let same : drop more rest ≡ drop (layer_run low run xs) xs = drop-drop more (run xs) xs ∙ ap (λ k. drop k xs) (sym whole) in
      let next = ap (layer_run high (layer_run low run)) same in
      omega (arith, all, last, next, whole))
      (λ (f2 : seam_glued high more rest ≡ false).
      let all = stops high (layer_run low run) lows xs one (seam ∙ f2) in
      let last = stops high (layer_run low run) lows rest left f2 in
      omega (arith, all, last, whole))
      (cases_Bool (seam_glued high more rest))

  -- two layers are one
  fuse : (n : ℕ) (xs : List ℕ) → length xs ≤ n → 1 ≤ length xs → layer_run high (layer_run low run) xs ≡ layer_run (either low high) run xs
  fuse zero xs h one = absurd (omega arith)
  fuse (suc n) xs h one =
      let next : (k : ℕ) → k ≡ run xs → 1 ≤ length (drop (run xs) xs)
      → k + layer_run high (layer_run low run) (drop k xs) ≡ run xs + layer_run (either low high) run (drop (run xs) xs) =
      λ k e left. ap (λ j. j + layer_run high (layer_run low run) (drop j xs)) e ∙ ap (λ j. run xs + j) (fuse n (drop (run xs) xs) (shorter _ n xs (b.some xs one) h) left) in
      ⊎_elim
      (λ (t : seam_glued low (run xs) xs ≡ true).
      goes_both xs one t ∙ next (run xs) refl (seam_left low run b xs t) ∙ sym (goes (either low high) run b xs one (seam_low (run xs) xs t)))
      (λ (f : seam_glued low (run xs) xs ≡ false).
      let whole : layer_run low run xs ≡ run xs = stops low run b xs one f in
      let seam : seam_glued high (layer_run low run xs) xs ≡ seam_glued (either low high) (run xs) xs =
      ap (λ k. seam_glued high k xs) whole ∙ sym (seam_high (run xs) xs f) in
      ⊎_elim
      (λ (t2 : seam_glued (either low high) (run xs) xs ≡ true).
      goes high (layer_run low run) lows xs one (seam ∙ t2)
      ∙ next (layer_run low run xs) whole (seam_left (either low high) run b xs t2)
      ∙ sym (goes (either low high) run b xs one t2))
      (λ (f2 : seam_glued (either low high) (run xs) xs ≡ false).
      stops high (layer_run low run) lows xs one (seam ∙ f2) ∙ whole ∙ sym (stops (either low high) run b xs one f2))
      (cases_Bool (seam_glued (either low high) (run xs) xs)))
      (cases_Bool (seam_glued low (run xs) xs))

-- a pile is one layer
pile_layer : (ls : List Layer) (run : List ℕ → ℕ) → Bounded run → (xs : List ℕ) → 1 ≤ length xs → layer_run (any_glues ls) run xs ≡ pile_run ls run xs
pile_layer [] run b xs one = stops (any_glues []) run b xs one (and_right _ _ refl)
pile_layer (l ∷ ls) run b xs one =
    sym (fuse (glues_of l) (any_glues ls) run b (length xs) xs (omega arith) one)
    ∙ pile_layer ls (layer_run (glues_of l) run) (layer_bounded (glues_of l) run b) xs one

pile_walls : (ls : List Layer) (parts : List ℕ → List ℕ → Bool) (before after : List ℕ) → layer_parts (any_glues ls) parts before after ≡ pile_parts ls parts before after
pile_walls [] parts before after = sym (and_all (parts before after))
pile_walls (l ∷ ls) parts before after = sym (neither (parts before after) _ _) ∙ pile_walls ls (layer_parts (glues_of l) parts) before after

-- and so are its answers
pub pile_end : (ls : List Layer) (run : List ℕ → ℕ) → Bounded run → (text : List ℕ) (place : ℕ)
    → end_of (layer_run (any_glues ls) run) text place ≡ end_of (pile_run ls run) text place
pile_end ls run b text place =
    ⊎_elim
    (λ (inside : place < length text).
    let one : 1 ≤ length (drop place text) = simp length-drop (omega arith) in
    ap (λ k. about_place text place (place + k)) (pile_layer ls run b (drop place text) one))
    (λ (outside : length text ≤ place).
    let no_place = le-ltb place (length text) outside in
    ap (about text) (cond-false _ _ _ no_place ∙ sym (cond-false _ _ _ no_place)))
    (cases_lt place (length text))

pub pile_wall : (ls : List Layer) (parts : List ℕ → List ℕ → Bool) (text : List ℕ) (place : ℕ)
    → wall_of (layer_parts (any_glues ls) parts) text place ≡ wall_of (pile_parts ls parts) text place
pile_wall ls parts text place = ap (λ w. about_place text place (cond (place == 0) true w)) (pile_walls ls parts _ _)

pub pile_bounded : (ls : List Layer) (run : List ℕ → ℕ) → Bounded run → Bounded (pile_run ls run)
pile_bounded [] run b = b
pile_bounded (l ∷ ls) run b = pile_bounded ls (layer_run (glues_of l) run) (layer_bounded (glues_of l) run b)

pub pile_joins : (ls : List Layer) (run : List ℕ → ℕ) → Bounded run → (parts : List ℕ → List ℕ → Bool)
    → ((before after : List ℕ) → parts before after ≡ true → Joined run before after)
    → (before after : List ℕ) → pile_parts ls parts before after ≡ true → Joined (pile_run ls run) before after
pile_joins [] run b parts joins = joins
pile_joins (l ∷ ls) run b parts joins =
    pile_joins ls (layer_run (glues_of l) run) (layer_bounded (glues_of l) run b) (layer_parts (glues_of l) parts) (layer_joins (glues_of l) run b parts joins)

-- one turn of asking the layers, from the lowest up
module _ (before after : ℕ) (ls : List Layer) (i : ℕ) where
  pub any_hit : (d : Layer) → i < length ls → glues_of (slice_index_or ls i d) before after ≡ true → any_glues (drop i ls) before after ≡ true
  any_hit d h t = at_drop_more (λ ks. any_glues ks before after) ls i d h ∙ or_left _ _ t

  pub any_miss : (d : Layer) → i < length ls → glues_of (slice_index_or ls i d) before after ≡ false → any_glues (drop (i + 1) ls) before after ≡ any_glues (drop i ls) before after
  any_miss d h f = sym (at_drop_more (λ ks. any_glues ks before after) ls i d h ∙ ap (λ v. v || any_glues (drop (i + 1) ls) before after) f)

  pub any_none : length ls ≤ i → any_glues (drop i ls) before after ≡ false
  any_none h = at_drop_all (λ ks. any_glues ks before after) ls i h
