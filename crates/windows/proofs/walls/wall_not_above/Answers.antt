use Rattle.std.proofs.Common.{◌≡◌, ℕ, zero, suc, ◌+◌, ◌-◌, Bool, true, false, cond, List, [], ◌∷◌, length, Option, Some, sym, refl, ap, ◌∙◌, ⊎_elim, add-one, arith, rules, tests}
use Rattle.std.specs.List.{find}
use Rattle.std.specs.Option.{unwrap_or}
use Rattle.std.specs.Range.{range_inclusive_start, range_inclusive_end, range_inclusive_exhausted, range_inclusive_len}
use Rattle.std.specs.declared.ops.RangeInclusive.{RangeInclusive}
use Rattle.std.specs.declared.iter.Rev.{Rev}
use Rattle.std.proofs.iter.runs.Sources.{nat_range_inclusive_steps_back}
use Rattle.std.proofs.lemmas.Iterator.{YieldsList}
use Rattle.std.proofs.lemmas.Iterator.Consumers.{YieldsList-from_shown}
use Rattle.std.proofs.lemmas.Iterator.Search.{find_from_yields_List}
use Rattle.std.proofs.lemmas.Bool.{cases_Bool}
use Rattle.std.proofs.lemmas.Iterator.Adapters.{option_map_id}
use Rattle.rules.specs.Answers.{wall_at}
use Rattle.windows.specs.Windows.{greatest}
use Rattle.windows.proofs.walls.wall_not_above.Goals as goal

-- so many numbers from one downwards
down : ℕ → ℕ → List ℕ
down zero top = []
down (suc n) top = top ∷ down n (top - 1)

-- the first of all down to 1 that passes, or 0
first_down : (test : ℕ → Bool) (p : ℕ) → unwrap_or (find test (down p p)) 0 ≡ greatest test p
unfolding down greatest
first_down test zero = refl
first_down test (suc p) =
    let below : suc p - 1 ≡ p = omega arith in
    ap (λ (q : ℕ). unwrap_or (cond (test (suc p)) (Some (suc p)) (find test (down p q))) 0) below
    ∙ chosen (test (suc p)) (suc p) _ _ (first_down test p)
  where
    chosen : (b : Bool) (x v : ℕ) (o : Option ℕ) → unwrap_or o 0 ≡ v → unwrap_or (cond b (Some x) o) 0 ≡ cond b x v
    chosen true x v o e = refl
    chosen false x v o e = e

abbrev left : RangeInclusive ℕ → ℕ
left s = range_inclusive_len (λ x y. y - x) (range_inclusive_start s) (range_inclusive_end s) (range_inclusive_exhausted s)

abbrev shown : Rev (RangeInclusive ℕ) → List ℕ
shown s = down (left s.iter) (range_inclusive_end s.iter)

road : (s : Rev (RangeInclusive ℕ)) → YieldsList (λ s r t. nat_range_inclusive_steps_back s.iter r t.iter) (λ x. x) s (shown s)
unfolding down
road s =
    YieldsList-from_shown _ _ shown
    (λ s t h. ap (λ (n : ℕ). length (down n (range_inclusive_end s.iter))) h.1.0)
    (λ s x t h.
    ap (λ (n : ℕ). down n (range_inclusive_end s.iter)) (sym h.1.1 ∙ add-one (left t.iter))
    ∙ ap (λ (n : ℕ). n ∷ down (left t.iter) (range_inclusive_end s.iter - 1)) (sym h.1.0)
    ∙ ap (λ (ns : List ℕ). x ∷ ns) (others s.iter t.iter h.1.2))
    s
  where
    others : (s t : RangeInclusive ℕ) → (range_inclusive_exhausted t ≡ false → range_inclusive_end s ≡ range_inclusive_end t + 1)
        → down (left t) (range_inclusive_end s - 1) ≡ down (left t) (range_inclusive_end t)
    others s t h =
        ⊎_elim
        (λ (e : range_inclusive_exhausted t ≡ true).
        let none : left t ≡ 0 = ap (range_inclusive_len (λ x y. y - x) (range_inclusive_start t) (range_inclusive_end t)) e in
        ap (λ (n : ℕ). down n (range_inclusive_end s - 1)) none ∙ sym (ap (λ (n : ℕ). down n (range_inclusive_end t)) none))
        (λ (e : range_inclusive_exhausted t ≡ false).
        let next = h e in let same : range_inclusive_end s - 1 ≡ range_inclusive_end t = omega arith in ap (down (left t)) same)
        (cases_Bool (range_inclusive_exhausted t))

-- the places from p down to 1
whole : (s : Rev (RangeInclusive ℕ)) (i : RangeInclusive ℕ) (p : ℕ) → s.iter ≡ i → range_inclusive_start i ≡ 1 → range_inclusive_end i ≡ p → range_inclusive_exhausted i ≡ false
    → shown s ≡ down p p
whole s i p e from to fresh =
    let size = ap (range_inclusive_len (λ x y. y - x) (range_inclusive_start i) (range_inclusive_end i)) fresh in
    let all : left i ≡ p = omega arith in
    ap (λ (r : RangeInclusive ℕ). down (left r) (range_inclusive_end r)) e ∙ ap (λ (n : ℕ). down n (range_inclusive_end i)) all ∙ ap (down p) to

pub returns-clause-value : goal.returns-clause-value
returns-clause-value g c =
    let page = c.args.page.now in
    let wall = wall_at (g.R.Rule.parts page.rule.now) page.text.now in
    let is = find_from_yields_List wall _ _ c.find.result c.find.ensures.ran (road c.rev.result) (λ x d q k. search (rules, tests)) in
    c.unwrap_or.ensures
    ∙ ap (λ (o : Option ℕ). unwrap_or o 0) (sym (option_map_id _) ∙ is ∙ ap (find wall) (whole c.rev.result c.new.result c.args.place c.rev.ensures.source c.new.ensures.start c.new.ensures.end c.new.ensures.exhausted))
    ∙ first_down wall c.args.place
