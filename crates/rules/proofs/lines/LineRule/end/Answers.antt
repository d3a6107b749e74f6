use Rattle.std.proofs.Common.{◌≡◌, ℕ, ◌+◌, ◌<◌, ◌≤◌, ◌==◌, List, [], ◌∷◌, length, drop, Option, Some, None, cond, ltb, MatchOption, ⊎_elim, ◌∙◌, arith, rules, tests, length-drop}
use Rattle.std.specs.List.{position_or_len}
use Rattle.std.proofs.lemmas.List.{take_rest}
use Rattle.std.proofs.lemmas.Iterator.{YieldsList-from_slice}
use Rattle.std.proofs.lemmas.Iterator.Search.{position_from_yields_List}
use Rattle.std.proofs.lemmas.Bool.{cond-true, cond-false, cases_lt, lt-ltb, le-ltb}
use Rattle.rules.specs.Lines.{line_run}
use Rattle.rules.proofs.Lawful.{answers}
use Rattle.rules.proofs.lines.LineRule.end.Goals as goal

abbrev before : List ℕ → ℕ
before xs = position_or_len (λ x. x == 13) xs

-- a line ends past its byte 13, or with the text
hit : (xs : List ℕ) → before xs < length xs → line_run xs ≡ before xs + 1
hit [] h = absurd (omega arith)
hit (x ∷ xs) h = grind (arith, hit xs)

miss : (xs : List ℕ) → length xs ≤ before xs → line_run xs ≡ length xs
miss [] h = omega arith
miss (x ∷ xs) h = grind (arith, miss xs)

line_is : (xs : List ℕ) (o : Option ℕ) → o ≡ cond (ltb (before xs) (length xs)) (Some (before xs)) None → MatchOption o (line_run xs ≡ length xs) (λ i. line_run xs ≡ i + 1)
line_is xs None e = ⊎_elim (λ (h : before xs < length xs). let bad = e ∙ cond-true _ _ _ (lt-ltb _ _ h) in cc) (λ (h : length xs ≤ before xs). miss xs h) (cases_lt (before xs) (length xs))
line_is xs (Some i) e = ⊎_elim (λ (h : before xs < length xs). let same = e ∙ cond-true _ _ _ (lt-ltb _ _ h) in let is : i ≡ before xs = cc in omega (arith, hit xs h)) (λ (h : length xs ≤ before xs). let bad = e ∙ cond-false _ _ _ (le-ltb _ _ h) in cc) (cases_lt (before xs) (length xs))

pub returns-in-Some : goal.returns-in-Some
returns-in-Some c =
    let text = c.args.text.now in
    let inside = c.in_ok-check_place.ensures.inside in
    let is = line_is (drop c.args.place text) (Some c.in-Some.before) (position_from_yields_List (λ x. x == 13) _ _ _ c.in-Some.ensures.ran (YieldsList-from_slice (drop c.args.place text) (c.iter.ensures.rest ∙ take_rest text c.args.place)) (λ x d q k. search (rules, tests))) in
    answers text c.args.place _ (omega arith) (omega arith) _ (omega arith)

pub returns-in-None : goal.returns-in-None
returns-in-None c =
    let text = c.args.text.now in
    let inside = c.in_ok-check_place.ensures.inside in
    let is = line_is (drop c.args.place text) None (position_from_yields_List (λ x. x == 13) _ _ _ c.in-None.ensures.ran (YieldsList-from_slice (drop c.args.place text) (c.iter.ensures.rest ∙ take_rest text c.args.place)) (λ x d q k. search (rules, tests))) in
    answers text c.args.place _ (omega arith) (omega arith) _ (omega (arith, length-drop c.args.place text))
