-- What a place at which a text is cut apart says of its cutting.
use Rattle.std.proofs.Common.{◌≡◌, ℕ, zero, suc, ◌+◌, ◌-◌, ◌<◌, ◌≤◌, List, [], ◌∷◌, ◌++◌, length, take, drop, sym, refl, ap, ◌∙◌, subst, inl, inr, ⊎_elim, arith, length-append, length-drop}
use Rattle.std.proofs.lemmas.List.{append_assoc, take-append-drop, take-take, take_at, take_all, drop-drop, drop-take, drop-append-le, length-take-le}
use Rattle.std.proofs.lemmas.Bool.{cond-false, cases_lt, ne_eqb}
use Rattle.rules.specs.Cutting.{cutting, Bounded, Joined}
use Rattle.rules.specs.Walls.{starts_below, total, Uncrossed, InThree}
use Rattle.rules.specs.Cuts.{shorter, cutting_some, cutting_none, joined_run, joined_rest}

-- ---- lengths of runs
pub total_append : (js ks : List ℕ) → total (js ++ ks) ≡ total js + total ks
total_append [] ks = omega arith
total_append (j ∷ js) ks = let i = total_append js ks in omega arith

pub total_take : (m n : ℕ) (ks : List ℕ) → m ≤ n → total (take m ks) ≤ total (take n ks)
total_take m n ks h =
    let all = ap total (take-append-drop m (take n ks)) in
    let parts = total_append (take m (take n ks)) (drop m (take n ks)) in
    let front = ap total (take-take m n ks h) in
    omega arith

starts_none : (ks : List ℕ) → starts_below 0 ks ≡ 0
starts_none [] = refl
starts_none (k ∷ ks) = refl

-- runs that end together at a place leave it uncrossed, whatever follows
uncrossed_by : (place : ℕ) (before after ks : List ℕ) → ks ≡ before ++ after → total before ≡ place → Uncrossed place ks
uncrossed_by place before after ks e t =
    let here = ap total (ap (take (length before)) e ∙ take_at before after (length before) refl) in
    λ k h.
    ⊎_elim
    (λ (lt : k < length before). let le = total_take (k + 1) (length before) ks (omega arith) in inl (omega arith))
    (λ (ge : length before ≤ k). let le = total_take (length before) k ks ge in inr (omega arith))
    (cases_lt k (length before))

-- ---- parts of a text
-- what lies between two places
abbrev pub inside : ℕ → ℕ → List ℕ → List ℕ
inside from to text = take (to - from) (drop from text)

pub inside_rest : (from to : ℕ) (text : List ℕ) → from ≤ to → inside from to text ++ drop to text ≡ drop from text
inside_rest from to text h =
    let e : from + (to - from) ≡ to = omega arith in
    ap (λ l. inside from to text ++ l) (sym (drop-drop (to - from) from text ∙ ap (λ k. drop k text) e)) ∙ take-append-drop (to - from) (drop from text)

pub front_inside : (from to : ℕ) (text : List ℕ) → from ≤ to → take from text ++ inside from to text ≡ take to text
front_inside from to text h =
    let e : from + (to - from) ≡ to = omega arith in
    let a = take-take from to text h in
    let b : drop from (take to text) ≡ inside from to text = ap (λ k. drop from (take k text)) (sym e) ∙ drop-take from (to - from) text in
    let c = take-append-drop from (take to text) in
    cc

module _ (run : List ℕ → ℕ) (b : Bounded run) where
  -- a text is cut apart at a place
  abbrev pub Parted : List ℕ → ℕ → Type 0
  Parted text place = Joined run (take place text) (drop place text)

  pub parted_cutting : (text : List ℕ) (place : ℕ) → Parted text place → cutting run text ≡ cutting run (take place text) ++ cutting run (drop place text)
  parted_cutting text place j = ap (cutting run) (sym (take-append-drop place text)) ∙ j

  total_by : (n : ℕ) (xs : List ℕ) → length xs ≤ n → total (cutting run xs) ≡ length xs
  total_by n [] h = ap total (cutting_none run b)
  total_by zero (x ∷ xs) h = absurd (omega arith)
  total_by (suc n) (x ∷ xs) h =
      let one : 1 ≤ length (x ∷ xs) = omega arith in
      let within = b.within (x ∷ xs) one in
      let rest = total_by n (drop (run (x ∷ xs)) (x ∷ xs)) (shorter _ n (x ∷ xs) (b.some (x ∷ xs) one) h) in
      let l = length-drop (run (x ∷ xs)) (x ∷ xs) in
      let all = ap total (cutting_some run b (x ∷ xs) one) in
      omega arith

  -- the runs of a text have its bytes
  pub total_cutting : (xs : List ℕ) → total (cutting run xs) ≡ length xs
  total_cutting xs = total_by (length xs) xs (omega arith)

  -- all runs of a text start below its end, and no run that follows does
  starts_alone : (ks : List ℕ) (n : ℕ) (xs : List ℕ) → length xs ≤ n → starts_below (length xs) (cutting run xs ++ ks) ≡ length (cutting run xs)
  starts_alone ks n [] h =
      ap (λ l. starts_below 0 (l ++ ks)) (cutting_none run b) ∙ starts_none ks ∙ sym (ap length (cutting_none run b))
  starts_alone ks zero (x ∷ xs) h = absurd (omega arith)
  starts_alone ks (suc n) (x ∷ xs) h =
      let one : 1 ≤ length (x ∷ xs) = omega arith in
      let rest = starts_alone ks n (drop (run (x ∷ xs)) (x ∷ xs)) (shorter _ n (x ∷ xs) (b.some (x ∷ xs) one) h) in
      let some = cutting_some run b (x ∷ xs) one in
      ap (λ l. starts_below (length (x ∷ xs)) (l ++ ks)) some
      ∙ cond-false _ _ _ (ne_eqb (length (x ∷ xs)) 0 (λ e. omega arith))
      ∙ ap (λ m. 1 + starts_below m (cutting run (drop (run (x ∷ xs)) (x ∷ xs)) ++ ks)) (sym (length-drop (run (x ∷ xs)) (x ∷ xs)))
      ∙ ap (λ m. 1 + m) rest
      ∙ (let l = ap length some in omega arith)

  -- the number of runs before the place is that of the text before it cut alone
  pub parted_number : (text : List ℕ) (place : ℕ) → place ≤ length text → Parted text place → starts_below place (cutting run text) ≡ length (cutting run (take place text))
  parted_number text place h j =
      ap (starts_below place) (parted_cutting text place j)
      ∙ ap (λ n. starts_below n (cutting run (take place text) ++ cutting run (drop place text))) (sym (length-take-le place text h))
      ∙ starts_alone (cutting run (drop place text)) (length (take place text)) (take place text) (omega arith)

  -- no run crosses the place
  pub parted_uncrossed : (text : List ℕ) (place : ℕ) → Parted text place → Uncrossed place (cutting run text)
  parted_uncrossed text place j =
      ⊎_elim
      (λ (lt : place < length text). uncrossed_by place _ _ _ (parted_cutting text place j) (total_cutting (take place text) ∙ length-take-le place text (omega arith)))
      (λ (ge : length text ≤ place). λ k h.
      let most = total_take (k + 1) (length (cutting run text)) (cutting run text) (omega arith) in
      let all = ap total (take_all (length (cutting run text)) (cutting run text) (omega arith)) in
      inl (omega (arith, most, all, total_cutting text)))
      (cases_lt place (length text))

  -- of three texts that are cut apart at both seams, the second and third are cut apart as well
  joined_by_first : (n : ℕ) (xs ys zs : List ℕ) → length xs ≤ n → Joined run xs (ys ++ zs) → Joined run (xs ++ ys) zs → Joined run ys zs
  joined_by_first n [] ys zs h i j = j
  joined_by_first zero (x ∷ xs) ys zs h i j = absurd (omega arith)
  joined_by_first (suc n) (x ∷ xs) ys zs h i j =
      let one : 1 ≤ length (x ∷ xs) = omega arith in
      let within = b.within (x ∷ xs) one in
      let more : 1 ≤ length ((x ∷ xs) ++ ys) = simp length-append (omega arith) in
      let begins : run ((x ∷ xs) ++ ys) ≡ run (x ∷ xs) =
      sym (joined_run run b ((x ∷ xs) ++ ys) zs more j) ∙ ap run (append_assoc (x ∷ xs) ys zs) ∙ joined_run run b (x ∷ xs) (ys ++ zs) one i in
      let rest : drop (run ((x ∷ xs) ++ ys)) ((x ∷ xs) ++ ys) ≡ drop (run (x ∷ xs)) (x ∷ xs) ++ ys =
      ap (λ k. drop k ((x ∷ xs) ++ ys)) begins ∙ drop-append-le (run (x ∷ xs)) (x ∷ xs) ys within in
      joined_by_first n (drop (run (x ∷ xs)) (x ∷ xs)) ys zs (shorter _ n (x ∷ xs) (b.some (x ∷ xs) one) h)
      (joined_rest run b (x ∷ xs) (ys ++ zs) one i)
      (subst (λ (l : List ℕ). Joined run l zs) rest (joined_rest run b ((x ∷ xs) ++ ys) zs more j))

  pub joined_between : (xs ys zs : List ℕ) → Joined run xs (ys ++ zs) → Joined run (xs ++ ys) zs → Joined run ys zs
  joined_between xs ys zs = joined_by_first (length xs) xs ys zs (omega arith)

  -- of two places, the second is one of what follows the first
  pub parted_inside : (text : List ℕ) (from to : ℕ) → from ≤ to → Parted text from → Parted text to → Joined run (inside from to text) (drop to text)
  parted_inside text from to h i j =
      joined_between (take from text) (inside from to text) (drop to text)
      (subst (λ (l : List ℕ). Joined run (take from text) l) (sym (inside_rest from to text h)) i)
      (subst (λ (l : List ℕ). Joined run l (drop to text)) (sym (front_inside from to text h)) j)

  pub parted_three : (text : List ℕ) (from to : ℕ) → from ≤ to → Parted text from → Parted text to → InThree run text from to
  parted_three text from to h i j =
      parted_cutting text from i
      ∙ ap (λ l. cutting run (take from text) ++ l) (ap (cutting run) (sym (inside_rest from to text h)) ∙ parted_inside text from to h i j)
