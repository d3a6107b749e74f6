-- Runs by number and by place.
use Rattle.std.proofs.Common.{◌≡◌, ℕ, suc, ◌+◌, ◌-◌, ◌<◌, ◌≤◌, leb, List, [], ◌∷◌, ◌++◌, length, take, drop, sym, refl, ap, ◌∙◌, arith}
use Rattle.std.proofs.lemmas.List.{length-take-le}
use Rattle.std.proofs.lemmas.Bool.{cond-true, cond-false, le-leb, lt-leb}
use Rattle.rules.specs.Cutting.{cutting, Bounded}
use Rattle.rules.specs.Walls.{total}
use Rattle.rules.specs.Runs.{number_over, nth_from, over_from, run_over_byte}
use Rattle.rules.specs.declared.runs.Run.{Run}
use Rattle.rules.specs.Cuts.{cutting_from}
use Rattle.rules.proofs.WallLaws.{Parted, parted_cutting, total_cutting}

abbrev pub a_run : ℕ → ℕ → ℕ → Run
a_run n s e = record { number = n; start = s; end = e }

pub same_run : (n m s t e f : ℕ) → n ≡ m → s ≡ t → e ≡ f → a_run n s e ≡ a_run m t f
same_run n m s t e f x y z = ap (λ v. a_run v s e) x ∙ ap (λ v. a_run m v e) y ∙ ap (λ v. a_run m t v) z

-- so many runs further
abbrev pub later_by : ℕ → Run → Run
later_by n r = a_run (n + r.number) r.start r.end

pub later_more : (n : ℕ) (r s t : Run) → r ≡ later_by n s → s ≡ later_by 1 t → r ≡ later_by (n + 1) t
later_more n r s t e f = e ∙ ap (later_by n) f ∙ ap (λ m. a_run m t.start t.end) (let z : n + (1 + t.number) ≡ n + 1 + t.number = omega arith in z)

pub later_first : (n s e : ℕ) (r t : Run) → r ≡ later_by n t → t ≡ a_run 0 s e → a_run n s e ≡ r
later_first n s e r t x y = sym (x ∙ ap (later_by n) y ∙ ap (λ m. a_run m s e) (let z : n + 0 ≡ n = omega arith in z))

-- the run over a place of runs that begin at `from`
abbrev over : ℕ → List ℕ → ℕ → Run
over from ks place = nth_from from ks (number_over (place - from) ks)

over_first : (from k place : ℕ) (ks : List ℕ) → from ≤ place → place < from + k → over from (k ∷ ks) place ≡ a_run 0 from (from + k)
over_first from k place ks h l =
    ap (λ n. nth_from from (k ∷ ks) n) (cond-false (leb k (place - from)) _ _ (lt-leb k (place - from) (omega arith)))
    ∙ same_run 0 0 (from + 0) from (from + (k + 0)) (from + k) refl (omega arith) (omega arith)

nth_later : (from k n : ℕ) (ks : List ℕ) → nth_from from (k ∷ ks) (1 + n) ≡ later_by 1 (nth_from (from + k) ks n)
nth_later from k n ks =
    same_run (1 + n) (1 + n) (from + total (take (1 + n) (k ∷ ks))) (from + k + total (take n ks)) (from + total (take (1 + n + 1) (k ∷ ks))) (from + k + total (take (n + 1) ks))
    refl
    (ap (λ j. from + total (take j (k ∷ ks))) (first n) ∙ (let z : from + (k + total (take n ks)) ≡ from + k + total (take n ks) = omega arith in z))
    (ap (λ j. from + total (take j (k ∷ ks))) (next n) ∙ (let z : from + (k + total (take (n + 1) ks)) ≡ from + k + total (take (n + 1) ks) = omega arith in z))
  where
    first : (n : ℕ) → 1 + n ≡ suc n
    first n = omega arith

    next : (n : ℕ) → 1 + n + 1 ≡ suc (n + 1)
    next n = omega arith

over_later : (from k place : ℕ) (ks : List ℕ) → from + k ≤ place → over from (k ∷ ks) place ≡ later_by 1 (over (from + k) ks place)
over_later from k place ks h =
    let e : place - from - k ≡ place - (from + k) = omega arith in
    ap (λ n. nth_from from (k ∷ ks) n) (cond-true (leb k (place - from)) _ _ (le-leb k (place - from) (omega arith)) ∙ ap (λ p. 1 + number_over p ks) e)
    ∙ nth_later from k (number_over (place - (from + k)) ks) ks

-- ---- one turn of a walk
module _ (run : List ℕ → ℕ) (b : Bounded run) (text : List ℕ) (from end : ℕ) (inside : from < length text) (is : end ≡ from + run (drop from text)) where
  rest : cutting run (drop from text) ≡ run (drop from text) ∷ cutting run (drop end text)
  rest = cutting_from run b text from end inside is

  pub walk_ends : (place : ℕ) → from ≤ place → place < end → over_from run text from place ≡ a_run 0 from end
  walk_ends place h l =
      ap (λ ks. over from ks place) rest ∙ over_first from (run (drop from text)) place _ h (omega arith) ∙ ap (a_run 0 from) (sym is)

  pub walk_goes : (place : ℕ) → end ≤ place → over_from run text from place ≡ later_by 1 (over_from run text end place)
  walk_goes place h =
      ap (λ ks. over from ks place) rest ∙ over_later from (run (drop from text)) place _ (omega arith)
      ∙ ap (λ e. later_by 1 (over e (cutting run (drop end text)) place)) (sym is)

  pub nth_ends : nth_from from (cutting run (drop from text)) 0 ≡ a_run 0 from end
  nth_ends =
      ap (λ ks. nth_from from ks 0) rest
      ∙ same_run 0 0 (from + 0) from (from + (run (drop from text) + 0)) end refl (omega arith) (omega arith)

  pub nth_goes : (n : ℕ) → nth_from from (cutting run (drop from text)) (1 + n) ≡ later_by 1 (nth_from end (cutting run (drop end text)) n)
  nth_goes n =
      ap (λ ks. nth_from from ks (1 + n)) rest ∙ nth_later from (run (drop from text)) n _
      ∙ ap (λ e. later_by 1 (nth_from e (cutting run (drop end text)) n)) (sym is)

  pub runs_goes : length (cutting run (drop from text)) ≡ 1 + length (cutting run (drop end text))
  runs_goes = ap length rest ∙ (let z : suc (length (cutting run (drop end text))) ≡ 1 + length (cutting run (drop end text)) = omega arith in z)

-- ---- runs past a front
number_past : (js ks : List ℕ) (place : ℕ) → total js ≤ place → number_over place (js ++ ks) ≡ length js + number_over (place - total js) ks
number_past [] ks place h =
    let e : place ≡ place - 0 = omega arith in
    let same = ap (λ p. number_over p ks) e in
    omega arith
number_past (j ∷ js) ks place h =
    let e : place - j - total js ≡ place - (j + total js) = omega arith in
    let i = number_past js ks (place - j) (omega arith) in
    let same = ap (λ p. number_over p ks) e in
    cond-true (leb j place) _ _ (le-leb j place (omega arith)) ∙ (let z : 1 + number_over (place - j) (js ++ ks) ≡ suc (length js) + number_over (place - (j + total js)) ks = omega arith in z)

pub starts_past : (js ks : List ℕ) (n : ℕ) → total (take (length js + n) (js ++ ks)) ≡ total js + total (take n ks)
starts_past [] ks n = let e : 0 + n ≡ n = omega arith in let same = ap (λ m. total (take m ks)) e in omega arith
starts_past (j ∷ js) ks n =
    let e : suc (length js) + n ≡ suc (length js + n) = omega arith in
    let i = starts_past js ks n in
    ap (λ m. total (take m (j ∷ js ++ ks))) e ∙ (let z : j + total (take (length js + n) (js ++ ks)) ≡ j + total js + total (take n ks) = omega arith in z)

module _ (run : List ℕ → ℕ) (b : Bounded run) (text : List ℕ) (from : ℕ) (parted : Parted run b text from) (short : from ≤ length text) where
  front_total : total (cutting run (take from text)) ≡ from
  front_total = total_cutting run b (take from text) ∙ length-take-le from text short

  -- run n of the text from a wall on is a run of the whole text
  pub nth_parted : (n : ℕ) → nth_from 0 (cutting run text) (length (cutting run (take from text)) + n) ≡ later_by (length (cutting run (take from text))) (nth_from from (cutting run (drop from text)) n)
  nth_parted n =
      let front = cutting run (take from text) in
      let back = cutting run (drop from text) in
      let t = front_total in
      let start = starts_past (cutting run (take from text)) (cutting run (drop from text)) n in
      let end = ap (λ j. total (take j (cutting run (take from text) ++ cutting run (drop from text)))) (more (length (cutting run (take from text)))) ∙ starts_past (cutting run (take from text)) (cutting run (drop from text)) (n + 1) in
      ap (λ ks. nth_from 0 ks (length (cutting run (take from text)) + n)) (parted_cutting run b text from parted)
      ∙ same_run _ _ _ _ _ _ refl (omega (arith, t, start)) (omega (arith, t, end))
    where
      more : (m : ℕ) → m + n + 1 ≡ m + (n + 1)
      more m = omega arith

  pub over_later_parted : (place : ℕ) → from ≤ place → run_over_byte (cutting run text) place ≡ later_by (length (cutting run (take from text))) (over_from run text from place)
  over_later_parted place h =
      let t = front_total in
      let e : place - total (cutting run (take from text)) ≡ place - from = omega arith in
      let number : number_over place (cutting run text) ≡ length (cutting run (take from text)) + number_over (place - from) (cutting run (drop from text)) =
      ap (number_over place) (parted_cutting run b text from parted) ∙ number_past _ _ place (omega arith) ∙ ap (λ p. length (cutting run (take from text)) + number_over p (cutting run (drop from text))) e in
      ap (nth_from 0 (cutting run text)) number ∙ nth_parted (number_over (place - from) (cutting run (drop from text)))

  -- the run over a place, seen from a wall before it
  pub over_parted : (place : ℕ) → from ≤ place
      → ((run_over_byte (cutting run text) place).start ≡ (over_from run text from place).start) × ((run_over_byte (cutting run text) place).end ≡ (over_from run text from place).end)
      × ((run_over_byte (cutting run text) place).number ≡ length (cutting run (take from text)) + (over_from run text from place).number)
  over_parted place h =
      let e = over_later_parted place h in
      (ap (λ (r : Run). r.start) e, ap (λ (r : Run). r.end) e, ap (λ (r : Run). r.number) e)
