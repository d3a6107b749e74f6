-- Find on a text that a book was opened on.
use Rattle.std.proofs.Common.{◌≡◌, ℕ, zero, suc, ◌≤◌, List, [], ◌∷◌, length, drop, Ok, sym, refl, ap, ◌∙◌, arith}
use Rattle.rules.specs.Cutting.{cut, cutting}
use Rattle.rules.specs.Runs.{run_over_byte, span_of}
use Rattle.rules.proofs.Lawful.{answered}
use Rattle.tables.specs.Meaning.{bytes_of}
use Rattle.breaks.specs.Meaning.{run_of}
use Rattle.finds.specs.Finds.{found}
use Rattle.finds.proofs.Begins.{begin_low}
use Rattle.finds.proofs.SteadyWalls.{found_whole}
use Rattle.books.specs.declared.book.Book.{Book}
use Rattle.books.specs.Plain.{Plain}
use Rattle.books.specs.Faithful.{Follows}
use Rattle.books.specs.Promises.{FindAsLook}
use Rattle.books.proofs.StepLaws.{answered_inside}

-- runs that are the same on every text that is not empty cut alike
module _ (f g : List ℕ → ℕ) (same : (xs : List ℕ) → 1 ≤ length xs → f xs ≡ g xs) where
  cut_alike : (n : ℕ) (xs : List ℕ) → cut f n xs ≡ cut g n xs
  unfolding cut
  cut_alike zero xs = refl
  cut_alike (suc n) [] = refl
  cut_alike (suc n) (x ∷ xs) =
      let e = same (x ∷ xs) (omega arith) in
      ap (λ k. k ∷ cut f n (drop k (x ∷ xs))) e ∙ ap (λ (l : List ℕ). g (x ∷ xs) ∷ l) (cut_alike n (drop (g (x ∷ xs)) (x ∷ xs)))

  cutting_alike : (xs : List ℕ) → cutting f xs ≡ cutting g xs
  unfolding cutting
  cutting_alike xs = cut_alike (length xs) xs

pub find_as_look : (run : List ℕ → ℕ) (b : Plain) → length b.bytes ≤ 16383 → FindAsLook run b
find_as_look run b short = λ t steady same place r e.
    let text = b.bytes in
    let got = answered_inside (length b.bytes) (length b.bytes) place (run_over_byte (cutting run b.bytes) place) r e in
    let whole = found_whole t.table steady b.bytes place (begin_low (bytes_of t.table) b.bytes place) got.0 in
    let alike = cutting_alike (run_of t) run same b.bytes in
    sym (answered b.bytes place (found (bytes_of t.table) b.bytes place) short got.0)
    ∙ ap (λ v. Ok v) (whole ∙ ap (λ ks. span_of (run_over_byte ks place)) alike ∙ ap span_of got.1)

-- a book's text is no longer than a text may be
pub short_end : {R : Type 0} (run : List ℕ → ℕ) (parts : List ℕ → List ℕ → _) (book : Book R) (text : List ℕ) (p : Plain) → Follows run parts book text p → length p.bytes ≤ 16383
short_end run parts book text p f =
    omega (arith, ap (λ (q : Plain). length q.bytes) f.is_plain, f.stays_faithful.is_long, book.pins.short)
