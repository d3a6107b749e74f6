-- A list of steps, one step further.
use Rattle.std.proofs.Common.{◌≡◌, ℕ, ◌+◌, ◌<◌, ◌≤◌, Bool, true, false, cond, eqb, ltb, List, [], ◌∷◌, ◌++◌, length, get_or, drop, set, None, Ok, Err, sym, ap, ◌∙◌, subst, ⊎_elim, arith}
use Rattle.std.specs.List.{AllByRecursion}
use Rattle.std.proofs.lemmas.List.{at_drop_more, at_drop_all, append_assoc, append-nil}
use Rattle.std.proofs.lemmas.Bool.{cond-true, cond-false, cases_Bool, eqb-true, ltb-true}
use Rattle.rules.specs.Cutting.{Bounded, Joined}
use Rattle.pins.specs.declared.pin.Pin.{Pin}
use Rattle.pins.specs.Kept.{kept}
use Rattle.books.specs.declared.book.Book.{Book}
use Rattle.books.specs.declared.call.Call.{Call}
use Rattle.books.specs.declared.call.Call.TheVariants.{Look, Fetch, Read, Pin as PinAt, Unpin, Try, Put}
use Rattle.books.specs.declared.call.Answer.{Answer}
use Rattle.books.specs.declared.call.Step.{Step}
use Rattle.books.specs.Plain.{Plain, opened, inside, upset_by, answer, after, handed_at, answers, final}
use Rattle.books.specs.Faithful.{TruePin, Faithful, Follows, places_of, plain_of}
use Rattle.books.specs.Moves.{Upset}
use Rattle.books.specs.Promises.{Stepped, CarriedOut, PutUpsets, EachPutUpsets, TruePins}
use Rattle.books.proofs.PutLaws.{upset_is}

-- what an answer says of the length and the place
pub answered_inside : {V : Type 0} (own handed place : ℕ) (x v : V) → inside own handed place (Ok x) ≡ Ok v → (place < own) × (x ≡ v)
answered_inside own handed place x v e =
    ⊎_elim
    (λ (same : eqb handed own ≡ true).
    let here : cond (ltb place handed) (Ok x) (Err _) ≡ Ok v = sym (cond-true _ _ _ same) ∙ e in
    ⊎_elim
    (λ (lt : ltb place handed ≡ true).
    let is : Ok x ≡ Ok v = sym (cond-true _ _ _ lt) ∙ here in
    let long = eqb-true handed own same in
    let less = ltb-true place handed lt in
    (omega arith, cc))
    (λ (no : ltb place handed ≡ false). let bad = sym (cond-false _ _ _ no) ∙ here in absurd (let z : ◌≡◌ {A = ℕ} 0 1 = cc in omega arith))
    (cases_Bool (ltb place handed)))
    (λ (other : eqb handed own ≡ false). let bad = sym (cond-false _ _ _ other) ∙ e in absurd (let z : ◌≡◌ {A = ℕ} 0 1 = cc in omega arith))
    (cases_Bool (eqb handed own))

module _ (run : List ℕ → ℕ) (b : Bounded run) (parts : List ℕ → List ℕ → Bool)
    (joins : (before after : List ℕ) → parts before after ≡ true → Joined run before after) where
  put_upsets : (p : Plain) (handed : ℕ) (call : Call) → PutUpsets run parts p handed call
  put_upsets p handed (Look place) = tt
  put_upsets p handed (Fetch number) = tt
  put_upsets p handed (Read k) = tt
  put_upsets p handed (PinAt place) = tt
  put_upsets p handed (Unpin place) = tt
  put_upsets p handed (Try place byte) = tt
  put_upsets p handed (Put place byte) = λ c e.
      let got = answered_inside (length p.bytes) handed place (upset_by run parts p place byte) c e in
      subst (Upset run parts p.bytes (set p.bytes place byte) place) got.1 (upset_is run b parts joins p.bytes place byte got.0 p.places)

  -- every put of a list, whatever a program does
  pub each_put_upsets : (p : Plain) (ss : List Step) → EachPutUpsets run parts p ss
  each_put_upsets p [] = tt
  each_put_upsets p (s ∷ ss) = (put_upsets p (handed_at p s) s.call, each_put_upsets (after run parts p (handed_at p s) s.call) ss)

-- a step, as what is read of an array past its end
abbrev pub no_step : Step
no_step = record { call = Look 0; handed = None }

-- after i steps: the book is faithful, and what is left gives the rest of the answers and the same end
pub record SoFar {R : Type 0} (run : List ℕ → ℕ) (parts : List ℕ → List ℕ → Bool) (first : Plain) (book : Book R) (text : List ℕ) (ss : List Step) (i : ℕ) (said : List Answer) : Type 0 where
  pub faithful : Faithful run parts book text
  pub answers_are : said ++ answers run parts (plain_of book text) (drop i ss) ≡ answers run parts first ss
  pub end_is : final run parts (plain_of book text) (drop i ss) ≡ final run parts first ss

module _ {R : Type 0} (run : List ℕ → ℕ) (parts : List ℕ → List ℕ → Bool) (first : Plain) (ss : List Step) where
  pub so_far_none : (book : Book R) (text : List ℕ) (said : List Answer) → said ≡ [] → Faithful run parts book text → plain_of book text ≡ first → SoFar run parts first book text ss 0 said
  so_far_none book text said empty f e =
      record {
        faithful = f;
        answers_are = ap (λ (l : List Answer). l ++ answers run parts (plain_of book text) ss) empty ∙ ap (λ (p : Plain). answers run parts p ss) e;
        end_is = ap (λ (p : Plain). final run parts p ss) e;
      }

  pub so_far_more : (book next : Book R) (text left : List ℕ) (i : ℕ) (r : Answer) (said more : List Answer) → i < length ss → SoFar run parts first book text ss i said
      → Stepped run parts (plain_of book text) (handed_at (plain_of book text) (get_or ss i no_step)) (get_or ss i no_step).call r next left → more ≡ said ++ r ∷ [] → SoFar run parts first next left ss (i + 1) more
  so_far_more book next text left i r said more h f s push =
      let now = plain_of book text in
      let step = get_or ss i no_step in
      let then : Plain = after run parts (plain_of book text) (handed_at (plain_of book text) (get_or ss i no_step)) (get_or ss i no_step).call in
      let opened : answers run parts (plain_of book text) (drop i ss) ≡ answer run parts (plain_of book text) (handed_at (plain_of book text) (get_or ss i no_step)) (get_or ss i no_step).call ∷ answers run parts then (drop (i + 1) ss) =
      at_drop_more (answers run parts (plain_of book text)) ss i no_step h in
      let ended : final run parts (plain_of book text) (drop i ss) ≡ final run parts then (drop (i + 1) ss) = at_drop_more (final run parts (plain_of book text)) ss i no_step h in
      record {
        faithful = s.follows.stays_faithful;
        answers_are =
            ap (λ (m : List Answer). m ++ answers run parts (plain_of next left) (drop (i + 1) ss)) push
            ∙ append_assoc said (r ∷ []) (answers run parts (plain_of next left) (drop (i + 1) ss))
            ∙ ap (λ (p : Plain). said ++ r ∷ answers run parts p (drop (i + 1) ss)) s.follows.is_plain
            ∙ ap (λ (v : Answer). said ++ v ∷ answers run parts then (drop (i + 1) ss)) s.answers_it
            ∙ ap (λ (l : List Answer). said ++ l) (sym opened)
            ∙ f.answers_are;
        end_is = ap (λ (p : Plain). final run parts p (drop (i + 1) ss)) s.follows.is_plain ∙ sym ended ∙ f.end_is;
      }

  pub so_far_all : (book : Book R) (text : List ℕ) (i : ℕ) (said : List Answer) → length ss ≤ i → SoFar run parts first book text ss i said
      → CarriedOut run parts first ss said book text
  so_far_all book text i said h f =
      let none : answers run parts (plain_of book text) (drop i ss) ≡ [] = at_drop_all (answers run parts (plain_of book text)) ss i h in
      let ended : final run parts (plain_of book text) (drop i ss) ≡ plain_of book text = at_drop_all (final run parts (plain_of book text)) ss i h in
      record {
        answers_are = sym (ap (λ (l : List Answer). said ++ l) none ∙ append-nil said) ∙ f.answers_are;
        follows = record { stays_faithful = f.faithful; is_plain = sym ended ∙ f.end_is };
      }

-- a book that was opened is faithful, and plain
pub opened_follows : {R : Type 0} (run : List ℕ → ℕ) (parts : List ℕ → List ℕ → Bool) (book : Book R) (text : List ℕ) → book.pins.size ≡ length text → kept book.pins ≡ []
    → Follows run parts book text (opened text)
opened_follows run parts book text long empty =
    record {
      stays_faithful = record { is_long = sym long; are_true = subst (AllByRecursion (TruePin run parts text)) (sym empty) tt };
      is_plain = ap (λ (qs : List Pin). record { bytes = text; places = places_of qs }) empty;
    }

-- what carrying out steps on an opened book gives, by the rule that the book was made with
pub replayed : {R : Type 0} (run : R → List ℕ → ℕ) (parts : R → List ℕ → List ℕ → Bool) (rule : R) (first last : Book R) (text left : List ℕ) (ss : List Step) (said : List Answer)
    → first.rule ≡ rule → first.pins.size ≡ length text → kept first.pins ≡ []
    → (Faithful (run first.rule) (parts first.rule) first text → CarriedOut (run first.rule) (parts first.rule) (plain_of first text) ss said last left)
    → CarriedOut (run rule) (parts rule) (opened text) ss said last left
replayed run parts rule first last text left ss said same long empty told =
    let f = opened_follows (run first.rule) (parts first.rule) first text long empty in
    let carried = told f.stays_faithful in
    let plainly = subst (λ (p : Plain). CarriedOut (run first.rule) (parts first.rule) p ss said last left) f.is_plain carried in
    subst (λ ρ. CarriedOut (run ρ) (parts ρ) (opened text) ss said last left) same plainly

-- the text and the pins at the end
pub end_true : {R : Type 0} (run : List ℕ → ℕ) (parts : List ℕ → List ℕ → Bool) (first : Plain) (last : Book R) (left : List ℕ) (ss : List Step) (said : List Answer)
    → CarriedOut run parts first ss said last left
    → (left ≡ (final run parts first ss).bytes) × TruePins run parts left (final run parts first ss).places (kept last.pins)
end_true run parts first last left ss said c =
    let e = c.follows.is_plain in (
      ap (λ (p : Plain). p.bytes) e,
      record { at_its_places = ap (λ (p : Plain). p.places) e; are_true = c.follows.stays_faithful.are_true },
    )
