use Rattle.std.proofs.Common.{ℕ, List, set, Ok, sym, refl, ap, ◌∙◌}
use Rattle.pins.specs.Kept.{kept}
use Rattle.books.specs.declared.call.Change.{Change}
use Rattle.books.specs.Faithful.{places_of}
use Rattle.books.specs.Moves.{renumbered}
use Rattle.books.proofs.Refusing.{place_taken}
use Rattle.books.proofs.PutLaws.{upset_by_it, follows_put}
use Rattle.books.proofs.book.Book.put.Goals as goal

pub returns : goal.returns
returns g c =
    let book = c.args.self.now in
    let xs = c.args.text.now in
    let run = g.R.Rule.run book.rule in
    let parts = g.R.Rule.parts book.rule in
    let p = c.args.place in
    let v = c.args.byte in
    let told = c.judge-judged.ensures in
    let checked = c.in_ok-check_place.ensures in
    let out = ap (λ (z : List ℕ). set z p v) told.restored in
    record {
      answer = ap (λ x. Ok x) told.change ∙ place_taken _ book.pins.size _ p book.pins.size refl checked.0 checked.1;
      upset = upset_by_it run (g.met.R.Rule.bounds book.rule) parts (g.met.R.Rule.joins book.rule) xs p v checked.1 (places_of (kept book.pins)) _ told.change;
      written = out;
      keeps = (
        told.pins ∙ ap (λ (d : Change). renumbered parts (set xs p v) d.to d.difference (kept book.pins)) (sym told.change),
        told.size,
      );
      follows = λ f.
          follows_put run (g.met.R.Rule.bounds book.rule) parts (g.met.R.Rule.joins book.rule) xs p v checked.1 (kept book.pins) _ _ out f.are_true (checked.0 ∙ sym told.size) told.pins;
      rule = refl;
    }
