use Rattle.std.proofs.Common.{Ok, refl, ap, ◌∙◌}
use Rattle.pins.specs.Kept.{kept}
use Rattle.books.specs.Faithful.{places_of}
use Rattle.books.proofs.Refusing.{place_taken}
use Rattle.books.proofs.PutLaws.{upset_by_it}
use Rattle.books.proofs.book.Book.try_put.Goals as goal

pub returns : goal.returns
returns g c =
    let book = c.args.self.now in
    let xs = c.args.text.now in
    let run = g.R.Rule.run book.rule in
    let parts = g.R.Rule.parts book.rule in
    let told = c.judge.ensures in
    let checked = c.in_ok-check_place.ensures in
    record {
      answer = ap (λ x. Ok x) told.change ∙ place_taken _ book.pins.size _ c.args.place book.pins.size refl checked.0 checked.1;
      upset = upset_by_it run (g.met.R.Rule.bounds book.rule) parts (g.met.R.Rule.joins book.rule) xs c.args.place c.args.byte checked.1 (places_of (kept book.pins)) _ told.change;
      restored = told.restored;
      pins = refl;
      rule = refl;
    }
