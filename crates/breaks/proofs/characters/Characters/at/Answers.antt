use Rattle.std.proofs.Common.{ℕ, ◌+◌, ◌<◌, ◌∷◌, length, get_or, drop, sym, ap, ◌∙◌, subst, arith}
use Rattle.refusals.specs.declared.Direction.TheVariants.{Forward}
use Rattle.tables.specs.Layout.{classes}
use Rattle.tables.specs.Classes.{leads, one_class, two_class}
use Rattle.tables.specs.Meaning.{bytes_of}
use Rattle.tables.proofs.Kept.{table_passes}
use Rattle.tables.proofs.Tabled.{classes_low, list_passes}
use Rattle.tables.proofs.Classed.{one_low, two_low}
use Rattle.breaks.specs.Chars.{char, chars}
use Rattle.breaks.specs.CharLaws.{read_one, read_two, read_short}
use Rattle.breaks.proofs.characters.Characters.at.Goals as goal

pub returns-in-Some : goal.returns-in-Some
returns-in-Some c =
    let t = c.args.self.now.table.now in
    let b = bytes_of t in
    let text = c.args.self.now.text.now in
    let p = c.args.place in
    let e = c.in-Some.ensures in
    let inside = c.requires in
    record {
      some = omega arith;
      within = omega arith;
      low = subst (λ (n : ℕ). n < classes b) (sym e.1) (one_low b (table_passes t) (get_or text p 0) e.0);
      reads =
          read_one (leads b) (one_class b) (two_class b) text p inside e.0
          ∙ ap (λ (n : ℕ). char 1 n ∷ chars (leads b) (one_class b) (two_class b) (drop (p + 1) text)) (sym e.1);
    }

pub returns-then-place-self : goal.returns-then-place-self
returns-then-place-self c =
    let t = c.args.self.now.table.now in
    let b = bytes_of t in
    let text = c.args.self.now.text.now in
    let p = c.args.place in
    let least = classes_low b (list_passes b (table_passes t) Forward) in
    record {
      some = omega arith;
      within = omega arith;
      low = omega arith;
      reads = read_short (leads b) (one_class b) (two_class b) text p c.if-place-self.true c.in_default.ensures;
    }

pub returns : goal.returns
returns c =
    let t = c.args.self.now.table.now in
    let b = bytes_of t in
    let text = c.args.self.now.text.now in
    let p = c.args.place in
    let inside = c.requires in
    let more : p + 1 < length text = let ne = c.if-place-self.false in omega arith in
    let is = c.two_byte_class.ensures in
    record {
      some = omega arith;
      within = omega arith;
      low = subst (λ (n : ℕ). n < classes b) (sym is) (two_low b (table_passes t) (get_or text p 0) (get_or text (p + 1) 0) c.in_default.ensures);
      reads =
          read_two (leads b) (one_class b) (two_class b) text p more c.in_default.ensures
          ∙ ap (λ (n : ℕ). char 2 n ∷ chars (leads b) (one_class b) (two_class b) (drop (p + 2) text)) (sym is);
    }
