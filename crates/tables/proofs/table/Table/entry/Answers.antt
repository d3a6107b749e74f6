use Rattle.std.proofs.Common.{◌≡◌, ℕ, ◌+◌, ◌<◌, length, get_or, sym, ap, ◌∙◌, arith}
use Rattle.std.proofs.lemmas.List.{get_or_read}
use Rattle.tables.specs.Words.{signed8}
use Rattle.tables.specs.Layout.{class_table}
use Rattle.tables.specs.Meaning.{bytes_of}
use Rattle.tables.specs.declared.table.Table.{Table}
use Rattle.tables.proofs.Classed.{class_table_in, entry_at}
use Rattle.tables.proofs.Kept.{table_passes, table_length}
use Rattle.tables.proofs.table.Table.entry.Goals as goal

module _ (t : Table) (x : ℕ) (lt : x < 256) where
  place_in : t.judgement.layout.class_place + x < length (bytes_of t)
  place_in =
      let h = class_table_in (bytes_of t) (table_passes t) in
      let at = t.class_place_is in
      omega arith

  fits : t.judgement.layout.class_place + x < 18446744073709551616
  fits = let h = place_in in let e = table_length t in let f = t.bytes.small in omega arith

pub overflow_add-self : goal.overflow_add-self
overflow_add-self c = let f = c.ranges.byte in let is = c.from.ensures in let h = fits c.args.self.now c.args.byte (omega arith) in omega arith

pub index-requires : goal.index-requires
index-requires c =
    let f = c.ranges.byte in
    let h = place_in c.args.self.now c.args.byte (omega arith) in
    let n = table_length c.args.self.now in
    let is = c.from.ensures in
    omega arith

pub returns : goal.returns
returns c =
    let t = c.args.self.now in
    let b = bytes_of t in
    let f = c.ranges.byte in
    let lt : c.args.byte < 256 = omega arith in
    let at : t.judgement.layout.class_place + c.from.result ≡ class_table b + c.args.byte = let is = c.from.ensures in let place = t.class_place_is in omega arith in
    let inside : t.judgement.layout.class_place + c.from.result < length b = let is = c.from.ensures in let h = place_in t c.args.byte lt in omega arith in
    ap signed8 (get_or_read b _ _ inside c.index.ensures 0 ∙ ap (λ (n : ℕ). get_or b n 0) at)
    ∙ sym (entry_at b (table_passes t) c.args.byte lt)
