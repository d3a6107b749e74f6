use Rattle.std.proofs.Common.{◌≡◌, ℕ, ◌+◌, ◌-◌, ◌*◌, ◌<◌, ◌≤◌, List, length, take, drop, sym, ap, ◌∙◌, subst, arith}
use Rattle.refusals.specs.declared.Direction.TheVariants.{Forward}
use Rattle.tables.specs.Layout.{states, codes, code_place, code_count}
use Rattle.tables.specs.Meaning.{bytes_of}
use Rattle.tables.specs.declared.table.Table.{Table}
use Rattle.tables.proofs.Heads.{head}
use Rattle.tables.proofs.Tabled.{listed, classes_low, classes_high, header_passes, list_passes, named}
use Rattle.tables.proofs.Kept.{table_passes, table_length}
use Rattle.tables.proofs.Slices.{part_size, part_is}
use Rattle.tables.proofs.table.Table.forward.Goals as goal

module _ (t : Table) where
  -- as many codes as the bytes have
  count : (t.judgement.layout.state_total - 1) * t.judgement.layout.class_total ≡ code_count (bytes_of t) Forward
  count =
      ap (λ (m : ℕ). (m - 1) * t.judgement.layout.class_total) t.state_total_is
      ∙ ap (λ (m : ℕ). (states (bytes_of t) Forward - 1) * m) t.class_total_is

  -- the codes end inside the bytes
  inside : t.judgement.layout.code_start + (t.judgement.layout.state_total - 1) * t.judgement.layout.class_total ≤ length (bytes_of t)
  inside =
      let b = bytes_of t in
      let p = table_passes t in
      let rows = (listed b Forward (list_passes b p Forward)).rows_in in
      let whole = (head b (header_passes b p)).size_high in
      let start = t.code_start_is in
      let n = count in
      omega arith

  low : 1 ≤ t.judgement.layout.state_total
  low = let l = (listed (bytes_of t) Forward (list_passes (bytes_of t) (table_passes t) Forward)).low in let s = t.state_total_is in omega arith

  fits : t.judgement.layout.code_start + (t.judgement.layout.state_total - 1) * t.judgement.layout.class_total < 18446744073709551616
  fits = let h = inside in let e = table_length t in let f = t.bytes.small in omega arith

pub overflow_sub-end : goal.overflow_sub-end
overflow_sub-end c = low c.args.self.now

pub overflow_mul-end : goal.overflow_mul-end
overflow_mul-end c = let h = fits c.args.self.now in omega arith

pub overflow_add-end : goal.overflow_add-end
overflow_add-end c = let h = fits c.args.self.now in omega arith

pub slice_bounds-new-end : goal.slice_bounds-new-end
slice_bounds-new-end c = let h = inside c.args.self.now in let n = ap length c.deref.ensures.value in omega arith

pub new-requires : goal.new-requires
new-requires c =
    let t = c.args.self.now in
    let b = bytes_of t in
    let p = table_passes t in
    let at = t.judgement.layout.code_start in
    let n = (t.judgement.layout.state_total - 1) * t.judgement.layout.class_total in
    let s = c.deref.result.now in
    let same = c.deref.ensures.value in
    let end : at + n ≤ length s = subst (λ (l : List ℕ). at + n ≤ length l) (sym same) (inside t) in
    let l = listed b Forward (list_passes b p Forward) in
    let lo = classes_low b (list_passes b p Forward) in
    let hi = classes_high b (list_passes b p Forward) in
    let states-are = t.state_total_is in
    let classes-are = t.class_total_is in
    let rows : take (at + n - at) (drop at s) ≡ codes b Forward =
    part_is s at n end ∙ ap (λ (m : ℕ). take m (drop at s)) (count t) ∙ ap (λ (m : ℕ). take (code_count b Forward) (drop m s)) t.code_start_is
    ∙ ap (λ (l : List ℕ). take (code_count b Forward) (drop (code_place b Forward 0) l)) same in
    record {
      extent = (omega arith, (omega arith, (omega arith, (omega arith, part_size s at n end))));
      named = named b Forward _ t.judgement.layout.state_total p rows (part_size s at n end ∙ count t) states-are;
    }
