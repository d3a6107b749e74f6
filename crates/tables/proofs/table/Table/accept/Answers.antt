use Rattle.std.proofs.Common.{ℕ, List, is_some, vec_items, ap, subst}
use Rattle.tables.specs.Verdicts.{Judged}
use Rattle.tables.proofs.table.Table.accept.Goals as goal

-- what is judged of the slice is judged of the bytes
judged : (c : goal.In-Ok) → Judged (vec_items c.args.bytes) c.in-Ok.judgement
judged c = subst (λ (b : List ℕ). Judged b c.in-Ok.judgement) c.deref.ensures.value c.in-Ok.ensures

pub invariant_of-result : goal.invariant_of-result
invariant_of-result c =
    let j = judged c in
    let s = j.sure_bits in
    let l = j.is_laid in
    record {
      passes = ap is_some j.is_sound.passes;
      advances = j.is_sound.advances;
      sound = λ x y r h. (s.bits x y h.0 h.1).0 h.2 r h.3;
      complete = λ x y h. (s.bits x y h.0 h.1).1 h.2;
      none_first = s.none_first;
      none_second = s.none_second;
      class_place_is = l.class_place_is;
      code_start_is = l.code_start_is;
      state_total_is = l.state_total_is;
      class_total_is = l.class_total_is;
    }
