use Rattle.std.proofs.Common.{◌≡◌, ℕ, ◌+◌, leb, ap, ◌∙◌, arith}
use Rattle.tables.specs.Layout.{size, code_place, code_count}
use Rattle.tables.proofs.parts.state_part.StatePart.rows_fit.Goals as goal

pub returns : goal.returns
returns c =
    let b = c.args.self.now.parts.bytes.now in
    let d = c.args.self.now.direction in
    let at = c.first_code_place.ensures.value in
    let n = c.code_total.ensures.value in
    let end : c.first_code_place.result + c.code_total.result ≡ code_place b d (code_count b d) = omega arith in
    ap (λ (m : ℕ). leb m c.size.result) end ∙ ap (leb (code_place b d (code_count b d))) (c.size.ensures ∙ ap size c.head.ensures)
