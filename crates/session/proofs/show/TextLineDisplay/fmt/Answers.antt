use Rattle.std.proofs.Common.{subst, rules}
use Rattle.std.proofs.Output.{has_written_append}
use Rattle.std.proofs.lemmas.List.{flat_map_more}
use Rattle.std.specs.Fmt.{HasWritten}
use Rattle.session.specs.Lines.{hex, first}
use Rattle.session.proofs.show.TextLineDisplay.fmt.Goals as goal

pub loop-byte-preserved : goal.loop-byte-preserved
loop-byte-preserved g c = λ plain.
    let so_far = c.loop-byte.invariant plain in
    let more = has_written_append _ _ _ _ _ _ so_far (c.write_hex.ensures so_far.plain (search rules)) in
    subst (λ text. HasWritten g.W.Write.write_str_gives c.args.f.now text c.write_hex.new.f) (flat_map_more hex (first c.args.self.now.bytes.now) c.loop-byte.yielded c.in-Some.byte) more
