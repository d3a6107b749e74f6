use Rattle.std.proofs.Common.{◌++◌}
use Rattle.std.specs.Fmt.{HasWritten, IsPlainFormatter}
use Rattle.std.specs.List.{flat_map}
use Rattle.session.specs.Lines.{hex, first}
use Rattle.session.proofs.show.TextLineDisplay.fmt.Given as goal

-- so far the word and the bytes that were yielded are written
abbrev pub invariant-loop-byte : goal.invariant-loop-byte
invariant-loop-byte g l = IsPlainFormatter l.fn.f → HasWritten g.W.Write.write_str_gives l.fn.f (first l.fn.self.bytes.now ++ flat_map hex l.yielded) l.f
