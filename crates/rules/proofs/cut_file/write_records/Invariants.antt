use Rattle.std.proofs.Common.{◌≡◌, ◌+◌, ◌*◌, ◌++◌, length, take, drop}
use Rattle.rules.specs.CutFiles.{cut_file, file_size}
use Rattle.rules.proofs.RunLists.{all_records, Within}
use Rattle.rules.proofs.cut_file.write_records.Given as goal

-- the records written and those of the runs that are left are all, and past them the buffer is as it was
abbrev pub invariant-loop-run : goal.invariant-loop-run
invariant-loop-run g l =
    record {
      size : l.filled + 4 * length l.run-iterator ≡ file_size (g.R.Rule.run l.page.rule.now) l.page.text.now;
      front : take l.filled l.buffer ++ all_records l.run-iterator ≡ cut_file (g.R.Rule.run l.page.rule.now) l.page.text.now;
      rest : drop l.filled l.buffer ≡ drop l.filled l.initial.buffer;
      within : Within (length l.page.text.now) l.run-iterator;
    }
