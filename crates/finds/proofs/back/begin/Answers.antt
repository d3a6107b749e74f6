use Rattle.std.proofs.Common.{◌≤◌, sym, ◌∙◌, arith}
use Rattle.std.proofs.lemmas.Bool.{cond-false, le-ltb}
use Rattle.tables.specs.Layout.{backup}
use Rattle.tables.specs.Meaning.{bytes_of}
use Rattle.finds.proofs.back.begin.Goals as goal

pub returns-else-place-backup : goal.returns-else-place-backup
returns-else-place-backup c =
    let past : backup (bytes_of c.args.characters.now.table.now) ≤ c.args.place = let e = c.backup.ensures in omega arith in
    record { value = c.scan_back.ensures.value ∙ sym (cond-false _ _ _ (le-ltb c.args.place (backup (bytes_of c.args.characters.now.table.now)) past)); within = c.scan_back.ensures.within }
