-- Where the fields of a header stand.
use Rattle.std.specs.Prelude.{ℕ}
use Rattle.tables.specs.declared.field.Field.{Field}
use Rattle.tables.specs.declared.field.Field.TheVariants.{Classes, Auxiliary, Backward, Forward, Backup, Length}

abbrev pub place_of : Field → ℕ
place_of Classes = 4
place_of Auxiliary = 6
place_of Backward = 8
place_of Forward = 10
place_of Backup = 12
place_of Length = 14
