-- The pins that a value of the type holds.
use Rattle.std.specs.Prelude.{List, take}
use Rattle.pins.specs.declared.pin.Pin.{Pin}
use Rattle.pins.specs.declared.pins.Pins.{Pins}

-- the first entries, as many as it counts
abbrev pub kept : Pins → List Pin
kept p = take p.count p.entries
