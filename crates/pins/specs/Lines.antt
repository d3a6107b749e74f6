-- The line in which a pin is printed.
use Rattle.std.specs.Prelude.{ℕ, List, ◌++◌, codes, decimal}
use Rattle.pins.specs.declared.pin.Pin.{Pin}

abbrev pub pin_line : Pin → List ℕ
pin_line p = codes "place " ++ (decimal p.place ++ (codes " number " ++ decimal p.number))
