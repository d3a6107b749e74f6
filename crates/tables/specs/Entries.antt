-- What an entry of the class table says, by its sign and its oddness.
use Rattle.std.specs.Prelude.{◌≡◌, ℕ, ◌-◌, ◌<◌, ◌≤◌, true, false}
use Rattle.tables.specs.Words.{even}
use Rattle.tables.specs.declared.entry.Entry.{Entry}
use Rattle.tables.specs.declared.entry.Entry.TheVariants.{Class, Odd, Even}

-- the byte x as an entry: below 128 a class, and else -k, k being 256 - x
abbrev pub Reads : ℕ → Entry → Type 0
Reads x (Class c) = (x < 128) × (c ≡ x)
Reads x (Odd k) = (128 ≤ x) × (k ≡ 256 - x) × (even k ≡ false)
Reads x (Even k) = (128 ≤ x) × (k ≡ 256 - x) × (even k ≡ true)
