-- What an entry of the class table says.
use Rattle.std.proofs.Common.{◌≡◌, ℕ, ◌≤◌, refl}
use Rattle.tables.specs.declared.entry.Entry.{Entry}
use Rattle.tables.specs.declared.entry.Entry.TheVariants.{Class, Odd, Even}
use Rattle.tables.specs.Entries.{Reads}

-- an entry that is no class is negative
pub no_class : (x : ℕ) (e : Entry) → Reads x e → ((c : ℕ) → e ≡ Class c → ⊥) → 128 ≤ x
no_class x (Class c) r n = absurd (n c refl)
no_class x (Odd k) r n = r.0
no_class x (Even k) r n = r.0
