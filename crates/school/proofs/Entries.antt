-- Each entry of the school table's class table follows its rule: one test over the whole table, carried to each entry.
use Rattle.std.proofs.Common.{◌≡◌, ℕ, ◌<◌, Bool, true, ◌&&◌, eqb, ℤ, pos, negsuc, nat_abs, refl}
use lib.Signed.{non_neg}
use Rattle.std.proofs.lemmas.Bool.{and_parts, eqb-true, false≢true}
use Rattle.tables.specs.Classes.{entry, every}
use Rattle.tables.proofs.Everys.{passes_every}
use Rattle.school.specs.School.{school, school_class}

-- the entry of a byte value is its class
abbrev follows : ℕ → Bool
follows v = non_neg (entry school v) && eqb (nat_abs (entry school v)) (school_class v)

all_follow : every follows 256 ≡ true
unfolding school every
all_follow = refl

whole : (z : ℤ) (n : ℕ) → non_neg z ≡ true → nat_abs z ≡ n → z ≡ pos n
whole (pos m) n e q = q_pos m n q
  where
    q_pos : (m n : ℕ) → m ≡ n → pos m ≡ pos n
    q_pos m n q = cc
whole (negsuc m) n e q = absurd (false≢true e)

pub entries : (v : ℕ) → v < 256 → entry school v ≡ pos (school_class v)
entries v h =
    let t = and_parts _ _ (passes_every follows 256 all_follow v h) in
    whole (entry school v) (school_class v) t.0 (eqb-true _ _ t.1)
