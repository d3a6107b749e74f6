use Rattle.std.proofs.Common.{◌≡◌, ℕ, suc, ◌-◌, ◌<◌, ◌≤◌, Bool, true, cond, ◌&&◌, List, sym, ap, ◌∙◌, arith, ℤ, w16, SFits, rules}
use lib.Signed.{non_neg}
use Rattle.std.proofs.lemmas.Bool.{cond-true, cond-false}
use Rattle.std.proofs.lemmas.Int.{to_z-of_z}
use Rattle.tables.specs.Words.{signed8, within, even}
use Rattle.tables.specs.Layout.{two_byte}
use Rattle.tables.specs.Classes.{even_sound, odd_sound, entry_sound}
use Rattle.tables.proofs.Numbers.{byte_above, byte_below}
use Rattle.tables.proofs.parts.Parts.entry_is_sound.Goals as goal

-- what stands under a negative entry
below : (b : List ℕ) (x k : ℕ) → 128 ≤ x → x < 256 → k ≡ 256 - x → two_byte b ≡ true → cond (even k) (even_sound b k) (odd_sound b k) ≡ entry_sound b (signed8 x)
below b x k lo hi e two =
    let is : k ≡ suc (255 - x) = omega arith in
    ap (λ (t : Bool). t && cond (even k) (even_sound b k) (odd_sound b k)) (sym two)
    ∙ ap (λ (n : ℕ). two_byte b && cond (even n) (even_sound b n) (odd_sound b n)) is
    ∙ ap (entry_sound b) (sym (byte_below x lo hi))

-- a fact of a table and a number, where both are the same
same : (f : List ℕ → ℕ → Bool) (a b : List ℕ) (m n : ℕ) → a ≡ b → m ≡ n → f a m ≡ f b n
same f a b m n e q = ap (λ (l : List ℕ). f l m) e ∙ ap (f b) q

pub returns-in-Class : goal.returns-in-Class
returns-in-Class c =
    let f : SFits w16 c.signed.result = search rules in
    c.is_within.ensures ∙ ap (λ (z : ℤ). within z 0 c.args.last) (to_z-of_z w16 _ f ∙ c.signed.ensures) ∙ ap (within (signed8 c.args.entry) 0) c.requires
    ∙ sym (cond-true (non_neg (signed8 c.args.entry)) _ _ (ap non_neg (byte_above c.args.entry c.in-Class.ensures.0)))

pub returns-then-is_two_byte : goal.returns-then-is_two_byte
returns-then-is_two_byte c =
    let b = c.args.self.now.bytes.now in
    let r = c.ranges.entry in
    let e = c.in-Odd.ensures in
    c.odd_is_sound.ensures ∙ same odd_sound _ b _ c.in-Odd.k c.new.ensures.bytes c.new.ensures.k ∙ sym (cond-false (even c.in-Odd.k) _ _ e.2)
    ∙ below b c.args.entry c.in-Odd.k e.0 (omega arith) e.1 (ap two_byte (sym c.head.ensures) ∙ sym c.is_two_byte.ensures ∙ c.if-is_two_byte.true)

pub returns-then-is_two_byte-2 : goal.returns-then-is_two_byte-2
returns-then-is_two_byte-2 c =
    let b = c.args.self.now.bytes.now in
    let r = c.ranges.entry in
    let e = c.in-Even.ensures in
    let n = c.new-then-is_two_byte-2.ensures in
    c.even_is_sound.ensures ∙ same even_sound _ b _ c.in-Even.k n.bytes n.k ∙ sym (cond-true (even c.in-Even.k) _ _ e.2)
    ∙ below b c.args.entry c.in-Even.k e.0 (omega arith) e.1 (ap two_byte (sym c.head-in-Even.ensures) ∙ sym c.is_two_byte-in-Even.ensures ∙ c.if-is_two_byte-2.true)
