use Rattle.std.proofs.Common.{◌≡◌, ℕ, ◌-◌, ◌*◌, ◌≤◌, List, length, sym, ap, ◌∙◌, subst, arith}
use Rattle.refusals.specs.declared.Direction.{Direction}
use Rattle.refusals.specs.declared.Direction.TheVariants.{Forward}
use Rattle.tables.specs.Layout.{states, classes, codes, code_place, code_count}
use Rattle.tables.specs.Checks.{Passes, checks}
use Rattle.tables.proofs.Heads.{head}
use Rattle.tables.proofs.Tabled.{listed, classes_low, classes_high, header_passes, list_passes, named}
use Rattle.tables.proofs.passed.Passed.machine.Goals as goal

-- the codes lie inside the bytes, of which the part is one
codes-in : (b a : List ℕ) (d e : Direction) → a ≡ b → e ≡ d → Passes (checks b) → code_place a e (code_count a e) ≤ length a
codes-in b a d e same on p =
    let rows = (listed b d (list_passes b p d)).rows_in in
    let whole = (head b (header_passes b p)).size_high in
    let inside : code_place b d (code_count b d) ≤ length b = omega arith in
    subst (λ (l : List ℕ). code_place l e (code_count l e) ≤ length l) (sym same)
    (subst (λ (x : Direction). code_place b x (code_count b x) ≤ length b) (sym on) inside)

pub codes-requires : goal.codes-requires
codes-requires c =
    codes-in c.args.self.now.bytes.now _ c.args.direction _ c.state_part-part.ensures.parts c.state_part-part.ensures.direction c.args.self.now.sound

-- what holds of the bytes and the direction of the part
of : {X : Type 0} (a b : List ℕ) (e d : Direction) (f : List ℕ → Direction → X) → a ≡ b → e ≡ d → f a e ≡ f b d
of a b e d f same on = ap (λ (l : List ℕ). f l e) same ∙ ap (f b) on

pub new-requires : goal.new-requires
new-requires c =
    let b = c.args.self.now.bytes.now in
    let d = c.args.direction in
    let p = c.args.self.now.sound in
    let same = c.state_part-part.ensures.parts in
    let on = c.state_part-part.ensures.direction in
    let l = listed b d (list_passes b p d) in
    let lo = classes_low b (list_passes b p Forward) in
    let hi = classes_high b (list_passes b p Forward) in
    let s = c.state_count.ensures.value ∙ of _ b _ d states same on in
    let n = c.class_count.ensures.value ∙ ap classes c.parts.ensures in
    let rows = c.codes.ensures.value ∙ of _ b _ d codes same on in
    let total = c.codes.ensures.size ∙ of _ b _ d code_count same on in
    let size : length c.codes.result.now ≡ (c.state_count.result - 1) * c.class_count.result =
    total ∙ ap (λ (m : ℕ). (m - 1) * classes b) (sym s) ∙ ap (λ (m : ℕ). (c.state_count.result - 1) * m) (sym n) in
    record {
      extent = (omega arith, (omega arith, (omega arith, (omega arith, size))));
      named = named b d c.codes.result.now c.state_count.result p rows total s;
    }
