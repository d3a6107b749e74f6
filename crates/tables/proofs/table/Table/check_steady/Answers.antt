use Rattle.std.proofs.Common.{◌≡◌, ℕ, ◌+◌, List, ap, ◌∙◌, arith, rules}
use Rattle.refusals.specs.declared.Direction.{Direction}
use Rattle.refusals.specs.declared.Direction.TheVariants.{Backward}
use Rattle.automata.specs.Parts.{code_of}
use Rattle.tables.specs.Layout.{machine, classes, code_place}
use Rattle.tables.specs.Meaning.{bytes_of}
use Rattle.tables.proofs.Steadies.{by_test, by_bits}
use Rattle.tables.proofs.table.Table.check_steady.Goals as goal

pub returns-in-Some : goal.returns-in-Some
returns-in-Some c =
    let t = c.args.self.now in
    let b = bytes_of t in
    let m = c.backward.result in
    let machine-is : code_of m ≡ machine b Backward = search rules in
    let classes_are : m.classes ≡ classes b = search rules in
    let k = c.in-Some.k in
    let l = c.in-Some.ensures.least in
    let part = c.state_part-part.ensures in
    let place : c.first_code_place.result + k ≡ code_place b Backward k =
    let at = c.first_code_place.ensures.value ∙ ap (λ (d : Direction). code_place c.state_part-part.result.parts.bytes.now d 0) part.direction ∙ ap (λ (l : List ℕ). code_place l Backward 0) (part.parts ∙ c.passed.ensures) in
    omega arith in (
      k,
      λ sure tells. (
        by_test t (code_of m) m.classes machine-is classes_are sure tells k l.0,
        λ j u. l.1 j (by_bits t (code_of m) m.classes machine-is classes_are sure tells j u),
      ),
      cc,
    )

pub returns-in-None : goal.returns-in-None
returns-in-None c sure tells k u =
    let t = c.args.self.now in
    let b = bytes_of t in
    let m = c.backward.result in
    let machine-is : code_of m ≡ machine b Backward = search rules in
    let classes_are : m.classes ≡ classes b = search rules in
    c.in-None.ensures.least k (by_bits t (code_of m) m.classes machine-is classes_are sure tells k u)
