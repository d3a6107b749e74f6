use Rattle.std.proofs.Common.{◌≡◌, ℕ, ◌+◌, ◌<◌, ◌≤◌, Bool, false, List, length, drop, sym, ◌∙◌, arith}
use Rattle.automata.specs.Sure.{holds}
use Rattle.rules.specs.Answers.{wall_at}
use Rattle.rules.proofs.Lawful.{answers, wall_past}
use Rattle.tables.specs.Classes.{leads, one_class, two_class}
use Rattle.tables.specs.Meaning.{bytes_of}
use Rattle.breaks.specs.Chars.{char}
use Rattle.breaks.specs.Tables.{parted}
use Rattle.breaks.specs.Meaning.{characters, parts_of}
use Rattle.breaks.specs.declared.rule.TableRule.{TableRule}
use Rattle.breaks.specs.TableLaws.{parted_at}
use Rattle.breaks.proofs.Backs.{parted_between, parted_amid}
use Rattle.breaks.proofs.rule.scan.TableRuleRule.wall.Goals as goal

-- the wall of a place past the start, as the characters of the whole text tell
walled : (r : TableRule) (text : List ℕ) (place : ℕ) → 1 ≤ place → place < length text
    → wall_at (parts_of r) text place ≡ parted (holds r.table.judgement.sure.rows) place (characters (bytes_of r.table) text)
walled r text place h l =
    let b = bytes_of r.table in
    wall_past (parts_of r) text place h ∙ parted_at (holds r.table.judgement.sure.rows) (leads b) (one_class b) (two_class b) text place (omega arith)

pub returns-then-start-before : goal.returns-then-start-before
returns-then-start-before c =
    let r = c.args.self.now in
    let b = bytes_of r.table in
    let text = c.args.text.now in
    let inside = c.in_ok-check_place.ensures.inside in
    let place = c.args.place in
    let e = c.at-before.ensures in
    let u = c.at-before.result in
    let first : 1 ≤ place = let ne = c.if-place-eq0.false in omega arith in
    answers text place (wall_at (parts_of r) text place) inside.0 inside.1 false
    (sym (walled r text place first inside.1
    ∙ parted_amid (leads b) (one_class b) (two_class b) (holds r.table.judgement.sure.rows) text place (omega arith) inside.1 c.start-start.result c.start-start.ensures.value (char u.size u.class) e.some e.reads c.if-start-before.true))

pub returns : goal.returns
returns c =
    let r = c.args.self.now in
    let b = bytes_of r.table in
    let text = c.args.text.now in
    let inside = c.in_ok-check_place.ensures.inside in
    let place = c.args.place in
    let e = c.at-before.ensures in
    let u = c.at-before.result in
    let f = c.at-after.ensures in
    let v = c.at-after.result in
    let first : 1 ≤ place = let ne = c.if-place-eq0.false in omega arith in
    let is =
    walled r text place first inside.1
    ∙ parted_between (leads b) (one_class b) (two_class b) (holds r.table.judgement.sure.rows) text place (omega arith) inside.1 c.start-start.result c.start-start.ensures.value (char u.size u.class) e.some e.reads c.if-start-before.false
    (char v.size v.class) (characters b (drop (place + v.size) text)) f.reads in
    let told = c.is_sure.ensures in
    let same : ◌≡◌ {A = Bool} c.is_sure.result (wall_at (parts_of r) text place) = cc in
    answers text place (wall_at (parts_of r) text place) inside.0 inside.1 c.is_sure.result same
