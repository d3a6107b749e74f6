use Rattle.std.proofs.Common.{◌≡◌, ◌∙◌, arith}
use Rattle.tables.specs.Classes.{leads}
use Rattle.tables.specs.Meaning.{bytes_of}
use Rattle.breaks.specs.Places.{leads_before}
use Rattle.breaks.proofs.Backs.{leads_counted, leads_few}
use Rattle.breaks.proofs.characters.Characters.stretch_start.Goals as goal

pub overflow_sub-result : goal.overflow_sub-result
overflow_sub-result c =
    let lead = leads (bytes_of c.args.self.now.table.now) in
    let text = c.args.self.now.text.now in
    let inside = c.requires in
    let is : c.leads_before.result ≡ leads_before lead text c.args.place = c.leads_before.ensures ∙ leads_counted lead text c.args.place (omega arith) in
    let few = leads_few lead text c.args.place in
    omega arith

pub returns-clause-value : goal.returns-clause-value
returns-clause-value c =
    let lead = leads (bytes_of c.args.self.now.table.now) in
    let text = c.args.self.now.text.now in
    let inside = c.requires in
    let is : c.leads_before.result ≡ leads_before lead text c.args.place = c.leads_before.ensures ∙ leads_counted lead text c.args.place (omega arith) in
    let few = leads_few lead text c.args.place in
    omega arith
