use Rattle.std.proofs.Common.{◌≡◌, ◌≤◌, length, vec_items, vec_len, vec_capacity}
use Rattle.books.specs.Faithful.{Faithful, plain_of}
use Rattle.books.proofs.StepLaws.{SoFar}
use Rattle.books.proofs.book.Book.carry_out.Given as goal

-- the steps so far, and room for the answers to come
abbrev pub invariant-loop-step : goal.invariant-loop-step
invariant-loop-step g l =
    let run = g.R.Rule.run l.initial.self.rule in
    let parts = g.R.Rule.parts l.initial.self.rule in
    (vec_len l.answers ≡ l.step-index) × (length l.steps ≤ vec_capacity l.answers) × (l.self.rule ≡ l.initial.self.rule) × (length l.other ≡ 65535)
    × (Faithful run parts l.initial.self l.initial.text → SoFar run parts (plain_of l.initial.self l.initial.text) l.self l.text l.steps l.step-index (vec_items l.answers))
