use Rattle.std.proofs.Common.{◌≡◌, ℕ, ◌+◌, ◌≤◌, List, ◌++◌, length, take, drop, sym, refl, ap, subst, ◌∙◌, arith}
use Rattle.std.proofs.lemmas.List.{drop-drop}
use Rattle.rules.specs.Cutting.{cutting}
use Rattle.rules.specs.Runs.{runs_of}
use Rattle.rules.specs.declared.runs.Run.{Run}
use Rattle.rules.proofs.Files.{filled_more, past_more}
use Rattle.rules.proofs.RunLists.{runs_size, all_records, records_of_runs, Within, within_text}
use Rattle.rules.proofs.cut_file.write_records.Goals as goal

pub loop-run-init : goal.loop-run-init
loop-run-init g c =
    let page = c.args.page.now in
    let run = g.R.Rule.run page.rule.now in
    let runs : c.into_iter-run-iterator.result ≡ runs_of 0 0 (cutting run page.text.now) = c.into_iter-run-iterator.ensures.into_iter_gives ∙ c.runs-run-items.ensures in
    let size = ap (λ (rs : List Run). length rs) runs ∙ runs_size 0 0 (cutting run page.text.now) in
    record {
      size = omega arith;
      front = ap all_records runs ∙ records_of_runs 0 0 (cutting run page.text.now);
      rest = refl;
      within = subst (Within (length page.text.now)) (sym runs) (within_text run (g.met.R.Rule.bounds page.rule.now) page.text.now 0 0 (omega arith));
    }

pub loop-run-preserved : goal.loop-run-preserved
loop-run-preserved g c =
    let here = c.loop-run.invariant in
    let next = c.in-Some.ensures.steps in
    let run = c.in-Some.run' in
    let left = all_records c.next.new.self in
    let n = c.loop-run.filled in
    let buffer = c.loop-run.buffer in
    let size = ap (λ (rs : List Run). length rs) next in
    let room : n + 4 ≤ length buffer = omega (arith, here.size) in
    record {
      size = omega (arith, here.size);
      front =
          ap (λ (l : List ℕ). take (n + 4) l ++ left) c.write_record.ensures
          ∙ filled_more buffer n run.start run.end left _ room (ap (λ (rs : List Run). take n buffer ++ all_records rs) (sym next) ∙ here.front);
      rest =
          ap (drop (n + 4)) c.write_record.ensures ∙ past_more buffer n run.start run.end room
          ∙ sym (drop-drop 4 n buffer) ∙ ap (drop 4) here.rest ∙ drop-drop 4 n c.args.buffer.now;
      within = (subst (Within (length c.args.page.now.text.now)) next here.within).2;
    }
