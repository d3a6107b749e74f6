use Rattle.automata.proofs.Sets.{with_all}
use Rattle.automata.proofs.state_set.StateSet.with.Goals as goal

pub returns : goal.returns
returns c =
    let h = with_all c.args.self.bits c.args.k c.requires in
    record { grows = h.0; adds = h.1; keeps = h.2; only = h.3 }
