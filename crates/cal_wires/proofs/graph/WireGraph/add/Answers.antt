use Rattle.std.proofs.Common.{refl}
use Rattle.cal_wires.proofs.GainLemmas.{adds_pair, within_pushed}
use Rattle.cal_wires.proofs.graph.WireGraph.add.Goals as goal

pub invariant_of-self : goal.invariant_of-self
invariant_of-self c =
    let old = c.args.self.now in
    record { in_range = within_pushed old.ports.keys old.entries.items c.push.new.self.items _ _ c.push.ensures.items old.in_range (c.requires.key, c.requires.value) }

pub returns-clause-pair : goal.returns-clause-pair
returns-clause-pair c node other is_key is_value =
    record { adds = adds_pair c.args.self.now _ node other (record { key = c.args.key; value = c.args.value }) refl c.in_ok-push.ensures.items is_key is_value; holes = refl }
