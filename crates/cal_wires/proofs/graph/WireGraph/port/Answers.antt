use Rattle.std.proofs.Common.{refl}
use Rattle.std.proofs.lemmas.Result.{IfOk-weaker}
use Rattle.cal_wires.specs.Nodes.{APort, key_of, port_by}
use Rattle.cal_wires.proofs.GainLemmas.{adds_keys, keys_grown, keys_kept, within_more}
use Rattle.cal_wires.proofs.graph.WireGraph.port.Goals as goal

pub invariant_of-self : goal.invariant_of-self
invariant_of-self c =
    let old = c.args.self.now in
    let new = c.port.new.self in
    record { in_range = within_more old.ports.keys new.keys old.entries.items (keys_kept old.ports.keys new.keys _ c.port.ensures.grown) old.in_range }

pub returns-clause-number : goal.returns-clause-number
returns-clause-number c =
    let new = c.port.new.self in
    let node = APort (port_by c.args.self.now.ports.names c.args.port) in
    IfOk-weaker c.port.result _ _ (λ n at. record { has_key = tt; at = at }) c.port.ensures.number

pub returns-clause-grows : goal.returns-clause-grows
returns-clause-grows c =
    let old = c.args.self.now in
    let new = c.port.new.self in
    let node = APort (port_by old.ports.names c.args.port) in
    record {
      adds = adds_keys old _ c.port.ensures.names (keys_kept old.ports.keys new.keys (key_of node) c.port.ensures.grown) (λ all. keys_grown old.ports.keys new.keys (key_of node) c.port.ensures.grown all (record { node = node; has_key = tt; is = refl })) refl;
      holes = refl;
    }
