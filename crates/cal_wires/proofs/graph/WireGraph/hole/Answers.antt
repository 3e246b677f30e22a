use Rattle.std.proofs.Common.{refl, arith}
use Rattle.cal_wires.specs.Nodes.{AHole, key_of}
use Rattle.cal_wires.proofs.GainLemmas.{adds_keys, keys_grown, keys_kept}
use Rattle.cal_wires.proofs.graph.WireGraph.hole.Goals as goal

pub returns-clause-hole : goal.returns-clause-hole
returns-clause-hole c = record { has_key = omega arith; at = c.in_ok-node.ensures.number }

pub returns-clause-adds : goal.returns-clause-adds
returns-clause-adds c =
    let old = c.args.self.now in
    let new = c.hole.new.self in
    let node = AHole old.holes in
    adds_keys old _ c.hole.ensures.names (keys_kept old.ports.keys new.keys (key_of node) c.hole.ensures.grown) (λ all. keys_grown old.ports.keys new.keys (key_of node) c.hole.ensures.grown all (record { node = node; has_key = omega arith; is = refl })) refl
