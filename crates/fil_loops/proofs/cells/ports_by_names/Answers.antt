use Rattle.std.proofs.Common.{Some, sym, ap, ◌∙◌, arith}
use Rattle.fil_loops.proofs.CellPinLemmas.{ports_all, ports_next}
use Rattle.fil_loops.proofs.cells.ports_by_names.Goals as goal

pub loop-node-preserved : goal.loop-node-preserved
loop-node-preserved c =
    ports_next c.args.ports.now c.loop-node.node c.deref.result.now c.loop-node.entries.items c.add_instances.new.entries.items (c.in_ok-name.ensures ∙ ap Some (sym c.deref.ensures.value)) c.in_ok-add_instances.ensures c.loop-node.invariant

pub returns : goal.returns
returns c = ports_all c.args.ports.now c.loop-node.node c.loop-node.entries.items (omega (arith, c.loop-node-test.false, c.len-node-end.ensures.len)) c.loop-node.invariant
