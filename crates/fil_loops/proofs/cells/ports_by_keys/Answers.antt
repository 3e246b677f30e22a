use Rattle.std.proofs.Common.{◌<◌, [], get_or, length, arith}
use Rattle.std.proofs.lemmas.Option.{slice_get-get_or}
use Rattle.fil_loops.proofs.CellPinLemmas.{ports_all, ports_next}
use Rattle.fil_loops.proofs.cells.ports_by_keys.Goals as goal

pub loop-node-preserved : goal.loop-node-preserved
loop-node-preserved c =
    let names = c.args.ports.now.names in
    let node = c.loop-node.node in
    let less : node < length names = omega (arith, c.loop-node-test.true, c.len-node-end.ensures.len) in
    let full = get_or names node [] in
    let at = slice_get-get_or names node [] less in
    ports_next c.args.ports.now node full c.loop-node.entries.items c.add_by_key.new.entries.items at (c.in_ok-add_by_key.ensures full at) c.loop-node.invariant

pub returns : goal.returns
returns c = ports_all c.args.ports.now c.loop-node.node c.loop-node.entries.items (omega (arith, c.loop-node-test.false, c.len-node-end.ensures.len)) c.loop-node.invariant
