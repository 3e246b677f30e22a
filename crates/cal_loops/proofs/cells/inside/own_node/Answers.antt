use Rattle.cal_wires.specs.Nodes.{port_by}
use Rattle.cal_loops.proofs.InsideLemmas.{own_node_found}
use Rattle.cal_loops.proofs.cells.inside.own_node.Goals as goal

pub find-requires : goal.find-requires
find-requires c = c.own_port.ensures.numbers c.args.ports.now.names tt

pub returns : goal.returns
returns c =
    let ports = c.args.ports.now in
    own_node_found ports.keys (port_by ports.names c.own_port.result) c.args.name.now c.find.result (c.own_port.ensures.is ports.names) c.requires c.find.ensures.found c.find.ensures.present
