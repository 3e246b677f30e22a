use Rattle.std.proofs.Common.{take}
use Rattle.fil_loops.specs.inside.PortGraph.{Adds, NoPair}
use Rattle.fil_loops.specs.inside.Reached.{AreNumbered, port_names}
use Rattle.fil_loops.proofs.wires.own_ports.Given as goal

-- the ports so far have their numbers
abbrev pub invariant-loop-port : goal.invariant-loop-port
invariant-loop-port l = record {
  numbered : AreNumbered l.graph.ports.names l.numbers.items (take l.port-index (port_names l.names l.ports));
  adds : Adds NoPair l.fn.graph l.graph;
}
