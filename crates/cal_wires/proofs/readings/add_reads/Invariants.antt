use Rattle.std.proofs.Common.{◌≡◌, map, take}
use Rattle.hw_names.specs.Name.{KeepsTexts}
use Rattle.cal_ast.specs.Tree.{port_tree}
use Rattle.cal_place.specs.Around.{names_at}
use Rattle.cal_wires.specs.Nodes.{Node}
use Rattle.cal_wires.specs.Readings.{ReadsEach}
use Rattle.cal_wires.specs.WireGraphs.{Grows, HasNumber}
use Rattle.cal_wires.proofs.readings.add_reads.Given as goal

-- the node reads the ports so far, and numbers keep their keys
abbrev pub invariant-loop-read : goal.invariant-loop-read
invariant-loop-read l = record {
  grows : (node : Node) → HasNumber l.fn.graph node l.number → Grows (ReadsEach node (take l.read-index (map (port_tree (names_at l.place)) l.reads))) l.fn.graph l.graph;
  names : l.graph.ports.names ≡ l.fn.graph.ports.names;
  texts : KeepsTexts l.fn.graph.ports.keys l.graph.ports.keys;
}
