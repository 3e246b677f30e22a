use Rattle.std.proofs.Common.{◌≡◌, map, take}
use Rattle.cal_ast.specs.Ports.{inputs_in}
use Rattle.cal_place.specs.Around.{comp_at}
use Rattle.cal_wires.specs.Nodes.{input_key}
use Rattle.cal_wires.specs.WireGraphs.{Grows, NoPair}
use Rattle.cal_wires.proofs.readings.add_inputs.Given as goal

-- the keys of the inputs so far
abbrev pub invariant-loop-input : goal.invariant-loop-input
invariant-loop-input l = record {
  keys : l.graph.ports.keys ≡ take l.input (map input_key (inputs_in (comp_at l.place)));
  grows : Grows NoPair l.fn.graph l.graph;
}
