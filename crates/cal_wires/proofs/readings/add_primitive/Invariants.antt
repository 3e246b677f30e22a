use Rattle.hw_names.specs.Name.{text_of}
use Rattle.std.proofs.Common.{take}
use Rattle.hw_prims.specs.Table.{outputs_of, pin_names}
use Rattle.cal_wires.specs.Readings.{AnyOf, ReadsOutput}
use Rattle.cal_wires.specs.WireGraphs.{Grows}
use Rattle.cal_wires.proofs.readings.add_primitive.Given as goal

-- the graph has the outputs so far
abbrev pub invariant-loop-output : goal.invariant-loop-output
invariant-loop-output l = Grows (AnyOf (ReadsOutput (text_of l.fn.graph.ports.names l.fn.cell) l.fn.prim) (take l.output (pin_names (outputs_of l.fn.prim)))) l.fn.graph l.graph
