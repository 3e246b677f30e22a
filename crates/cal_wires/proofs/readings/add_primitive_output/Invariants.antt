use Rattle.hw_names.specs.Name.{text_of}
use Rattle.std.proofs.Common.{take}
use Rattle.hw_prims.specs.Table.{inputs_of, name_at, outputs_of, pin_names}
use Rattle.cal_wires.specs.Readings.{AnyOf, ReadsThrough}
use Rattle.cal_wires.specs.WireGraphs.{Grows}
use Rattle.cal_wires.proofs.readings.add_primitive_output.Given as goal

-- the output reads the inputs so far on which it depends
abbrev pub invariant-loop-input : goal.invariant-loop-input
invariant-loop-input l = Grows (AnyOf (ReadsThrough (text_of l.fn.graph.ports.names l.fn.cell) l.fn.prim (name_at (outputs_of l.fn.prim) l.fn.output)) (take l.input (pin_names (inputs_of l.fn.prim)))) l.fn.graph l.graph
