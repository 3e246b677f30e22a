use Rattle.std.proofs.Common.{List, take}
use Rattle.std.specs.List.{flat_map}
use Rattle.hw_names.specs.Name.{Text}
use Rattle.hw_prims.specs.Table.{inputs_of, outputs_of, pin_names, name_at}
use Rattle.net_sim.specs.inside.Wires.{input_readings, AddReadings, HasCellAt}
use Rattle.net_sim.proofs.wires.add_output_reads.Given as goal

abbrev pub invariant-loop-input : goal.invariant-loop-input
invariant-loop-input l =
    (names : List Text) (name : Text) → HasCellAt names name l.fn.cell.prim l.fn.cell.first →
    AddReadings names (flat_map (input_readings name l.fn.cell.prim (name_at (outputs_of l.fn.cell.prim) l.output)) (take l.input (pin_names (inputs_of l.fn.cell.prim)))) l.fn.entries.items l.entries.items
