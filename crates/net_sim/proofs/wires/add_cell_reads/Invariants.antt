use Rattle.std.proofs.Common.{List, take}
use Rattle.std.specs.List.{flat_map}
use Rattle.hw_names.specs.Name.{Text}
use Rattle.hw_prims.specs.Table.{outputs_of, pin_names}
use Rattle.net_sim.specs.inside.Wires.{output_readings, AddReadings, HasCellAt}
use Rattle.net_sim.proofs.wires.add_cell_reads.Given as goal

abbrev pub invariant-loop-output : goal.invariant-loop-output
invariant-loop-output l =
    (names : List Text) (name : Text) → HasCellAt names name l.fn.cell.prim l.fn.cell.first →
    AddReadings names (flat_map (output_readings name l.fn.cell.prim) (take l.output (pin_names (outputs_of l.fn.cell.prim)))) l.fn.entries.items l.entries.items
