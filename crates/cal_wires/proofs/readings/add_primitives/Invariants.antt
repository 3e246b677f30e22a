use Rattle.std.proofs.Common.{take}
use Rattle.cal_ast.specs.Tree.{CellDef}
use Rattle.cal_place.specs.Around.{comp_at}
use Rattle.cal_wires.specs.Readings.{AnyOf, ReadsPrimitive}
use Rattle.cal_wires.specs.WireGraphs.{Grows}
use Rattle.cal_wires.proofs.readings.add_primitives.Given as goal

-- the graph has the cells so far
abbrev pub invariant-loop-number : goal.invariant-loop-number
invariant-loop-number l = Grows (AnyOf (λ (cell : CellDef). ReadsPrimitive (comp_at l.place) cell.name) (take l.number (comp_at l.place).cells)) l.fn.graph l.graph
