use Rattle.std.proofs.Common.{◌≡◌, Some, Contains, slice_get, take}
use Rattle.std.specs.Borrow.{Bor}
use Rattle.std.specs.Prelude.{IfSome}
use Rattle.hw_cells.specs.declared.told.Told.{Told}
use Rattle.cal_ast.specs.Tree.{Component}
use Rattle.cal_place.specs.Around.{design_at}
use Rattle.cal_loops.proofs.CellPinLemmas.{HasBoth}
use Rattle.cal_loops.proofs.cells.cell_of.Given as goal

-- the pins of the ports so far
abbrev pub invariant-loop-port : goal.invariant-loop-port
invariant-loop-port l = record {
  part : l.cell.part ≡ l.part.number;
  reads : l.cell.reads.now ≡ l.part.inside.now.graph.reads;
  told : IfSome l.cell.told (λ (told : Bor Told). Contains l.part.inside.now.told.cells.items told.now);
  both : (c : Component) → slice_get (design_at l.place) l.part.number ≡ Some c →
      HasBoth l.graph c l.part.inside.now (take l.port-index l.ports) l.cell.outputs.items l.cell.inputs.items;
}
