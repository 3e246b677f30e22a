use Rattle.std.proofs.Common.{◌≡◌, All, map, flat_map, take}
use Rattle.hw_names.specs.Name.{KeepsTexts}
use Rattle.cal_ast.specs.Numbers.{CellHasNumbers}
use Rattle.cal_ast.specs.Tree.{cell_tree}
use Rattle.fil_ast.specs.Scope.{instances_at}
use Rattle.fil_ast.specs.Tree.{component_tree}
use Rattle.fil_lower.specs.inside.Lowering.{lowered_cell}
use Rattle.fil_lower.proofs.cells.instance_cells.Given as goal

abbrev pub invariant-loop-stmt : goal.invariant-loop-stmt
invariant-loop-stmt l = record {
  kept : KeepsTexts l.fn.names l.names;
  cells : map (cell_tree l.names) l.cells.items ≡ map lowered_cell (flat_map instances_at (take l.stmt-index (component_tree l.own l.comp).body));
  numbers : All (CellHasNumbers l.names) l.cells.items;
}
