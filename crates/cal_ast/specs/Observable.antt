-- The memories of a design that a run loads and shows. This project's.
use Rattle.std.specs.Prelude.{◌&&◌, List, filter}
use Rattle.hw_prims.specs.Table.{is_memory}
use Rattle.cal_ast.specs.Tree.{CellDef, Component}

-- the memories directly in the top component that are marked external, in the order of its cells
abbrev pub observable_memories : Component → List CellDef
observable_memories top = filter (λ (cell : CellDef). cell.external && is_memory cell.made) top.cells
