use Rattle.std.proofs.Common.{◌≡◌, filter, map, take}
use Rattle.hw_names.specs.Name.{Path, KeepsTexts}
use Rattle.hw_prims.specs.Table.{is_primitive}
use Rattle.cal_ast.specs.Tree.{CellDef, cell_tree}
use Rattle.cal_ast.specs.Keeping.{flat_cell}
use Rattle.net_flat.specs.inside.Placed.{prefix_of}
use Rattle.net_flat.specs.inside.StandFor.{AreCells}
use Rattle.net_flat.proofs.lines.cells_at.Given as goal

-- the cells so far stand for those of primitives
abbrev pub invariant-loop-cell : goal.invariant-loop-cell
invariant-loop-cell l =
    KeepsTexts l.initial.names l.names
    × ((path : Path) → l.prefix ≡ prefix_of path
    → AreCells l.names (map (flat_cell path) (filter (λ (c : CellDef). is_primitive c.made) (map (cell_tree l.source) (take l.cell-index l.cells)))) l.found.items)
