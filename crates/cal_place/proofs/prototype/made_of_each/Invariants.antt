use Rattle.std.proofs.Common.{map, take}
use Rattle.cal_ast.specs.Naming.{component_names}
use Rattle.cal_ast.specs.Tree.{Design, cell_tree}
use Rattle.cal_place.specs.FirstPlaces.{ShowsFirsts}
use Rattle.cal_place.specs.Prototypes.{AreMadeOf}
use Rattle.cal_place.proofs.prototype.made_of_each.Given as goal

abbrev pub invariant-loop-cell : goal.invariant-loop-cell
invariant-loop-cell l = (design : Design) → ShowsFirsts l.comps (component_names design) → AreMadeOf design (take l.cell-index (map (cell_tree l.names) l.cells)) l.made.items
