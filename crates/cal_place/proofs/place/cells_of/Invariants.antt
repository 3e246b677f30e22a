use Rattle.std.proofs.Common.{map, take}
use Rattle.cal_ast.specs.Naming.{cell_names}
use Rattle.cal_ast.specs.Tree.{cell_tree}
use Rattle.cal_place.specs.FirstPlaces.{ShowsFirsts}
use Rattle.cal_place.proofs.place.cells_of.Given as goal

abbrev pub invariant-loop-place : goal.invariant-loop-place
invariant-loop-place l = ShowsFirsts l.firsts (take l.place (cell_names (map (cell_tree l.names) l.cells)))
