use Rattle.std.proofs.Common.{map, take}
use Rattle.cal_ast.specs.Naming.{group_names}
use Rattle.cal_ast.specs.Tree.{group_tree}
use Rattle.cal_place.specs.FirstPlaces.{ShowsFirsts}
use Rattle.cal_place.proofs.place.groups_of.Given as goal

abbrev pub invariant-loop-place : goal.invariant-loop-place
invariant-loop-place l = ShowsFirsts l.firsts (take l.place (group_names (map (group_tree l.names) l.groups)))
