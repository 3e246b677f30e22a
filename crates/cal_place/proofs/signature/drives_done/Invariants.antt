use Rattle.std.proofs.Common.{◌≡◌, false, map, take}
use Rattle.cal_ast.specs.Ports.{drives_done}
use Rattle.cal_ast.specs.Tree.{assignment_tree}
use Rattle.cal_place.proofs.signature.drives_done.Given as goal

abbrev pub invariant-loop-set : goal.invariant-loop-set
invariant-loop-set l = drives_done (take l.set-index (map (assignment_tree l.names) l.sets)) ≡ false
