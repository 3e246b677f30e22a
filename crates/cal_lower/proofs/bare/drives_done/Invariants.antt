use Rattle.std.proofs.Common.{◌≡◌, false, map, take}
use Rattle.cal_ast.specs.Ports.{drives_done}
use Rattle.cal_ast.specs.Tree.{assignment_tree}
use Rattle.cal_lower.proofs.bare.drives_done.Given as goal

-- none of the assignments so far drives it
abbrev pub invariant-loop-set : goal.invariant-loop-set
invariant-loop-set l = drives_done (map (assignment_tree l.names) (take l.set-index l.set-items)) ≡ false
