use Rattle.std.proofs.Common.{All, take}
use Rattle.cal_ast.specs.Sides.{IsDestination}
use Rattle.cal_ast.specs.Tree.{out_tree}
use Rattle.cal_ast.specs.declared.tree.OutBind.{OutBind}
use Rattle.cal_place.specs.Around.{comp_at, design_at, names_at}
use Rattle.cal_rules.proofs.sides.drive_destinations.Given as goal

abbrev pub invariant-loop-bind : goal.invariant-loop-bind
invariant-loop-bind l = All (λ (x : OutBind). IsDestination (design_at l.place) (comp_at l.place) (out_tree (names_at l.place) x).dst) (take l.bind-index l.outs)
