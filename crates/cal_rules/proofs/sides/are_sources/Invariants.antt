use Rattle.std.proofs.Common.{All, take}
use Rattle.cal_ast.specs.Sides.{IsSource}
use Rattle.cal_ast.specs.Tree.{port_tree}
use Rattle.cal_ast.specs.declared.tree.CalPort.{CalPort}
use Rattle.cal_place.specs.Around.{comp_at, design_at, names_at}
use Rattle.cal_rules.proofs.sides.are_sources.Given as goal

abbrev pub invariant-loop-port : goal.invariant-loop-port
invariant-loop-port l = All (λ (x : CalPort). IsSource (design_at l.place) (comp_at l.place) (port_tree (names_at l.place) x)) (take l.port-index l.ports)
