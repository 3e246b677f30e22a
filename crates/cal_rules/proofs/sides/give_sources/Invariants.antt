use Rattle.std.proofs.Common.{All, take}
use Rattle.cal_ast.specs.Sides.{IsSource}
use Rattle.net_core.specs.Graph.{source_ports}
use Rattle.cal_ast.specs.Tree.{in_tree}
use Rattle.cal_ast.specs.declared.tree.InBind.{InBind}
use Rattle.cal_place.specs.Around.{comp_at, design_at, names_at}
use Rattle.cal_rules.proofs.sides.give_sources.Given as goal

abbrev pub invariant-loop-bind : goal.invariant-loop-bind
invariant-loop-bind l = All (λ (x : InBind). All (IsSource (design_at l.place) (comp_at l.place)) (source_ports (in_tree (names_at l.place) x).src)) (take l.bind-index l.ins)
