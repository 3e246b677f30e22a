use Rattle.std.proofs.Common.{map, take}
use Rattle.cal_ast.specs.Tree.{group_tree}
use Rattle.cal_place.specs.Around.{comp_at, design_at, names_at}
use Rattle.cal_wires.specs.Readings.{AddsGroups}
use Rattle.cal_wires.proofs.readings.add_groups.Given as goal

-- the graph has the groups so far
abbrev pub invariant-loop-group : goal.invariant-loop-group
invariant-loop-group l = AddsGroups (design_at l.place) (comp_at l.place) (take l.group-index (map (group_tree (names_at l.place)) l.groups)) l.fn.graph l.graph
