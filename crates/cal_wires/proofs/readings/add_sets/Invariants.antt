use Rattle.std.proofs.Common.{map, option_map, take}
use Rattle.cal_ast.specs.Tree.{assignment_tree}
use Rattle.cal_place.specs.Around.{names_at}
use Rattle.cal_wires.specs.Readings.{ReadsSets}
use Rattle.cal_wires.specs.WireGraphs.{Grows}
use Rattle.cal_wires.specs.declared.graph.Hole.{Hole}
use Rattle.cal_wires.proofs.readings.add_sets.Given as goal

-- the graph has the assignments so far
abbrev pub invariant-loop-set : goal.invariant-loop-set
invariant-loop-set l = Grows (ReadsSets (option_map (λ (h : Hole). h.group) l.hole) (take l.set-index (map (assignment_tree (names_at l.place)) l.sets))) l.fn.graph l.graph
