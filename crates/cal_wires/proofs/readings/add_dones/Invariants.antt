use Rattle.std.proofs.Common.{map, take}
use Rattle.cal_ast.specs.Tree.{done_tree}
use Rattle.cal_place.specs.Around.{names_at}
use Rattle.cal_wires.specs.Readings.{ReadsDones}
use Rattle.cal_wires.specs.WireGraphs.{Grows}
use Rattle.cal_wires.proofs.readings.add_dones.Given as goal

-- the graph has the done lines so far
abbrev pub invariant-loop-done : goal.invariant-loop-done
invariant-loop-done l = Grows (ReadsDones l.fn.hole.group (take l.done-index (map (done_tree (names_at l.place)) l.dones))) l.fn.graph l.graph
