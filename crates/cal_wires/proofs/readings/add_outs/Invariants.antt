use Rattle.std.proofs.Common.{Some, map, take}
use Rattle.hw_names.specs.Name.{text_of}
use Rattle.cal_ast.specs.Invoking.{takes_output}
use Rattle.cal_ast.specs.Tree.{out_tree}
use Rattle.cal_place.specs.Around.{names_at}
use Rattle.cal_wires.specs.Readings.{ReadsSets}
use Rattle.cal_wires.specs.WireGraphs.{Grows}
use Rattle.cal_wires.proofs.readings.add_outs.Given as goal

-- the graph has the bindings so far
abbrev pub invariant-loop-bind : goal.invariant-loop-bind
invariant-loop-bind l =
    Grows (ReadsSets (Some l.fn.hole.group) (take l.bind-index (map (takes_output (text_of (names_at l.place) l.fn.cell)) (map (out_tree (names_at l.place)) l.outs)))) l.fn.graph l.graph
