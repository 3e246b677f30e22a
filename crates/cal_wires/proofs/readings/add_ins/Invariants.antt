use Rattle.std.proofs.Common.{Some, map, take}
use Rattle.hw_names.specs.Name.{text_of}
use Rattle.cal_ast.specs.Invoking.{gives_input}
use Rattle.cal_ast.specs.Tree.{in_tree}
use Rattle.cal_place.specs.Around.{names_at}
use Rattle.cal_wires.specs.Readings.{ReadsSets}
use Rattle.cal_wires.specs.WireGraphs.{Grows}
use Rattle.cal_wires.proofs.readings.add_ins.Given as goal

-- the graph has the bindings so far
abbrev pub invariant-loop-bind : goal.invariant-loop-bind
invariant-loop-bind l =
    Grows (ReadsSets (Some l.fn.hole.group) (take l.bind-index (map (gives_input (text_of (names_at l.place) l.fn.cell)) (map (in_tree (names_at l.place)) l.ins)))) l.fn.graph l.graph
