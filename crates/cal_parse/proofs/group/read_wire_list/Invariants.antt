use Rattle.std.proofs.Common.{◌≡◌, ◌-◌, List, length, map}
use Rattle.hw_names.specs.Name.{Text}
use Rattle.hw_grammar.specs.Reading.{with_front, times, many}
use Rattle.cal_ast.specs.Tree.{group_tree, assignment_tree}
use Rattle.cal_parse.specs.Grammar.{Wire, groups_in, sets_in}
use Rattle.cal_parse.specs.inside.Reading.{wire_set, wire_at}
use Rattle.cal_parse.proofs.group.read_wire_list.Given as goal

abbrev pub invariant-loop : goal.invariant-loop
invariant-loop l = (names : List Text) → (front : List Wire)
    × (map (group_tree names) l.wires.groups.items ≡ groups_in front) × (map (assignment_tree names) l.wires.sets.items ≡ sets_in front)
    × (with_front front (times wire_set (wire_at names) (length l.ts - l.counter) l.rest) ≡ many wire_set (wire_at names) l.ts)
