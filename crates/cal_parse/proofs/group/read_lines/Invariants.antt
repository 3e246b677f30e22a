use Rattle.std.proofs.Common.{◌≡◌, ◌-◌, List, length, map}
use Rattle.hw_names.specs.Name.{Text}
use Rattle.hw_grammar.specs.Reading.{with_front, times, many}
use Rattle.cal_ast.specs.Tree.{assignment_tree, done_tree}
use Rattle.cal_parse.specs.Grammar.{GroupLine, assignments_in, dones_in}
use Rattle.cal_parse.specs.inside.Reading.{pin_set, line_at}
use Rattle.cal_parse.proofs.group.read_lines.Given as goal

abbrev pub invariant-loop : goal.invariant-loop
invariant-loop l = (names : List Text) → (front : List GroupLine)
    × (map (assignment_tree names) l.lines.sets.items ≡ assignments_in front) × (map (done_tree names) l.lines.dones.items ≡ dones_in front)
    × (with_front front (times pin_set (line_at names) (length l.ts - l.counter) l.rest) ≡ many pin_set (line_at names) l.ts)
