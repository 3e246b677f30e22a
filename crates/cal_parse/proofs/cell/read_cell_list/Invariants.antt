use Rattle.std.proofs.Common.{◌≡◌, ◌-◌, List, length, [], ◌∷◌, map}
use Rattle.hw_names.specs.Name.{Text}
use Rattle.hw_grammar.specs.Reading.{with_front, times, many}
use Rattle.cal_ast.specs.Tree.{cell_tree}
use Rattle.cal_parse.specs.inside.Reading.{pin_set, cell_at}
use Rattle.cal_parse.proofs.cell.read_cell_list.Given as goal

abbrev pub invariant-loop : goal.invariant-loop
invariant-loop l = (names : List Text) → with_front (map (cell_tree names) l.all.items) (times pin_set (cell_at names) (length l.ts - l.counter) l.rest) ≡ many pin_set (cell_at names) l.ts
