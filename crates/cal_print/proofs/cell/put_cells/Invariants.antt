use Rattle.std.proofs.Common.{◌≡◌, ◌++◌, take, codes}
use Rattle.std.specs.List.{flat_map}
use Rattle.cal_ast.specs.Tree.{cell_tree}
use Rattle.cal_print.specs.Layout.{line_text, cell_text}
use Rattle.cal_print.proofs.cell.put_cells.Given as goal

abbrev pub invariant-loop-cell : goal.invariant-loop-cell
invariant-loop-cell l = l.out.items ≡ l.initial.out.items ++ flat_map (λ x. line_text (codes "    ") (cell_text (cell_tree l.names x))) (take l.cell-index l.cells)
