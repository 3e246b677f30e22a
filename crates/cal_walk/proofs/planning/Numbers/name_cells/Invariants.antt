use Rattle.std.proofs.Common.{◌≡◌, length}
use Rattle.cal_ast.specs.declared.tree.CalCell.{CalCell}
use Rattle.cal_walk.proofs.TableLemmas.{Tells}
use Rattle.cal_walk.proofs.planning.Numbers.name_cells.Given as goal

-- what the cells so far are made of is told
abbrev pub invariant-loop-cell : goal.invariant-loop-cell
invariant-loop-cell l = record {
  sized : length l.self.made.items ≡ length l.initial.self.made.items;
  tells : Tells (λ (cell : CalCell). cell.name.0) (λ number (cell : CalCell). cell.made) l.cells l.cell-index l.self.made.items;
  groups : l.self.groups.items ≡ l.initial.self.groups.items;
}
