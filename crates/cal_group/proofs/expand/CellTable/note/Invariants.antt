use Rattle.std.proofs.Common.{◌≡◌, List, length, take, All}
use Rattle.hw_names.specs.Name.{Text}
use Rattle.cal_ast.specs.Numbers.{CellHasNumbers}
use Rattle.cal_group.specs.inside.Expansion.{HoldsCells}
use Rattle.cal_group.proofs.CellLemmas.{Tells}
use Rattle.cal_group.proofs.expand.CellTable.note.Given as goal

-- the cells so far are noted
abbrev pub invariant-loop-cell : goal.invariant-loop-cell
invariant-loop-cell l = record {
  sized : length l.self.by_name.items ≡ length l.initial.self.by_name.items;
  holds : (source : List Text) → All (CellHasNumbers source) l.cells → HoldsCells source l.initial.self → HoldsCells source l.self;
  tells : Tells (take l.cell-index l.cells) l.self.by_name.items;
}
