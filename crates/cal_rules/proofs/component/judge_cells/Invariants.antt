use Rattle.std.proofs.Common.{take}
use Rattle.cal_ast.specs.Items.{TheCell, each}
use Rattle.cal_place.specs.Around.{comp_at}
use Rattle.cal_rules.specs.inside.Walks.{Passes}
use Rattle.cal_rules.proofs.component.judge_cells.Given as goal

abbrev pub invariant-loop-number : goal.invariant-loop-number
invariant-loop-number l = Passes l.place (take l.number (each TheCell (comp_at l.place).cells)) l.fn.walk l.walk
