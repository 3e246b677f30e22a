use Rattle.std.proofs.Common.{take}
use Rattle.cal_ast.specs.Items.{TheDone, each}
use Rattle.cal_ast.specs.Tree.{group_tree}
use Rattle.cal_place.specs.Around.{names_at}
use Rattle.cal_rules.specs.inside.Walks.{Passes}
use Rattle.cal_rules.proofs.component.judge_dones.Given as goal

abbrev pub invariant-loop-number : goal.invariant-loop-number
invariant-loop-number l =
    let group = group_tree (names_at l.place) l.group in
    Passes l.place (take l.number (each (TheDone group) group.dones)) l.fn.walk l.walk
