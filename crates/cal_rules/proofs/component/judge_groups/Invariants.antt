use Rattle.std.proofs.Common.{take}
use Rattle.std.specs.Prelude.{flat_map}
use Rattle.cal_ast.specs.Items.{each, group_items}
use Rattle.cal_place.specs.Around.{comp_at}
use Rattle.cal_rules.specs.inside.Walks.{Passes}
use Rattle.cal_rules.proofs.component.judge_groups.Given as goal

abbrev pub invariant-loop-number : goal.invariant-loop-number
invariant-loop-number l = Passes l.place (flat_map (λ items. items) (take l.number (each group_items (comp_at l.place).groups))) l.fn.walk l.walk
