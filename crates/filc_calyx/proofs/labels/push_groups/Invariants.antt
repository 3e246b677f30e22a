use Rattle.std.proofs.Common.{◌≡◌, ◌++◌, map, take}
use Rattle.std.specs.Prelude.{codes}
use Rattle.hw_names.specs.Name.{text_of}
use Rattle.cal_ast.specs.declared.tree.Group.{Group}
use Rattle.filc_calyx.specs.inside.Scheduling.{label_texts}
use Rattle.filc_calyx.proofs.labels.push_groups.Given as goal

-- the labels of the groups so far are last
abbrev pub invariant-loop-group : goal.invariant-loop-group
invariant-loop-group l =
    label_texts l.labels.items ≡ label_texts l.initial.labels.items ++ map (λ (group : Group). codes " " ++ text_of l.names group.name) (take l.group-index l.groups)
