use Rattle.std.proofs.Common.{◌≡◌, ◌++◌, map, take}
use Rattle.std.specs.Prelude.{codes, decimal}
use Rattle.cal_walk.specs.declared.planning.Invoke.{Invoke}
use Rattle.filc_calyx.specs.inside.Scheduling.{label_texts}
use Rattle.filc_calyx.proofs.labels.push_invokes.Given as goal

-- the labels of the invokes so far are last
abbrev pub invariant-loop-invoke : goal.invariant-loop-invoke
invariant-loop-invoke l =
    label_texts l.labels.items ≡ label_texts l.initial.labels.items ++ map (λ (invoke : Invoke). codes " #" ++ decimal invoke.item) (take l.invoke-index l.invokes)
