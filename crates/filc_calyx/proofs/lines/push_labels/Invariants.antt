use Rattle.std.proofs.Common.{◌≡◌, ◌++◌, Bool, List, take, flat_map}
use Rattle.cal_ast.specs.Actors.{Actor}
use Rattle.filc_calyx.specs.inside.Scheduling.{AreLabelsOf, TellsActing, label_if}
use Rattle.filc_calyx.proofs.lines.push_labels.Given as goal

-- the labels of those so far that act are last
abbrev pub invariant-loop-actor : goal.invariant-loop-actor
invariant-loop-actor l =
    (actors : List Actor) (acts : Actor → Bool) → AreLabelsOf actors l.labels → TellsActing actors acts l.walker
    → l.text.items ≡ l.initial.text.items ++ flat_map (label_if acts) (take l.actor actors)
