use Rattle.std.proofs.Common.{List, ◌++◌, take}
use Rattle.hw_names.specs.Name.{Text, AreDistinct}
use Rattle.fil_ast.specs.Timeline.{Interval}
use Rattle.fil_ast.specs.Tree.{TimeAt}
use Rattle.fil_place.specs.Times.{AreTimes}
use Rattle.fil_check.specs.inside.Weights.{IsAsked}
use Rattle.fil_check.proofs.weight.Asked.reach_times.Given as goal

-- the times so far are used
abbrev pub invariant-loop-time : goal.invariant-loop-time
invariant-loop-time l =
    (events : List Text) (needs : List Interval) (times gives : List TimeAt) → AreDistinct events → AreTimes events l.at gives → IsAsked events needs times l.fn.self
    → IsAsked events needs (times ++ take l.time-index gives) l.self
