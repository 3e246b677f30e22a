use Rattle.std.proofs.Common.{List, ◌++◌, take, map}
use Rattle.hw_names.specs.Name.{Text, AreDistinct}
use Rattle.fil_ast.specs.Timeline.{Interval}
use Rattle.fil_ast.specs.Tree.{TimeAt}
use Rattle.fil_sig.specs.Seen.{seen_port}
use Rattle.fil_place.specs.Times.{AreTimes}
use Rattle.fil_check.specs.inside.Weights.{IsAsked, needs_for}
use Rattle.fil_check.proofs.weight.Asked.need_inputs.Given as goal

-- the needs of the inputs so far are asked for
abbrev pub invariant-loop-port : goal.invariant-loop-port
invariant-loop-port l =
    (events : List Text) (needs : List Interval) (times gives : List TimeAt) → AreDistinct events → AreTimes events l.at gives → IsAsked events needs times l.fn.self
    → IsAsked events (needs ++ needs_for gives (map seen_port (take l.port-index l.ins))) times l.self
