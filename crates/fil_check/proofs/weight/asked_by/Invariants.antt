use Rattle.std.proofs.Common.{List, length, take, flat_map}
use Rattle.hw_names.specs.Name.{Text, AreDistinct}
use Rattle.fil_ast.specs.Scope.{Scope, Invocation}
use Rattle.fil_ast.specs.Weight.{needs_of}
use Rattle.fil_ast.specs.declared.tree.FilComp.{FilComp}
use Rattle.fil_place.specs.Tables.{IsPlace}
use Rattle.fil_check.specs.inside.Weights.{IsAsked}
use Rattle.fil_check.proofs.weight.asked_by.Given as goal

-- the invocations so far are asked for
abbrev pub invariant-loop-instance : goal.invariant-loop-instance
invariant-loop-instance l =
    (names : List Text) (comp : FilComp) (scope : Scope) → IsPlace names l.earlier comp l.tables scope → AreDistinct l.tables.events
    → IsAsked l.tables.events (flat_map (needs_of scope) (take (length l.yielded) scope.invocations)) (flat_map (λ (v : Invocation). v.gives.times) (take (length l.yielded) scope.invocations)) l.asked
