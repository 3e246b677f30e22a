use Rattle.std.proofs.Common.{flat_map, take}
use Rattle.fil_ast.specs.Scope.{invocations_at}
use Rattle.fil_ast.specs.Tree.{component_tree}
use Rattle.fil_lower.specs.inside.Place.{ShowsCalls}
use Rattle.fil_lower.proofs.calls.Calls.of_component.Given as goal

abbrev pub invariant-loop-stmt : goal.invariant-loop-stmt
invariant-loop-stmt l = ShowsCalls l.names (flat_map invocations_at (take l.stmt-index (component_tree l.names l.comp).body)) l.calls
