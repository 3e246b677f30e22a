use Rattle.std.proofs.Common.{List, map, take}
use Rattle.std.specs.List.{AllZip}
use Rattle.fil_ast.specs.Scope.{Scope}
use Rattle.fil_ast.specs.Tree.{ValueTree, value_tree}
use Rattle.fil_flow.specs.inside.Body.{IsBody, IsSourceOf}
use Rattle.fil_flow.proofs.body.Body.sources.Given as goal

abbrev pub invariant-loop-value : goal.invariant-loop-value
invariant-loop-value l =
    (scope : Scope) (held : List ValueTree) → IsBody l.earlier scope held l.self → AllZip (IsSourceOf held) (map (value_tree l.names) (take l.value-index l.values)) l.sources.items
