use Rattle.std.proofs.Common.{take, map, flat_map}
use Rattle.fil_ast.specs.Scope.{instances_at}
use Rattle.fil_ast.specs.Tree.{component_tree}
use Rattle.fil_share.specs.Instances.{ShowsInstances}
use Rattle.fil_share.proofs.instances.Instances.of_body.Given as goal

-- the instances so far
abbrev pub invariant-loop-stmt : goal.invariant-loop-stmt
invariant-loop-stmt l =
    ShowsInstances l.instances (map (component_tree l.names) l.earlier) (flat_map instances_at (take l.stmt-index (component_tree l.names l.comp).body))
