use Rattle.std.proofs.Common.{take}
use Rattle.fil_ast.specs.Items.{scope_after}
use Rattle.fil_ast.specs.Rules.{KeepsComponent, all_rules}
use Rattle.fil_ast.specs.Tree.{Design, component_tree}
use Rattle.fil_flow.specs.inside.Body.{IsEarlier}
use Rattle.fil_flow.specs.inside.Planning.{IsPlanning}
use Rattle.fil_flow.proofs.planning.plan_of.Given as goal

abbrev pub invariant-loop-stmt : goal.invariant-loop-stmt
invariant-loop-stmt l =
    (before : Design) → IsEarlier before l.earlier → KeepsComponent all_rules before (component_tree l.names l.comp)
    → IsPlanning l.earlier (scope_after before (component_tree l.names l.comp) (take l.stmt-index (component_tree l.names l.comp).body))
    (take l.stmt-index (component_tree l.names l.comp).body) l.planning
