use Rattle.std.proofs.Common.{◌≡◌, All, map, take, flat_map}
use Rattle.fil_ast.specs.Scope.{Scope, invocations_at}
use Rattle.fil_ast.specs.Tree.{component_tree}
use Rattle.fil_share.specs.Instances.{ShowsScope}
use Rattle.fil_share.specs.Uses.{IsGoodUse, held_by, shown_use}
use Rattle.fil_share.proofs.uses.component_uses.Given as goal

-- the uses of the statements so far
abbrev pub invariant-loop-stmt : goal.invariant-loop-stmt
invariant-loop-stmt l = record {
  shown : (scope : Scope) → ShowsScope l.instances scope → map (shown_use l.names) l.uses.items ≡ flat_map (held_by scope) (flat_map invocations_at (take l.stmt-index (component_tree l.names l.comp).body));
  good : All (IsGoodUse l.names) l.uses.items;
}
