use Rattle.std.proofs.Common.{All, take}
use Rattle.fil_ast.specs.Naming.{IsKnownValue}
use Rattle.fil_ast.specs.Scope.{Scope}
use Rattle.fil_ast.specs.Tree.{value_tree}
use Rattle.fil_ast.specs.declared.tree.Value.{Value}
use Rattle.fil_place.specs.Place.{IsPlaceIn}
use Rattle.fil_rules.proofs.naming.are_known.Given as goal

-- the arguments so far are known
abbrev pub invariant-loop-arg : goal.invariant-loop-arg
invariant-loop-arg l = (scope : Scope) → IsPlaceIn l.place scope → All (λ (arg : Value). IsKnownValue scope (value_tree l.place.names.now arg)) (take l.arg-index l.args)
