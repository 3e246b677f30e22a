use Rattle.std.proofs.Common.{◌≡◌, take, map, flat_map}
use Rattle.fil_ast.specs.Scope.{instances_at}
use Rattle.fil_ast.specs.Tree.{Design, statement_tree}
use Rattle.fil_place.specs.Tables.{ShowsEarlier}
use Rattle.fil_check.specs.inside.Weights.{AreWeights, capped, instances_weight}
use Rattle.fil_check.proofs.weight.weight_of_instances.Given as goal

-- the instances of the statements so far are added
abbrev pub invariant-loop-stmt : goal.invariant-loop-stmt
invariant-loop-stmt l = (comps : Design) → ShowsEarlier l.earlier comps → AreWeights comps l.weights → l.total ≡ capped (instances_weight comps (flat_map instances_at (map (statement_tree l.names) (take l.stmt-index l.comp.body.items))))
