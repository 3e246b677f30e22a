use Rattle.std.proofs.Common.{take}
use Rattle.fil_ast.specs.Tree.{design_of}
use Rattle.fil_place.specs.Tables.{ShowsEarlier}
use Rattle.fil_check.specs.inside.Weights.{AreWeights}
use Rattle.fil_check.proofs.weight.weights_of.Given as goal

-- the components so far stand in the tables, with their weights
abbrev pub invariant-loop-comp : goal.invariant-loop-comp
invariant-loop-comp l = record {
  shown : ShowsEarlier l.earlier (take l.comp-index (design_of l.design));
  weights : AreWeights (take l.comp-index (design_of l.design)) l.weights.items;
}
