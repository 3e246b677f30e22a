use Rattle.std.proofs.Common.{take}
use Rattle.fil_ast.specs.Tree.{design_of}
use Rattle.fil_flow.specs.inside.Body.{IsEarlier}
use Rattle.fil_flow.specs.Shown.{ShowPlans}
use Rattle.fil_flow.proofs.plans.plans_of.Given as goal

-- the components so far stand by their numbers, with their plans
abbrev pub invariant-loop-comp : goal.invariant-loop-comp
invariant-loop-comp l = record {
  earlier : IsEarlier (take l.comp-index (design_of l.design)) l.earlier;
  shown : ShowPlans (take l.comp-index (design_of l.design)) l.plans.items;
}
