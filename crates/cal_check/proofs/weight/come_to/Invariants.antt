use Rattle.std.proofs.Common.{◌≡◌, ℕ, length}
use Rattle.cal_ast.specs.Tree.{Component, design_of}
use Rattle.cal_check.specs.inside.Totals.{AreOwn}
use Rattle.cal_check.proofs.WeightLemmas.{WeighSoFar}
use Rattle.cal_check.proofs.weight.come_to.Given as goal

-- so many components in the order are weighed
abbrev pub invariant-loop-number : goal.invariant-loop-number
invariant-loop-number l = record {
  sized : length l.whole.items ≡ length (design_of l.design);
  weigh : (own_of : Component → ℕ) → AreOwn (design_of l.design) own_of l.own → WeighSoFar (design_of l.design) own_of l.number-items l.number-index l.whole.items;
}
