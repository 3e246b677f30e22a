use Rattle.std.proofs.Common.{◌≡◌, None, length, take}
use Rattle.cal_ast.specs.Tree.{design_of}
use Rattle.cal_loops.specs.inside.LoopedSoFar.{TellsFirstLooped}
use Rattle.cal_loops.proofs.OrderLemmas.{KnowsLevels}
use Rattle.cal_loops.proofs.levels.have_levels.Given as goal

-- so many components have levels, and no loop
abbrev pub invariant-loop-number : goal.invariant-loop-number
invariant-loop-number l = record {
  sized : length l.levels.items ≡ length (design_of l.overview.design.now);
  knows : KnowsLevels (design_of l.overview.design.now) (take l.number-index l.number-items) l.levels.items;
  clear : TellsFirstLooped (design_of l.overview.design.now) (take l.number-index l.number-items) None;
}
