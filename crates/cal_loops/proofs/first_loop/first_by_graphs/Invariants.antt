use Rattle.std.proofs.Common.{◌≡◌, length, take}
use Rattle.cal_ast.specs.Tree.{design_of}
use Rattle.cal_loops.specs.inside.LoopedSoFar.{TellsFirstLooped}
use Rattle.cal_loops.proofs.LoopedLemmas.{KnowsParts}
use Rattle.cal_loops.proofs.first_loop.first_by_graphs.Given as goal

-- so many components are judged: the first that has a loop, and what holders need to know of those that are parts
abbrev pub invariant-loop-number : goal.invariant-loop-number
invariant-loop-number l = record {
  sized : length l.insides.items ≡ length (design_of l.overview.design.now);
  knows : KnowsParts (design_of l.overview.design.now) (take l.number-index l.number-items) l.insides.items;
  looped : TellsFirstLooped (design_of l.overview.design.now) (take l.number-index l.number-items) l.looped;
}
