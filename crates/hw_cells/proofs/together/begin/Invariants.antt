use Rattle.std.proofs.Common.{◌≡◌, length}
use Rattle.hw_cells.proofs.TogetherLemmas.{TellFirst}
use Rattle.hw_cells.proofs.together.begin.Given as goal

abbrev pub invariant-loop-bit : goal.invariant-loop-bit
invariant-loop-bit l =
    record {
      all : length l.words.items ≡ l.nodes;
      told : TellFirst l.bit l.starts l.words.items;
    }
