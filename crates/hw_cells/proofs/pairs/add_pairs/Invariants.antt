use Rattle.std.proofs.Common.{◌≡◌}
use Rattle.std.specs.Slice.Iter.{chunks_rest, chunks_size}
use Rattle.hw_cells.proofs.PairLemmas.{AreDone}
use Rattle.hw_cells.proofs.pairs.add_pairs.Given as goal

abbrev pub invariant-loop-some : goal.invariant-loop-some
invariant-loop-some l =
    record {
      next : goal.iterator-loop-some.can_next l.some-iterator;
      finite : goal.iterator-loop-some.is_finite l.some-iterator;
      size : chunks_size l.some-iterator ≡ 64;
      done : AreDone l.reads l.starts (chunks_rest l.some-iterator) l.fn.entries.items l.entries.items;
    }
