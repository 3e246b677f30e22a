use Rattle.std.proofs.Common.{◌≡◌, ◌++◌, map, take, filter}
use Rattle.hw_cells.specs.inside.Pairs.{has_bit, pair_entry}
use Rattle.hw_cells.proofs.pairs.add_pairs_of.Given as goal

abbrev pub invariant-loop-input : goal.invariant-loop-input
invariant-loop-input l = l.entries.items ≡ l.fn.entries.items ++ map (pair_entry l.start.output) (filter (has_bit l.words l.bit) (take l.input-index l.start.inputs.now))
