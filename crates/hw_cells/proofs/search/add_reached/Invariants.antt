use Rattle.std.proofs.Common.{◌≡◌, ◌++◌, map, take, filter}
use Rattle.hw_cells.specs.inside.Pairs.{is_reached, pair_entry}
use Rattle.hw_cells.proofs.search.add_reached.Given as goal

abbrev pub invariant-loop-input : goal.invariant-loop-input
invariant-loop-input l = l.entries.items ≡ l.fn.entries.items ++ map (pair_entry l.start.output) (filter (is_reached l.nodes.keys) (take l.input-index l.start.inputs.now))
