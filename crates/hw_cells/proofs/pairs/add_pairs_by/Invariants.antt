use Rattle.std.proofs.Common.{List, ℕ, map, take}
use Rattle.hw_cells.specs.inside.Pairs.{AddsPairs}
use Rattle.hw_cells.specs.inside.Words.{TellReached}
use Rattle.hw_cells.specs.declared.pairs.Start.{Start}
use Rattle.hw_cells.proofs.pairs.add_pairs_by.Given as goal

abbrev pub invariant-loop-bit : goal.invariant-loop-bit
invariant-loop-bit l =
    (reads : List (List ℕ)) → TellReached reads (map (λ (start : Start). start.output.node) l.starts) l.words → AddsPairs reads (take l.bit l.starts) l.fn.entries.items l.entries.items
