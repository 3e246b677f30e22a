use Rattle.std.proofs.Common.{◌<◌, ◌^◌, drop}
use Rattle.hw_cells.specs.inside.Parts.{cells_at}
use Rattle.hw_cells.proofs.FlatLemmas.{IsFlatSoFar}
use Rattle.hw_cells.proofs.flat.flat_copies.Given as goal

abbrev pub invariant-loop-number : goal.invariant-loop-number
invariant-loop-number l =
    record {
      flat : IsFlatSoFar l.fn.entries.items (cells_at l.cells l.numbers) l.ports (cells_at l.cells (drop l.number-index l.numbers)) l.entries.items l.nodes;
      small : l.nodes < 2 ^ 32;
    }
