use Rattle.std.proofs.Common.{◌≡◌, ◌≤◌, drop, length}
use Rattle.std.specs.Prelude.{All}
use Rattle.hw_cells.specs.inside.Told.{IsSound, outputs_of}
use Rattle.hw_cells.proofs.told.tell_together.Given as goal

abbrev pub invariant-loop-cell : goal.invariant-loop-cell
invariant-loop-cell l =
    record {
      first : l.first ≤ length l.nodes.items;
      rest : drop l.first l.nodes.items ≡ outputs_of (drop l.cell-index l.cells);
      sound : All (IsSound l.reads) l.cells;
    }
