use Rattle.std.proofs.Common.{◌≡◌, ◌≤◌, length, take}
use Rattle.hw_cells.specs.inside.Told.{outputs_of}
use Rattle.hw_cells.proofs.told.count_together.Given as goal

abbrev pub invariant-loop-count : goal.invariant-loop-count
invariant-loop-count l =
    record {
      outputs : l.outputs ≡ length (outputs_of (take l.count l.cells));
      few : l.outputs ≤ 64;
    }
