use Rattle.std.proofs.Common.{ℕ, Some}
use Rattle.std.specs.Prelude.{All}
use Rattle.hw_cells.specs.Cells.{IsFit}
use Rattle.hw_cells.proofs.GraphLemmas.{HasGraphOf}
use Rattle.hw_tests.specs.declared.cells.TheConstants.{PORTS}
use Rattle.hw_tests.proofs.cells.cells_of.Given as goal

abbrev pub invariant-loop-outputs : goal.invariant-loop-outputs
invariant-loop-outputs l =
    record {
      fit : All (IsFit PORTS) l.cells.items;
      graphs : All (HasGraphOf (λ (part : ℕ). Some l.inside)) l.cells.items;
    }
