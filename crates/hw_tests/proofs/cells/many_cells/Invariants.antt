use Rattle.std.proofs.Common.{ℕ, Some}
use Rattle.std.specs.Prelude.{All}
use Rattle.hw_cells.specs.Cells.{IsFit}
use Rattle.hw_cells.proofs.GraphLemmas.{HasGraphOf}
use Rattle.hw_tests.specs.declared.cells.TheConstants.{MANY_PORTS}
use Rattle.hw_tests.proofs.cells.many_cells.Given as goal

abbrev pub invariant-loop-number : goal.invariant-loop-number
invariant-loop-number l =
    record {
      fit : All (IsFit MANY_PORTS) l.cells.items;
      graphs : All (HasGraphOf (λ (part : ℕ). Some l.inside)) l.cells.items;
    }
