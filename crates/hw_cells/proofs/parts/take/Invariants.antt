use Rattle.std.proofs.Common.{ℕ, ◌<◌, length, take}
use Rattle.std.specs.Prelude.{All}
use Rattle.hw_cells.specs.inside.Parts.{Takes, cells_at}
use Rattle.hw_cells.proofs.parts.take.Given as goal

abbrev pub invariant-loop-number : goal.invariant-loop-number
invariant-loop-number l =
    record {
      takes : Takes l.cells (take l.number-index l.numbers) l.starts.items (cells_at l.cells l.fn.left.items) (cells_at l.cells l.left.items);
      within : All (λ (number : ℕ). number < length l.cells) l.fn.left.items → All (λ (number : ℕ). number < length l.cells) l.left.items;
    }
