use Rattle.std.proofs.Common.{◌≡◌, ◌<◌, ℕ, Some, length, slice_get}
use Rattle.hw_cells.proofs.ports_alone.numbers.Given as goal

-- so many numbers
abbrev pub invariant-loop-number : goal.invariant-loop-number
invariant-loop-number l =
    record {
      all : length l.nodes.items ≡ l.number;
      each : (n : ℕ) → n < l.number → slice_get l.nodes.items n ≡ Some (Some n);
    }
