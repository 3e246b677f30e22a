use Rattle.std.proofs.Common.{◌≡◌, ℕ, ◌+◌, ◌<◌, length}
use Rattle.std.specs.Prelude.{slice_index}
use Rattle.net_row.proofs.places.input_places.Given as goal

abbrev pub invariant-loop-number : goal.invariant-loop-number
invariant-loop-number l = record {
  size : length l.places ≡ 4;
  first : (k : ℕ) → k < l.number → slice_index l.places k ≡ slice_index l.ports (l.cell.first + k);
}
