use Rattle.std.proofs.Common.{◌≡◌, ℕ, ◌+◌, ◌<◌, length}
use Rattle.std.specs.Prelude.{slice_index}
use Rattle.hw_bits.specs.Values.{values_of}
use Rattle.net_row.proofs.flat.open.Given as goal

abbrev pub invariant-loop-number : goal.invariant-loop-number
invariant-loop-number l = record {
  kept_first : (k : ℕ) → k < length l.kept → slice_index l.slots k ≡ slice_index l.kept k;
  inputs_next : (k : ℕ) → k < l.number → slice_index l.slots (length l.kept + k) ≡ slice_index (values_of l.inputs) k;
}
