-- What the primitives without a state compute.
use Rattle.std.proofs.Common.{◌≡◌, ℕ, ◌^◌, ◌<◌}
use Rattle.hw_bits.specs.Width.{low_bits}
use Rattle.hw_bits.proofs.WidthLemmas.{low_bits-of_lt}

-- a constant is its own low bits
pub constant_value : (w v : ℕ) → v < 2 ^ w → low_bits w v ≡ v
constant_value w v fits = low_bits-of_lt w v fits
