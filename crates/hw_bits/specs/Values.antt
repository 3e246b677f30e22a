-- The numbers of values.
use Rattle.std.specs.Prelude.{ℕ, List, map}
use Rattle.hw_bits.specs.declared.bits.Bits.{Bits}

abbrev pub values_of : List Bits → List ℕ
values_of xs = map (λ (x : Bits). x.value) xs

abbrev pub widths_of : List Bits → List ℕ
widths_of xs = map (λ (x : Bits). x.width) xs
