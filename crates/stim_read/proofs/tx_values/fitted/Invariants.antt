use Rattle.std.proofs.Common.{◌≡◌, ◌++◌, drop, map}
use Rattle.hw_bits.specs.Values.{values_of, widths_of}
use Rattle.stim_read.specs.TxRules.{or_0, all_fit}
use Rattle.stim_read.proofs.tx_values.fitted.Given as goal

abbrev pub invariant-loop-place : goal.invariant-loop-place
invariant-loop-place l = record {
  fit : all_fit (drop l.place l.widths) (drop l.place (map or_0 l.found)) ≡ all_fit l.widths (map or_0 l.found);
  values : values_of l.values.items ++ drop l.place (map or_0 l.found) ≡ map or_0 l.found;
  widths : widths_of l.values.items ++ drop l.place l.widths ≡ l.widths;
}
