use Rattle.std.proofs.Common.{◌≡◌, ◌++◌, drop, map}
use Rattle.std.specs.List.{list_all}
use Rattle.hw_bits.specs.Values.{values_of, widths_of}
use Rattle.stim_read.specs.CycleRules.{fits_width}
use Rattle.stim_read.proofs.cycle_memories.fitted.Given as goal

abbrev pub invariant-loop-word : goal.invariant-loop-word
invariant-loop-word l = record {
  fit : list_all (fits_width l.width) (drop l.word-index l.words) ≡ list_all (fits_width l.width) l.words;
  values : values_of l.values.items ++ drop l.word-index l.words ≡ l.words;
  widths : widths_of l.values.items ++ map (λ _. l.width) (drop l.word-index l.words) ≡ map (λ _. l.width) l.words;
}
