use Rattle.std.proofs.Common.{◌≡◌, drop, map}
use Rattle.serde_json.specs.View.{view}
use Rattle.stim_read.specs.Parts.{each}
use Rattle.stim_read.specs.Amounts.{amount_in}
use Rattle.stim_read.proofs.EachLemmas.{behind}
use Rattle.stim_read.proofs.cycle_text.read_words.Given as goal

abbrev pub invariant-loop-value : goal.invariant-loop-value
invariant-loop-value l =
    behind l.words.items (each (amount_in l.version) (map view (drop l.value-index l.values))) ≡ each (amount_in l.version) (map view l.values)
