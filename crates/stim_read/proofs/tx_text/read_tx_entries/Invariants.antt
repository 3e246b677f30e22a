use Rattle.std.proofs.Common.{◌≡◌, drop, map}
use Rattle.serde_json.specs.View.{view}
use Rattle.stim_read.specs.Parts.{each}
use Rattle.stim_read.specs.TxText.{tx_entry_in, tx_entry_seen}
use Rattle.stim_read.proofs.EachLemmas.{behind}
use Rattle.stim_read.proofs.tx_text.read_tx_entries.Given as goal

abbrev pub invariant-loop-value : goal.invariant-loop-value
invariant-loop-value l =
    behind (map tx_entry_seen l.entries.items) (each (tx_entry_in l.version) (map view (drop l.value-index l.values))) ≡ each (tx_entry_in l.version) (map view l.values)
