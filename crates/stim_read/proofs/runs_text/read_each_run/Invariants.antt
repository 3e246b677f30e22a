use Rattle.std.proofs.Common.{◌≡◌, drop, map}
use Rattle.serde_json.specs.View.{view}
use Rattle.stim_read.specs.Parts.{each}
use Rattle.stim_read.specs.CycleText.{cycles_seen}
use Rattle.stim_read.specs.RunsText.{run_in}
use Rattle.stim_read.proofs.EachLemmas.{behind}
use Rattle.stim_read.proofs.runs_text.read_each_run.Given as goal

abbrev pub invariant-loop-value : goal.invariant-loop-value
invariant-loop-value l =
    behind (map cycles_seen l.runs.items) (each (run_in l.version) (map view (drop l.value-index l.values))) ≡ each (run_in l.version) (map view l.values)
