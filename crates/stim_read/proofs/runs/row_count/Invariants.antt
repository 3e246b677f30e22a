use Rattle.std.proofs.Common.{◌≡◌, ◌≤◌, ◌+◌, ◌-◌, ◌^◌, drop}
use Rattle.std.specs.List.{sum_by}
use Rattle.stim_read.specs.CycleText.{Cycles}
use Rattle.stim_read.specs.RunsRules.{row_count}
use Rattle.stim_read.specs.RunsText.{runs_seen}
use Rattle.stim_read.specs.TxRun.{saturated}
use Rattle.stim_read.proofs.runs.row_count.Given as goal

abbrev pub invariant-loop-text : goal.invariant-loop-text
invariant-loop-text l = record {
  small : l.count ≤ 2 ^ 64 - 1;
  count : saturated (l.count + sum_by (λ (c : Cycles). c.cycles) (runs_seen (drop l.text-index l.texts))) ≡ row_count (runs_seen l.texts);
}
