use Rattle.std.proofs.Common.{◌≡◌, ◌++◌, drop, map}
use Rattle.stim_read.specs.CycleRun.{run_of, run_seen}
use Rattle.stim_read.specs.RunsText.{runs_seen}
use Rattle.stim_read.proofs.RunsLemmas.{KeepUpto}
use Rattle.stim_read.proofs.runs.judge_runs.Given as goal

abbrev pub invariant-loop-number : goal.invariant-loop-number
invariant-loop-number l = record {
  kept : KeepUpto l.ins l.mems l.number (runs_seen l.texts);
  runs : map run_seen l.lists.items ++ map (run_of l.ins l.mems) (runs_seen (drop l.number l.texts)) ≡ map (run_of l.ins l.mems) (runs_seen l.texts);
}
