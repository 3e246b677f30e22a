-- The limits and rules that runs side by side keep, and the first that they break. This project's.
use Rattle.std.specs.Prelude.{◌≡◌, ℕ, ◌<◌, ◌≤◌, List, length, slice_get, Some, true, false, All}
use Rattle.std.specs.List.{sum_by}
use Rattle.net_core.specs.declared.stimulus.InputShape.{InputShape}
use Rattle.net_core.specs.declared.stimulus.MemShape.{MemShape}
use Rattle.stim_read.specs.CycleText.{Cycles}
use Rattle.stim_read.specs.CycleRules.{KeepsEntryRules, BreaksEntryRule}
use Rattle.stim_read.specs.TxRun.{saturated}
use Rattle.hw_limits.specs.declared.limits.TheConstants.{MOST_TRANSACTIONS, MOST_CYCLES}
use Rattle.stim_read.specs.declared.runs_end.RunsEnd.{RunsEnd}
use Rattle.stim_read.specs.declared.runs_end.RunsEnd.TheVariants as runs_end
use Rattle.stim_read.specs.declared.stim_end.StimEnd.{StimEnd}
use Rattle.stim_read.specs.declared.stim_end.StimEnd.TheVariants as stim_end

-- how many entries of inputs all runs have, and how many rows; sums end at 2 ^ 64 - 1
abbrev pub entry_count : List Cycles → ℕ
entry_count runs = saturated (sum_by (λ (c : Cycles). length c.inputs) runs)

abbrev pub row_count : List Cycles → ℕ
row_count runs = saturated (sum_by (λ (c : Cycles). c.cycles) runs)

-- what ends one run, told with the run's number, which is counted from 0
abbrev pub end_in_run : ℕ → StimEnd → RunsEnd
end_in_run run (stim_end.Refused rule entry first second delay) = runs_end.Refused rule run entry first second delay
end_in_run run (stim_end.Limit count limit cycles) = runs_end.Limit count limit cycles
end_in_run run stim_end.Memory = runs_end.Memory

-- all runs together have no more entries of inputs, and no more rows, than the limits
pub record KeepLimits (runs : List Cycles) : Type 0 where
  pub entries : entry_count runs ≤ MOST_TRANSACTIONS
  pub rows : row_count runs ≤ MOST_CYCLES

-- the limits are kept, and each run keeps the rules
pub record KeepRules (ins : List InputShape) (mems : List MemShape) (runs : List Cycles) : Type 0 where
  pub limits : KeepLimits runs
  pub entries : All (KeepsEntryRules ins mems) runs

-- this end tells the first limit that all runs together go over
pub data GoOver (runs : List Cycles) : RunsEnd → Type 0 where
  Entries : MOST_TRANSACTIONS < entry_count runs → GoOver runs (runs_end.Limit (entry_count runs) MOST_TRANSACTIONS false)
  Rows : entry_count runs ≤ MOST_TRANSACTIONS → MOST_CYCLES < row_count runs → GoOver runs (runs_end.Limit (row_count runs) MOST_CYCLES true)

-- this end tells the first run in which an entry breaks a rule, and the first rule that is broken there
pub record BreakInRun (ins : List InputShape) (mems : List MemShape) (runs : List Cycles) (end : RunsEnd) : Type 0 where
  pub run : Cycles
  pub place : ℕ
  pub at : slice_get runs place ≡ Some run
  pub earlier : (k : ℕ) (other : Cycles) → k < place → slice_get runs k ≡ Some other → KeepsEntryRules ins mems other
  pub end_there : StimEnd
  pub breaks : BreaksEntryRule ins mems run end_there
  pub told : end ≡ end_in_run place end_there

-- this end tells the first limit or rule that runs do not keep: the limits together, then the rules run by run
pub data BreakFirst (ins : List InputShape) (mems : List MemShape) (runs : List Cycles) : RunsEnd → Type 0 where
  Limits : (end : RunsEnd) → GoOver runs end → BreakFirst ins mems runs end
  InRun : (end : RunsEnd) → KeepLimits runs → BreakInRun ins mems runs end → BreakFirst ins mems runs end
