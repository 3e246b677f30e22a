-- What a stimulus of runs side by side gives, and why it gives nothing. This project's.
use Rattle.std.specs.Prelude.{◌≡◌, ℕ, List, map, Some, None}
use Rattle.serde_json.specs.Data.{Data}
use Rattle.net_core.specs.declared.stimulus.InputShape.{InputShape}
use Rattle.net_core.specs.declared.stimulus.MemShape.{MemShape}
use Rattle.stim_read.specs.CycleText.{Cycles}
use Rattle.stim_read.specs.CycleRun.{Run, run_of, IsJson, IsNoJson}
use Rattle.stim_read.specs.Rules.{refused}
use Rattle.stim_read.specs.RunsText.{runs_in}
use Rattle.stim_read.specs.RunsRules.{end_in_run, KeepRules, BreakFirst}
use Rattle.stim_read.specs.declared.runs_end.RunsEnd.{RunsEnd}
use Rattle.stim_read.specs.declared.stim_end.StimEnd.{StimEnd}

-- the bytes say these stimuli of cycles, side by side
pub record SayRuns (bytes : List ℕ) (runs : List Cycles) : Type 0 where
  pub value : Data
  pub json : IsJson bytes value
  pub says : runs_in value ≡ Some runs

-- the bytes say stimuli that keep the limits and the rules, and each gives one of these runs, in their order
pub record GiveRuns (bytes : List ℕ) (ins : List InputShape) (mems : List MemShape) (given : List Run) : Type 0 where
  pub stimuli : List Cycles
  pub said : SayRuns bytes stimuli
  pub kept : KeepRules ins mems stimuli
  pub gives : given ≡ map (run_of ins mems) stimuli

-- the cause for which the bytes say no stimuli side by side
pub data AreUnsaid (bytes : List ℕ) : StimEnd → Type 0 where
  NoValue : (end : StimEnd) → IsNoJson bytes end → AreUnsaid bytes end
  ByS2 : (value : Data) → IsJson bytes value → runs_in value ≡ None → AreUnsaid bytes (refused 2 0)

-- the cause for which the bytes give no runs; the rules S1 and S2 are told of run 0
pub data IsRunsCause (bytes : List ℕ) (ins : List InputShape) (mems : List MemShape) : RunsEnd → Type 0 where
  NoStimuli : (end : StimEnd) → AreUnsaid bytes end → IsRunsCause bytes ins mems (end_in_run 0 end)
  ByRule : (runs : List Cycles) (end : RunsEnd) → SayRuns bytes runs → BreakFirst ins mems runs end → IsRunsCause bytes ins mems end
