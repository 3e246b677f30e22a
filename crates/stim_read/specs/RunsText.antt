-- Stimuli of cycles side by side, as their JSON value says them. This project's.
use Rattle.std.specs.Prelude.{ℕ, ◌&&◌, nat_le, List, [], ◌∷◌, length, map, codes, Bool, Option}
use Rattle.serde_json.specs.Data.{Data}
use Rattle.serde_json.specs.Find.{get}
use Rattle.hw_names.specs.Name.{Text}
use Rattle.stim_read.specs.Parts.{◌>>=◌, provided, items_in, is_object_of, each}
use Rattle.stim_read.specs.Amounts.{version_in}
use Rattle.stim_read.specs.CycleText.{Cycles, cycles_by, cycles_seen}
use Rattle.stim_read.specs.declared.amounts.Version.{Version}
use Rattle.stim_read.specs.declared.cycle_text.CycleText.{CycleText}
use Rattle.stim_read.specs.declared.runs_text.TheConstants.{MOST_RUNS}

abbrev pub run_keys : List Text
run_keys = codes "cycles" ∷ codes "inputs" ∷ codes "memories" ∷ []

-- a run: a stimulus of cycles without its version, which is said once for all runs
abbrev pub run_in : Version → Data → Option Cycles
run_in version value = provided (is_object_of run_keys value) (cycles_by version value)

-- there is one run or more, and no more than go side by side
abbrev pub is_run_count : ℕ → Bool
is_run_count count = nat_le 1 count && nat_le count MOST_RUNS

-- a list of so many runs
abbrev pub run_list_in : Version → List Data → Option (List Cycles)
run_list_in version items = provided (is_run_count (length items)) (each (run_in version) items)

abbrev pub runs_keys : List Text
runs_keys = codes "version" ∷ codes "runs" ∷ []

-- a stimulus of runs
abbrev pub runs_in : Data → Option (List Cycles)
runs_in value = do
  version ← provided (is_object_of runs_keys value) (version_in value)
  items ← get (codes "runs") value >>= items_in
  run_list_in version items

-- ---- the same as the program holds it

abbrev pub runs_seen : List CycleText → List Cycles
runs_seen texts = map cycles_seen texts
