-- What a stimulus of cycles gives to a run, and why it gives nothing. This project's.
use Rattle.std.specs.Prelude.{◌≡◌, ℕ, List, map, flat_map, Some, None}
use Rattle.std.specs.Str.{IsUtf8}
use Rattle.hw_bits.specs.Values.{values_of, widths_of}
use Rattle.serde_json.specs.Data.{Data}
use Rattle.serde_json.specs.Read.{read}
use Rattle.net_core.specs.declared.stimulus.InputShape.{InputShape}
use Rattle.net_core.specs.declared.stimulus.CycleList.{CycleList}
use Rattle.net_core.specs.declared.stimulus.InputSet.{InputSet}
use Rattle.net_core.specs.declared.stimulus.MemLoad.{MemLoad}
use Rattle.net_core.specs.declared.stimulus.MemShape.{MemShape}
use Rattle.stim_read.specs.CycleText.{Entry, Words, Cycles, cycles_in}
use Rattle.stim_read.specs.Rules.{refused}
use Rattle.stim_read.specs.CycleRules.{Targets, input_targets, memory_targets, place_in, width_of, KeepsRules, BreaksFirst}
use Rattle.stim_read.specs.declared.given.Given.{Given}
use Rattle.stim_read.specs.declared.stim_end.StimEnd.{StimEnd}
use Rattle.stim_read.specs.declared.stim_end.StimEnd.TheVariants.{Memory}

-- from this row on, the input at this place has this value of this width
pub record Setting : Type 0 where
  pub from : ℕ
  pub input : ℕ
  pub value : ℕ
  pub width : ℕ

-- the first words of the memory at this place, and their widths
pub record Load : Type 0 where
  pub memory : ℕ
  pub values : List ℕ
  pub widths : List ℕ

-- what a run is given
pub record Run : Type 0 where
  pub cycles : ℕ
  pub settings : List Setting
  pub loads : List Load

abbrev pub setting_of : Targets → ℕ → Given → Setting
setting_of targets from g =
    record { from = from; input = place_in targets.names g.name; value = g.value; width = width_of targets g.name }

abbrev pub settings_of : Targets → Entry → List Setting
settings_of targets entry = map (setting_of targets entry.from) entry.given

abbrev pub load_of : Targets → Words → Load
load_of targets memory =
    record { memory = place_in targets.names memory.name; values = memory.words; widths = map (λ _. width_of targets memory.name) memory.words }

abbrev pub run_of : List InputShape → List MemShape → Cycles → Run
run_of ins mems c =
    record {
      cycles = c.cycles;
      settings = flat_map (settings_of (input_targets ins)) c.inputs;
      loads = map (load_of (memory_targets mems)) c.memories;
    }

-- ---- the same as the program holds it

abbrev pub setting_seen : InputSet → Setting
setting_seen s = record { from = s.from; input = s.input; value = s.value.value; width = s.value.width }

abbrev pub load_seen : MemLoad → Load
load_seen l = record { memory = l.mem; values = values_of l.words.items; widths = widths_of l.words.items }

abbrev pub run_seen : CycleList → Run
run_seen list =
    record { cycles = list.cycles; settings = map setting_seen list.sets.items; loads = map load_seen list.loads.items }

-- ---- texts

-- the bytes are the text of a JSON value
pub record IsJson (bytes : List ℕ) (value : Data) : Type 0 where
  pub utf8 : IsUtf8 bytes
  pub reads : read bytes ≡ Some value

-- the bytes say this stimulus of cycles
pub record SayCycles (bytes : List ℕ) (c : Cycles) : Type 0 where
  pub value : Data
  pub json : IsJson bytes value
  pub says : cycles_in value ≡ Some c

-- the bytes say a stimulus that keeps the rules and the limits, and it gives this run
pub record GiveRun (bytes : List ℕ) (ins : List InputShape) (mems : List MemShape) (run : Run) : Type 0 where
  pub stimulus : Cycles
  pub said : SayCycles bytes stimulus
  pub kept : KeepsRules ins mems stimulus
  pub gives : run ≡ run_of ins mems stimulus

-- the cause for which the bytes are no JSON value
pub data IsNoJson (bytes : List ℕ) : StimEnd → Type 0 where
  NoMemory : IsNoJson bytes Memory
  ByS1 : ((value : Data) → ¬ IsJson bytes value) → IsNoJson bytes (refused 1 0)

-- the cause for which the bytes say no stimulus of cycles
pub data IsUnsaid (bytes : List ℕ) : StimEnd → Type 0 where
  NoValue : (end : StimEnd) → IsNoJson bytes end → IsUnsaid bytes end
  ByS2 : (value : Data) → IsJson bytes value → cycles_in value ≡ None → IsUnsaid bytes (refused 2 0)

-- the cause for which the bytes give no run
pub data IsCause (bytes : List ℕ) (ins : List InputShape) (mems : List MemShape) : StimEnd → Type 0 where
  NoStimulus : (end : StimEnd) → IsUnsaid bytes end → IsCause bytes ins mems end
  ByRule : (c : Cycles) (end : StimEnd) → SayCycles bytes c → BreaksFirst ins mems c end → IsCause bytes ins mems end
