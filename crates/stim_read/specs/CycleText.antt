-- A stimulus of cycles, as its JSON value says it. This project's.
use Rattle.std.specs.Prelude.{ℕ, List, [], ◌∷◌, map, codes, Option, Some, None, option_map}
use Rattle.serde_json.specs.Data.{Data}
use Rattle.serde_json.specs.Find.{get}
use Rattle.hw_names.specs.Name.{Text}
use Rattle.stim_read.specs.Parts.{◌>>=◌, provided, Member, members_in, items_in, is_object_of, number_at, each}
use Rattle.stim_read.specs.Amounts.{amount_in, version_in}
use Rattle.stim_read.specs.declared.amounts.Version.{Version}
use Rattle.stim_read.specs.declared.given.Given.{Given}
use Rattle.stim_read.specs.declared.cycle_text.InputEntry.{InputEntry}
use Rattle.stim_read.specs.declared.cycle_text.MemoryWords.{MemoryWords}
use Rattle.stim_read.specs.declared.cycle_text.CycleText.{CycleText}

-- from this row on, these inputs have these values
pub record Entry : Type 0 where
  pub from : ℕ
  pub given : List Given

-- the first words of the memory with this name
pub record Words : Type 0 where
  pub name : Text
  pub words : List ℕ

-- how many rows a run has, what its inputs are, and what its memories hold before it
pub record Cycles : Type 0 where
  pub cycles : ℕ
  pub inputs : List Entry
  pub memories : List Words

abbrev pub given_by : Version → Member → Option Given
given_by version m = option_map (λ value. record { name = m.0; value = value }) (amount_in version m.1)

-- an object of names with values
abbrev pub givens_in : Version → Data → Option (List Given)
givens_in version value = members_in value >>= each (given_by version)

-- the object at this key
abbrev pub givens_at : Version → Text → Data → Option (List Given)
givens_at version key value = get key value >>= givens_in version

abbrev pub entry_keys : List Text
entry_keys = codes "from" ∷ codes "set" ∷ []

-- an entry of `inputs`
abbrev pub entry_in : Version → Data → Option Entry
entry_in version value = do
  from ← provided (is_object_of entry_keys value) (number_at (codes "from") value)
  given ← givens_at version (codes "set") value
  Some (record { from = from; given = given })

-- the list at the key `inputs`
abbrev pub inputs_in : Version → Data → Option (List Entry)
inputs_in version value = get (codes "inputs") value >>= items_in >>= each (entry_in version)

abbrev pub words_by : Version → Member → Option Words
words_by version m = option_map (λ words. record { name = m.0; words = words }) (items_in m.1 >>= each (amount_in version))

-- the key `memories` may be missing
abbrev pub memories_in : Version → Option Data → Option (List Words)
memories_in version None = Some []
memories_in version (Some value) = members_in value >>= each (words_by version)

abbrev pub cycles_keys : List Text
cycles_keys = codes "version" ∷ codes "cycles" ∷ codes "inputs" ∷ codes "memories" ∷ []

-- what the keys `cycles`, `inputs` and `memories` of an object say
abbrev pub cycles_by : Version → Data → Option Cycles
cycles_by version value = do
  cycles ← number_at (codes "cycles") value
  inputs ← inputs_in version value
  memories ← memories_in version (get (codes "memories") value)
  Some (record { cycles = cycles; inputs = inputs; memories = memories })

-- a stimulus of cycles
abbrev pub cycles_in : Data → Option Cycles
cycles_in value = do
  version ← provided (is_object_of cycles_keys value) (version_in value)
  cycles_by version value

-- ---- the same as the program holds it

abbrev pub entry_seen : InputEntry → Entry
entry_seen entry = record { from = entry.from; given = entry.given.items }

abbrev pub words_seen : MemoryWords → Words
words_seen memory = record { name = memory.name; words = memory.words.items }

abbrev pub cycles_seen : CycleText → Cycles
cycles_seen text =
    record { cycles = text.cycles; inputs = map entry_seen text.inputs.items; memories = map words_seen text.memories.items }
