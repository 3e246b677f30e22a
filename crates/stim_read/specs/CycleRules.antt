-- The rules that a stimulus of cycles keeps, and the first that it breaks. This project's.
use Rattle.std.specs.Prelude.{ℕ, ◌^◌, ◌<◌, ◌≤◌, nat_lt, nat_le, length, slice_index, map, List, [], ◌∷◌, Bool, true, false, Option, Some, None}
use Rattle.std.specs.List.{list_all, position_or_len, last_or}
use Rattle.std.specs.Str.{bytes_eq}
use Rattle.hw_names.specs.Name.{Text}
use Rattle.net_core.specs.declared.stimulus.InputShape.{InputShape}
use Rattle.net_core.specs.declared.stimulus.MemShape.{MemShape}
use Rattle.stim_read.specs.Parts.{is_one_of}
use Rattle.stim_read.specs.CycleText.{Entry, Words, Cycles}
use Rattle.stim_read.specs.Rules.{Rule, rule, rule_of_starts, EntriesKeepRules, FirstBroken}
use Rattle.stim_read.specs.declared.given.Given.{Given}
use Rattle.hw_limits.specs.declared.limits.TheConstants.{MOST_TRANSACTIONS, MOST_CYCLES}
use Rattle.stim_read.specs.declared.stim_end.StimEnd.{StimEnd}
use Rattle.stim_read.specs.declared.stim_end.StimEnd.TheVariants.{Limit}

-- what may get values: names, with the widths of the values in bits
pub record Targets : Type 0 where
  pub names : List Text
  pub widths : List ℕ

abbrev pub input_targets : List InputShape → Targets
input_targets ins = record { names = map (λ (i : InputShape). i.name) ins; widths = map (λ (i : InputShape). i.width) ins }

abbrev pub memory_targets : List MemShape → Targets
memory_targets mems = record { names = map (λ (m : MemShape). m.name) mems; widths = map (λ (m : MemShape). m.width) mems }

-- how many words each memory has
abbrev pub sizes_of : List MemShape → List ℕ
sizes_of mems = map (λ (m : MemShape). m.size) mems

-- the place of a name, counted from 0
abbrev pub place_in : List Text → Text → ℕ
place_in names name = position_or_len (bytes_eq name) names

abbrev pub width_of : Targets → Text → ℕ
width_of targets name = slice_index targets.widths (place_in targets.names name)

abbrev pub fits_width : ℕ → ℕ → Bool
fits_width width value = nat_lt value (2 ^ width)

abbrev pub has_known_name : List Text → Given → Bool
has_known_name names g = is_one_of names g.name

abbrev pub given_fits : Targets → Given → Bool
given_fits targets g = fits_width (width_of targets g.name) g.value

-- ---- an entry of inputs

-- S3: each name is an input
abbrev pub has_known_inputs : Targets → Entry → Bool
has_known_inputs inputs entry = list_all (has_known_name inputs.names) entry.given

-- S4: each value fits its input
abbrev pub has_fitting_values : Targets → Entry → Bool
has_fitting_values inputs entry = list_all (given_fits inputs) entry.given

-- S5: its rows begin after those of the entry before, if there is one
abbrev pub begins_after : Option Entry → Entry → Rule
begins_after None entry = rule 5 true
begins_after (Some before) entry = rule_of_starts before.from entry.from 1 (nat_lt before.from entry.from)

-- the rules at an entry of inputs after the earlier entries
abbrev pub input_rules : Targets → List Entry → Entry → List Rule
input_rules inputs earlier entry =
    rule 3 (has_known_inputs inputs entry) ∷ rule 4 (has_fitting_values inputs entry) ∷ begins_after (last_or None earlier) entry ∷ []

-- ---- a memory, which is an entry too

-- S3: there is a memory of this name
abbrev pub is_known_memory : Targets → Words → Bool
is_known_memory memories m = is_one_of memories.names m.name

-- S7: it has as many words
abbrev pub has_room : Targets → List ℕ → Words → Bool
has_room memories sizes m = nat_le (length m.words) (slice_index sizes (place_in memories.names m.name))

-- S4: each word fits its width
abbrev pub has_fitting_words : Targets → Words → Bool
has_fitting_words memories m = list_all (fits_width (width_of memories m.name)) m.words

-- the rules at a memory, whatever the earlier ones are
abbrev pub memory_rules : Targets → List ℕ → List Words → Words → List Rule
memory_rules memories sizes earlier m =
    rule 3 (is_known_memory memories m) ∷ rule 7 (has_room memories sizes m) ∷ rule 4 (has_fitting_words memories m) ∷ []

-- ---- a stimulus

-- there are no more entries of inputs, and no more rows, than the limits
pub record KeepsLimits (c : Cycles) : Type 0 where
  pub entries : length c.inputs ≤ MOST_TRANSACTIONS
  pub rows : c.cycles ≤ MOST_CYCLES

abbrev pub InputsKeepRules : List InputShape → Cycles → Type 0
InputsKeepRules ins c = EntriesKeepRules (input_rules (input_targets ins)) c.inputs

abbrev pub MemoriesKeepRules : List MemShape → Cycles → Type 0
MemoriesKeepRules mems c = EntriesKeepRules (memory_rules (memory_targets mems) (sizes_of mems)) c.memories

-- each entry keeps the rules: the entries of inputs, and the memories
pub record KeepsEntryRules (ins : List InputShape) (mems : List MemShape) (c : Cycles) : Type 0 where
  pub inputs : InputsKeepRules ins c
  pub memories : MemoriesKeepRules mems c

-- a stimulus keeps the limits and the rules
pub record KeepsRules (ins : List InputShape) (mems : List MemShape) (c : Cycles) : Type 0 where
  pub limits : KeepsLimits c
  pub entries : KeepsEntryRules ins mems c

-- this end tells the first rule that an entry breaks; memories are numbered on after the entries of inputs
pub data BreaksEntryRule (ins : List InputShape) (mems : List MemShape) (c : Cycles) : StimEnd → Type 0 where
  InInputs : (end : StimEnd) → FirstBroken (input_rules (input_targets ins)) c.inputs 0 end → BreaksEntryRule ins mems c end
  InMemories :
      (end : StimEnd) → InputsKeepRules ins c → FirstBroken (memory_rules (memory_targets mems) (sizes_of mems)) c.memories (length c.inputs) end →
      BreaksEntryRule ins mems c end

-- this end tells the first limit or rule that a stimulus does not keep
pub data BreaksFirst (ins : List InputShape) (mems : List MemShape) (c : Cycles) : StimEnd → Type 0 where
  Entries : MOST_TRANSACTIONS < length c.inputs → BreaksFirst ins mems c (Limit (length c.inputs) MOST_TRANSACTIONS false)
  Rows : length c.inputs ≤ MOST_TRANSACTIONS → MOST_CYCLES < c.cycles → BreaksFirst ins mems c (Limit c.cycles MOST_CYCLES true)
  InEntries : (end : StimEnd) → KeepsLimits c → BreaksEntryRule ins mems c end → BreaksFirst ins mems c end
