-- The walk over a stimulus of cycles to the first limit or rule that it does not keep. This project's.
use Rattle.std.specs.Prelude.{ℕ, ◌+◌, nat_lt, nat_le, length, slice_index, List, [], ◌∷◌, true, false, Option, Some, None}
use Rattle.std.specs.List.{list_all}
use Rattle.net_core.specs.declared.stimulus.InputShape.{InputShape}
use Rattle.net_core.specs.declared.stimulus.MemShape.{MemShape}
use Rattle.stim_read.specs.Parts.{is_one_of}
use Rattle.stim_read.specs.Rules.{refused}
use Rattle.stim_read.specs.CycleText.{Entry, Words, Cycles}
use Rattle.stim_read.specs.CycleRules.{Targets, input_targets, memory_targets, sizes_of, place_in, width_of, fits_width, has_known_name, given_fits}
use Rattle.stim_read.specs.inside.Walk.{first_fault, unless}
use Rattle.hw_limits.specs.declared.limits.TheConstants.{MOST_TRANSACTIONS, MOST_CYCLES}
use Rattle.stim_read.specs.declared.stim_end.StimEnd.{StimEnd}
use Rattle.stim_read.specs.declared.stim_end.StimEnd.TheVariants.{Refused, Limit}

-- S5: an entry's `from` is above the one before
abbrev pub order_fault : Option ℕ → ℕ → ℕ → Option StimEnd
order_fault None entry from = None
order_fault (Some before) entry from = unless (nat_lt before from) (Refused 5 entry before from 1)

-- S3, S4 and S5 in an entry of inputs, whose number is counted from 0
abbrev pub input_fault : Targets → Option ℕ → ℕ → Entry → Option StimEnd
input_fault targets before number entry =
    first_fault (unless (list_all (has_known_name targets.names) entry.given) (refused 3 number)) (
    first_fault (unless (list_all (given_fits targets) entry.given) (refused 4 number)) (order_fault before number entry.from))

abbrev pub inputs_fault : Targets → Option ℕ → ℕ → List Entry → Option StimEnd
inputs_fault targets before number [] = None
inputs_fault targets before number (entry ∷ others) =
    first_fault (input_fault targets before number entry) (inputs_fault targets (Some entry.from) (number + 1) others)

-- S3, S7 and S4 in a memory, which is an entry too
abbrev pub memory_fault : Targets → List ℕ → ℕ → Words → Option StimEnd
memory_fault targets sizes number memory =
    first_fault (unless (is_one_of targets.names memory.name) (refused 3 number)) (
    first_fault (unless (nat_le (length memory.words) (slice_index sizes (place_in targets.names memory.name))) (refused 7 number)) (
    unless (list_all (fits_width (width_of targets memory.name)) memory.words) (refused 4 number)))

abbrev pub memories_fault : Targets → List ℕ → ℕ → List Words → Option StimEnd
memories_fault targets sizes number [] = None
memories_fault targets sizes number (memory ∷ others) =
    first_fault (memory_fault targets sizes number memory) (memories_fault targets sizes (number + 1) others)

-- the limits on the entries of inputs and on the rows
abbrev pub limit_fault : Cycles → Option StimEnd
limit_fault c =
    first_fault (unless (nat_le (length c.inputs) MOST_TRANSACTIONS) (Limit (length c.inputs) MOST_TRANSACTIONS false))
    (unless (nat_le c.cycles MOST_CYCLES) (Limit c.cycles MOST_CYCLES true))

-- the first rule that an entry breaks; memories are counted on after the inputs
abbrev pub entries_fault : List InputShape → List MemShape → Cycles → Option StimEnd
entries_fault ins mems c =
    first_fault (inputs_fault (input_targets ins) None 0 c.inputs)
    (memories_fault (memory_targets mems) (sizes_of mems) (length c.inputs) c.memories)

-- the first limit or rule that a stimulus does not keep
abbrev pub cycles_fault : List InputShape → List MemShape → Cycles → Option StimEnd
cycles_fault ins mems c = first_fault (limit_fault c) (entries_fault ins mems c)
