-- The assignments of each name, as code keeps them. This project's.
use Rattle.std.specs.Prelude.{ℕ, suc, List, [], ◌∷◌, length, slice_get}
use Rattle.std.specs.List.{flat_map}
use Rattle.std.specs.Option.{option_to_list}
use Rattle.hw_graph.specs.Groups.{IsGathered}
use Rattle.hw_graph.specs.declared.groups.Entry.{Entry}
use Rattle.net_core.specs.declared.net.Net.{Net}
use Rattle.net_core.specs.declared.net.NetAssign.{NetAssign}

-- the number of each assignment, counted on from this one, by the number of the name that it drives
abbrev pub entries_of : ℕ → List NetAssign → List Entry
entries_of number [] = []
entries_of number (a ∷ sets) = record { key = a.dst.0; value = number } ∷ entries_of (suc number) sets

-- for each name the numbers of its assignments
abbrev pub AreDrivers : Net → List (List ℕ) → Type 0
AreDrivers net groups = IsGathered (entries_of 0 net.sets.items) (length net.names) groups

-- the assignments with these numbers
abbrev pub picked : List NetAssign → List ℕ → List NetAssign
picked sets numbers = flat_map (λ number. option_to_list (slice_get sets number)) numbers
