-- Entries of assignments' numbers by the ports that they drive. This project's, for private functions alone.
use Rattle.std.specs.Prelude.{◌≡◌, ℕ, ◌+◌, ◌<◌, List, [], ◌∷◌, length, slice_index_or}
use Rattle.hw_names.specs.Name.{Text}
use Rattle.net_core.specs.Netlist.{SetLine}
use Rattle.hw_graph.specs.declared.groups.Entry.{Entry}

-- an entry for each assignment: its destination and its number, the first of which is k
abbrev pub AreDestinations : List Text → ℕ → List Entry → List SetLine → Type 0
AreDestinations names k [] [] = Unit {0}
AreDestinations names k [] (a ∷ sets) = ⊥
AreDestinations names k (e ∷ entries) [] = ⊥
AreDestinations names k (e ∷ entries) (a ∷ sets) =
    (e.key < length names) × (slice_index_or names e.key [] ≡ a.dst) × (e.value ≡ k) × AreDestinations names (k + 1) entries sets
