-- Entries that are added to those of a graph. This project's, for private functions alone.
use Rattle.std.specs.Prelude.{ℕ, ◌<◌, List, All, Contains}
use Rattle.hw_graph.specs.declared.groups.Entry.{Entry}

-- the entries are of ports below a count
abbrev pub AreBelow : ℕ → List Entry → Type 0
AreBelow count entries = All (λ (entry : Entry). (entry.key < count) × (entry.value < count)) entries

-- no entry is lost
abbrev pub AreKept : List Entry → List Entry → Type 0
AreKept old new = (entry : Entry) → Contains old entry → Contains new entry
