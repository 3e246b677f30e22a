-- Numbers of a graph's ports that rise along no read, so that each cycle has one. This project's, for private functions alone.
use Rattle.std.specs.Prelude.{◌≡◌, ℕ, ◌<◌, ◌≤◌, Bool, false, List, length, All, slice_index, slice_index_or}
use Rattle.hw_graph.specs.Graph.{HasRead, IsOffCycles}
use Rattle.hw_graph.specs.declared.groups.Entry.{Entry}

-- no read leads to a greater number
abbrev pub NeverRises : List (List ℕ) → List ℕ → Type 0
NeverRises reads numbers = (port other : ℕ) → HasRead reads port other → slice_index numbers other ≤ slice_index numbers port

-- entries of ports below a count
abbrev pub AreBelow : ℕ → List Entry → Type 0
AreBelow count entries = All (λ (e : Entry). (e.key < count) × (e.value < count)) entries

-- of the first ports, as many as the count says, those without a mark lie on no cycle
pub record LeavesNoCycle (reads : List (List ℕ)) (count : ℕ) (marks : List Bool) : Type 0 where
  pub all : length marks ≡ count
  pub others : (port : ℕ) → port < count → slice_index_or marks port false ≡ false → IsOffCycles reads port
