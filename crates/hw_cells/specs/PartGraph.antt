-- What the holders of a component's cells need to know of it: its graph, and the nodes of its ports there, by their numbers, inputs first. This project's.
use Rattle.std.specs.Prelude.{◌≡◌, ◌↔◌, ℕ, ◌<◌, ◌≤◌, length, slice_get, Some}
use Rattle.hw_cells.specs.Cells.{IsOrReaches}
use Rattle.hw_cells.specs.declared.part_graph.PartGraph.{PartGraph}

-- port n has a node, and port m, and the one is the other or reaches it
pub record Leads (part : PartGraph) (n m : ℕ) : Type 0 where
  pub node : ℕ
  pub other : ℕ
  pub is_node : slice_get part.nodes.items n ≡ Some (Some node)
  pub is_other : slice_get part.nodes.items m ≡ Some (Some other)
  pub leads : IsOrReaches part.reads node other

-- of the same ports each output leads to the same inputs
pub record LeadsAlike (old new : PartGraph) : Type 0 where
  pub inputs : new.inputs ≡ old.inputs
  pub all : length new.nodes.items ≡ length old.nodes.items
  pub leads : (n m : ℕ) → old.inputs ≤ n → m < old.inputs → Leads new n m ↔ Leads old n m
