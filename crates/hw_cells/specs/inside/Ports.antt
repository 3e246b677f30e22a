-- A graph of a component's ports alone. This project's, for private functions alone.
use Rattle.std.specs.Prelude.{◌≡◌, ◌↔◌, ℕ, ◌<◌, ◌≤◌, List, length, slice_get, Option, Some}
use Rattle.hw_graph.specs.Graph as graph
use Rattle.hw_graph.specs.Graph.{AreInRange}
use Rattle.hw_cells.specs.PartGraph.{Leads}
use Rattle.hw_cells.specs.declared.cell.Pin.{Pin}
use Rattle.hw_cells.specs.declared.part_graph.PartGraph.{PartGraph}

-- the pin is a port from the start on and before the end, with its node
pub record IsPinBetween (nodes : List (Option ℕ)) (start end : ℕ) (pin : Pin) : Type 0 where
  pub from : start ≤ pin.port
  pub to : pin.port < end
  pub has_node : slice_get nodes pin.port ≡ Some (Some pin.node)

-- the nodes are the component's ports, by their numbers: each output reaches exactly the inputs that it leads to in the component's graph
pub record IsOfPorts (part : PartGraph) (reads : List (List ℕ)) : Type 0 where
  pub all : length reads ≡ length part.nodes.items
  pub in_range : AreInRange reads
  pub reaches : (n m : ℕ) → part.inputs ≤ n → m < part.inputs → graph.Reaches reads n m ↔ Leads part n m
