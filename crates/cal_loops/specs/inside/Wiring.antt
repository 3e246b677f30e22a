-- Which outputs of a component reach which of its inputs within a row, and least loops, as code has them. This project's.
use Rattle.std.specs.Prelude.{◌≡◌, ◌↔◌, ℕ, ◌<◌, ◌≤◌, ◌∷◌, List, length, map, slice_get, Option, Some, None, Vec, All}
use Rattle.std.specs.declared.alloc.Global.{Global}
use Rattle.hw_cells.specs.Cells.{IsTold}
use Rattle.hw_cells.specs.PartGraph.{Leads}
use Rattle.hw_cells.specs.declared.part_graph.PartGraph.{PartGraph}
use Rattle.hw_names.specs.Name.{Text}
use Rattle.cal_ast.specs.Ports.{inputs_in}
use Rattle.cal_ast.specs.Tree.{PortName, own, Component, Design}
use Rattle.cal_ast.specs.Wires.{HasNoLoop, IsLeastLoop, Reaches, shown}
use Rattle.cal_place.specs.Nesting.{HasPart}
use Rattle.cal_wires.specs.Nodes.{APort, key_of, ports_in}
use Rattle.cal_loops.specs.declared.cells.inside.Inside.{Inside}

-- each of the component's ports has its node in the graph of these keys, if it has one
pub record AreNodes (c : Component) (keys : List Text) (nodes : List (Option ℕ)) : Type 0 where
  pub all : length nodes ≡ length (ports_in c)
  pub each : (n node : ℕ) (port : Text) → slice_get (ports_in c) n ≡ Some port →
      slice_get nodes n ≡ Some (Some node) ↔ slice_get keys node ≡ Some (key_of (APort (own port)))

-- in the graph each output leads to exactly the inputs that it reaches; ports by their numbers, inputs first
abbrev pub ShowsReached : Design → Component → PartGraph → Type 0
ShowsReached design c graph =
    (n m : ℕ) (output input : Text) → slice_get (ports_in c) n ≡ Some output → slice_get (ports_in c) m ≡ Some input →
    length (inputs_in c) ≤ n → m < length (inputs_in c) → Leads graph n m ↔ Reaches design c (own output) (own input)

-- the component's graph shows what its outputs reach, and what is told of cells is right of it
pub record IsInside (design : Design) (c : Component) (inside : Inside) : Type 0 where
  pub reached : ShowsReached design c inside.graph
  pub told : All (IsTold inside.graph.reads) inside.told.cells.items

-- this of each component that component n has a cell of
pub record ShowsParts (design : Design) (n : ℕ) (insides : List (Option Inside)) : Type 0 where
  pub all : length insides ≡ length design
  pub known : (m : ℕ) → HasPart design n m → (inside : Inside) × (slice_get insides m ≡ Some (Some inside))
  pub each : (m : ℕ) (part : Component) (inside : Inside) → slice_get design m ≡ Some part → slice_get insides m ≡ Some (Some inside) →
      IsInside design part inside

-- none where the component has no loop, else the full names of its least loop's ports
abbrev pub TellsLoop : Design → Component → Option (Vec Text Global) → Type 0
TellsLoop design c None = HasNoLoop design c
TellsLoop design c (Some ports) = (first : PortName) × (others : List PortName) × (ports.items ≡ map shown (first ∷ others)) × IsLeastLoop design c first others
