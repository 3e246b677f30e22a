-- Levels of a component's ports, as code has them: what is read within a row has a lower one. This project's.
use Rattle.std.specs.Prelude.{◌≡◌, ◌↔◌, ℕ, ◌<◌, List, length, slice_get, slice_index, Some, IsTrue}
use Rattle.hw_levels.specs.declared.cells.CellPort.{CellPort}
use Rattle.hw_names.specs.Name.{Text}
use Rattle.cal_ast.specs.Naming.{cell_names, component_names}
use Rattle.cal_ast.specs.Ports.{inputs_in, part_in}
use Rattle.cal_ast.specs.Tree.{Component, Design, own, port_of}
use Rattle.cal_ast.specs.Wires.{Reaches}
use Rattle.cal_place.specs.FirstPlaces.{IsFirst}
use Rattle.cal_place.specs.Nesting.{HasPart}
use Rattle.cal_wires.specs.Nodes.{APort, key_of, ports_in}
use Rattle.cal_wires.specs.WireGraphs.{HasNumber}
use Rattle.cal_loops.specs.declared.levels.Levels.{Levels}
use Rattle.cal_wires.specs.declared.graph.WireGraph.{WireGraph}

-- the component's port of this number has the level
abbrev pub HasLevel : Levels → ℕ → ℕ → Type 0
HasLevel levels number level = slice_get levels.ports.items number ≡ Some (Some level)

-- both ports, by their numbers, have levels, and the one's is lower than the other's
pub record IsLower (levels : Levels) (number other : ℕ) : Type 0 where
  pub low : ℕ
  pub high : ℕ
  pub has_low : HasLevel levels number low
  pub has_high : HasLevel levels other high
  pub lower : low < high

-- of the component's own ports each that another reaches has a lower level
abbrev pub ShowsLevels : Design → Component → Levels → Type 0
ShowsLevels design c levels = (n m : ℕ) (port other : Text) → slice_get (ports_in c) n ≡ Some port → slice_get (ports_in c) m ≡ Some other →
    Reaches design c (own port) (own other) → IsLower levels m n

-- this of each component that component n has a cell of
pub record ShowsPartLevels (design : Design) (n : ℕ) (levels : List Levels) : Type 0 where
  pub all : length levels ≡ length design
  pub each : (m : ℕ) (part : Component) (l : Levels) → HasPart design n m → slice_get design m ≡ Some part → slice_get levels m ≡ Some l →
      ShowsLevels design part l

-- the port of a cell that is made of a component, by the number of the cell, its level in the component, and its number in the graph of c
pub record IsCellPort (design : Design) (c : Component) (g : WireGraph) (levels : List Levels) (port : CellPort) : Type 0 where
  pub cell : Text
  pub first : IsFirst (cell_names c.cells) cell port.cell
  pub part : Component
  pub made : part_in design c cell ≡ Some part
  pub m : ℕ
  pub there : slice_get design m ≡ Some part
  pub named : IsFirst (component_names design) part.name m
  pub pin : Text
  pub j : ℕ
  pub is : IsFirst (ports_in part) pin j
  pub side : IsTrue port.is_input ↔ (j < length (inputs_in part))
  pub known : Levels
  pub are : slice_get levels m ≡ Some known
  pub has_level : HasLevel known j port.level
  pub number : HasNumber g (APort (port_of cell pin)) port.node

-- of levels of a graph's ports the component's own ports keep theirs
abbrev pub KeepsOwn : Component → List Text → List ℕ → Levels → Type 0
KeepsOwn c keys levels kept = (n node : ℕ) (port : Text) → slice_get (ports_in c) n ≡ Some port → slice_get keys node ≡ Some (key_of (APort (own port))) →
    HasLevel kept n (slice_index levels node)
