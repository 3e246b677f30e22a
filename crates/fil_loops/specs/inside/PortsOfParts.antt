-- The ports of a component's instances that have levels in the components that these are made of. This project's.
use Rattle.std.specs.Prelude.{◌≡◌, ◌↔◌, ℕ, ◌<◌, List, length, slice_get, slice_index, Option, Some, Contains, IsTrue}
use Rattle.hw_levels.specs.declared.cells.CellPort.{CellPort}
use Rattle.hw_names.specs.Name.{Text, HasNoDot, dotted}
use Rattle.fil_ast.specs.Scope.{Instance}
use Rattle.fil_ast.specs.Tree.{Component, Design}
use Rattle.fil_loops.specs.inside.Ports.{PortList}
use Rattle.fil_loops.specs.declared.levels.Levels.{Levels}

-- the instance of this number is made of the component of that number
pub record IsMadeOf (comps : Design) (instances : List Instance) (k n : ℕ) : Type 0 where
  pub instance : Instance
  pub part : Component
  pub instance_at : slice_get instances k ≡ Some instance
  pub part_at : slice_get comps n ≡ Some part
  pub named : part.name ≡ instance.made

-- at the number of each instance that is made of one of the components stands the number of that
abbrev pub AreParts : Design → List Instance → List (Option ℕ) → Type 0
AreParts comps instances parts = (k n : ℕ) → (slice_get parts k ≡ Some (Some n)) ↔ IsMadeOf comps instances k n

-- the port of this number is that of the instance with that number: port `pin` of the component that it is made of, which has these levels
pub record IsPortOfPart (ports : PortList) (parts : List (Option ℕ)) (levels : List Levels) (node instance pin : ℕ) (own : Levels) : Type 0 where
  pub inst : Text
  pub name : Text
  pub here : slice_get ports.names node ≡ Some (dotted inst name)
  pub dotless : HasNoDot name
  pub instance_at : slice_get ports.instances instance ≡ Some inst
  pub part : ℕ
  pub made : slice_get parts instance ≡ Some (Some part)
  pub known : slice_get levels part ≡ Some own
  pub pin_at : slice_get own.names pin ≡ Some name
  pub has_level : pin < length own.levels.items

-- what is said of such a port: its instance, its level and its side there, and its number
pub record TellsPort (node instance pin : ℕ) (own : Levels) (port : CellPort) : Type 0 where
  pub cell : port.cell ≡ instance
  pub level : port.level ≡ slice_index own.levels.items pin
  pub number : port.node ≡ node
  pub side : IsTrue port.is_input ↔ (pin < own.inputs)

-- all such ports are among these
abbrev pub HasAllPorts : PortList → List (Option ℕ) → List Levels → List CellPort → Type 0
HasAllPorts ports parts levels cells =
    (node instance pin : ℕ) (own : Levels) → IsPortOfPart ports parts levels node instance pin own →
    (port : CellPort) × Contains cells port × TellsPort node instance pin own port
