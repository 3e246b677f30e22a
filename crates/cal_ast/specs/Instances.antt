-- The instances of a design, by their paths from the top. Calyx, ASPLOS 2021.
use Rattle.std.specs.Prelude.{◌≡◌, [], ◌∷◌, Option, Some, option_and_then}
use Rattle.hw_names.specs.Name.{Text, Path, full_name, port_at}
use Rattle.hw_prims.specs.declared.prim.Primitive.{Primitive}
use Rattle.cal_ast.specs.Ports.{primitive_in, part_in}
use Rattle.cal_ast.specs.Tree.{PortName, Component, Design}

-- the component of the instance at a path below a component
abbrev pub component_at : Design → Component → Path → Option Component
component_at design c [] = Some c
component_at design c (cell ∷ path) = option_and_then (λ part. component_at design part path) (part_in design c cell)

-- the full name of a port that a line of the component at this path names; a component's own port and its parent's port of the cell are one
abbrev pub port_name : Path → PortName → Text
port_name path p = port_at path p.cell p.pin

-- a cell of a primitive, somewhere in the design below the top, by its full name
pub record IsPrimitiveCell (design : Design) (top : Component) (name : Text) (prim : Primitive) : Type 0 where
  pub path : Path
  pub c : Component
  pub at : component_at design top path ≡ Some c
  pub cell : Text
  pub made : primitive_in c cell ≡ Some prim
  pub named : full_name path cell ≡ name
