-- The wire graph of all instances below a top component, by full names. This project's.
use Rattle.std.specs.Prelude.{◌≡◌, Some}
use Rattle.hw_names.specs.Name.{Text, Path}
use Rattle.cal_ast.specs.Instances.{component_at, port_name}
use Rattle.cal_ast.specs.Tree.{PortName, Component, Design}
use Rattle.cal_ast.specs.Wires.{ReadsPort}

-- within a row the port of this full name reads the other: as ports of one instance they do, by the wire graph of its component
pub record FlatReads (design : Design) (top : Component) (port other : Text) : Type 0 where
  pub path : Path
  pub c : Component
  pub at : component_at design top path ≡ Some c
  pub from : PortName
  pub to : PortName
  pub reads : ReadsPort design c from to
  pub is_port : port_name path from ≡ port
  pub is_other : port_name path to ≡ other

-- the port reads the other, at once or over ports between
pub data FlatReaches (design : Design) (top : Component) : Text → Text → Type 0 where
  FlatAtOnce : (port other : Text) → FlatReads design top port other → FlatReaches design top port other
  FlatOver : (port between other : Text) → FlatReads design top port between → FlatReaches design top between other →
      FlatReaches design top port other
