-- A component that stands in two designs, and looks the same in both. This project's.
use Rattle.std.specs.Prelude.{◌≡◌, ◌⊎◌, Some, Contains}
use Rattle.hw_names.specs.Name.{Text}
use Rattle.cal_ast.specs.Invoking.{go_of}
use Rattle.cal_ast.specs.Ports.{part_in, port_in}
use Rattle.cal_ast.specs.Tree.{PortName, own, Component, Design}
use Rattle.cal_ast.specs.Wires.{Reaches}

-- each port that a line of the component may name has one side and width in both designs, or is in neither; and one port starts each cell
pub record LooksTheSame (first second : Design) (c : Component) : Type 0 where
  pub ports : (p : PortName) → port_in first c p ≡ port_in second c p
  pub starts : (cell : Text) → go_of first c cell ≡ go_of second c cell

-- within a row no output of the component reaches an input of it
abbrev pub PassesNothing : Design → Component → Type 0
PassesNothing design c = (output input : Text) → Reaches design c (own output) (own input) → ⊥

-- these components stand in both designs and look the same; where the second makes a cell of one of them of a component, either the first makes it of the same
-- one, which is one of these too, or that component passes nothing on
pub record PassNoMore (first second these : Design) : Type 0 where
  pub looks : (c : Component) → Contains these c → LooksTheSame first second c
  pub parts : (c part : Component) (cell : Text) → Contains these c → part_in second c cell ≡ Some part →
      ((part_in first c cell ≡ Some part) × Contains these part) ⊎ PassesNothing second part
