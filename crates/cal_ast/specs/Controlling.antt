-- C7 to C11: groups, and the control that enables them. Calyx documentation; the numbers are this project's.
use Rattle.std.specs.Prelude.{◌≡◌, ◌≢◌, true, false, List, [], map, find, bytes_eq, codes, Option, Some, IfSome, All}
use Rattle.hw_names.specs.Name.{Text, AreDistinct}
use Rattle.cal_ast.specs.Invoking.{go_of}
use Rattle.cal_ast.specs.Ports.{Input, Output, side_in, width_in}
use Rattle.cal_ast.specs.Statement.{IfEnable, IfCondition, IfInvoke}
use Rattle.cal_ast.specs.Tree.{PortName, port_of, DoneLine, GroupDef, InBinding, OutBinding, Statement, Component, Design}
use Rattle.cal_ast.specs.Typing.{source_width}

-- C7 at a header: a group that isn't combinational has a done line
abbrev pub HasDone : GroupDef → Type 0
HasDone g = g.comb ≡ false → g.dones ≢ []

-- C7 at a done line: a group that isn't combinational has no second, and the source has one bit
abbrev pub IsOnlyDone : Design → Component → GroupDef → List DoneLine → DoneLine → Type 0
IsOnlyDone design c g before d = g.comb ≡ false → (before ≡ []) × (source_width design c d.src ≡ Some 1)

-- C8 at a done line: a combinational group has none
abbrev pub MayHaveDone : GroupDef → Type 0
MayHaveDone g = g.comb ≡ false

abbrev pub group_named : List GroupDef → Text → Option GroupDef
group_named groups name = find (λ (g : GroupDef). bytes_eq g.name name) groups

-- C9 at a control statement: an enable names a group that isn't combinational
abbrev pub EnablesGroup : Component → Statement → Type 0
EnablesGroup c s = IfEnable s (λ name. (g : GroupDef) × (group_named c.groups name ≡ Some g) × (g.comb ≡ false))

-- the group of a condition, if it has one, is combinational, and its port has one bit
pub record IsCondition (design : Design) (c : Component) (port : PortName) (by : Option Text) : Type 0 where
  pub group : IfSome by (λ name. (g : GroupDef) × (group_named c.groups name ≡ Some g) × (g.comb ≡ true))
  pub bit : width_in design c port ≡ Some 1

-- C10 at a control statement
abbrev pub HasCondition : Design → Component → Statement → Type 0
HasCondition design c s = IfCondition s (IsCondition design c)

-- a binding of an input other than the go
abbrev pub BindsInput : Design → Component → Text → Text → InBinding → Type 0
BindsInput design c cell go b = (side_in design c (port_of cell b.pin) ≡ Some Input) × (b.pin ≢ go)

abbrev pub BindsOutput : Design → Component → Text → OutBinding → Type 0
BindsOutput design c cell b = side_in design c (port_of cell b.pin) ≡ Some Output

-- a cell that can be invoked has an input go and an output done of one bit; each other input is bound once at most, and nothing but inputs and
-- outputs is bound
pub record CanInvoke (design : Design) (c : Component) (cell : Text) (ins : List InBinding) (outs : List OutBinding) : Type 0 where
  pub go : Text
  pub starts : go_of design c cell ≡ Some go
  pub go_side : side_in design c (port_of cell go) ≡ Some Input
  pub go_bit : width_in design c (port_of cell go) ≡ Some 1
  pub done_side : side_in design c (port_of cell (codes "done")) ≡ Some Output
  pub done_bit : width_in design c (port_of cell (codes "done")) ≡ Some 1
  pub inputs : All (BindsInput design c cell go) ins
  pub outputs : All (BindsOutput design c cell) outs
  pub once : AreDistinct (map (λ (b : InBinding). b.pin) ins)

-- C11 at a control statement
abbrev pub Invokes : Design → Component → Statement → Type 0
Invokes design c s = IfInvoke s (CanInvoke design c)
