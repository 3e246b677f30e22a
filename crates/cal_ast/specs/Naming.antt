-- C1 and C2: names are distinct, and what a line names exists. Calyx documentation; the numbers are this project's.
use Rattle.std.specs.Prelude.{◌≡◌, ◌⊎◌, true, false, List, ◌++◌, map, take, codes, Some, IsSome, All, Contains}
use Rattle.hw_names.specs.Name.{Text, AreDistinct}
use Rattle.hw_prims.specs.Table.{is_primitive, pin_names}
use Rattle.net_core.specs.Graph.{option_ports, source_ports}
use Rattle.cal_ast.specs.Ports.{is_bare, inputs_in, outputs_in, cell_named, part_of, port_in}
use Rattle.cal_ast.specs.Statement.{IfCondition, IfInvoke}
use Rattle.cal_ast.specs.Tree.{PortName, port_of, CellDef, Assignment, DoneLine, GroupDef, InBinding, OutBinding, Statement, Component, Design}

abbrev pub component_names : Design → List Text
component_names design = map (λ (c : Component). c.name) design

abbrev pub cell_names : List CellDef → List Text
cell_names cells = map (λ (c : CellDef). c.name) cells

abbrev pub group_names : List GroupDef → List Text
group_names groups = map (λ (g : GroupDef). g.name) groups

-- C1 at the signature: the component's name is new and no primitive's, and its ports are distinct, implied ones too
pub record HasNewNames (earlier : Design) (c : Component) : Type 0 where
  pub no_primitive : is_primitive c.name ≡ false
  pub new : ¬ Contains (component_names earlier) c.name
  pub ports : AreDistinct (pin_names (inputs_in c ++ outputs_in c))

-- the names that lowering makes start so
abbrev pub IsReserved : Text → Type 0
IsReserved name = take 2 name ≡ codes "c$"

-- in a component that isn't bare no name is one that lowering makes
abbrev pub IsUnreserved : Component → Text → Type 0
IsUnreserved c name = is_bare c ≡ false → ¬ IsReserved name

-- which names groups may have
pub data GroupNaming : Type 0 where
  -- those that lowering doesn't make, in a component that isn't bare
  Unreserved : GroupNaming
  AnyName : GroupNaming

abbrev pub MayName : GroupNaming → Component → Text → Type 0
MayName Unreserved c name = IsUnreserved c name
MayName AnyName c name = Unit {0}

-- C1 at a cell
abbrev pub IsNewCell : Component → List CellDef → CellDef → Type 0
IsNewCell c before cell = (¬ Contains (cell_names before) cell.name) × IsUnreserved c cell.name

-- C1 at a group, whose name is one that it may have
abbrev pub IsNewGroup : GroupNaming → Component → List GroupDef → GroupDef → Type 0
IsNewGroup naming c before g = (¬ Contains (group_names before) g.name) × MayName naming c g.name

-- the component has the name, or a cell of one that involves it
pub data Involves (design : Design) (name : Text) : Component → Type 0 where
  Itself : (c : Component) → c.name ≡ name → Involves design name c
  Over : (c part : Component) (cell : CellDef) → Contains c.cells cell → part_of design cell ≡ Some part → Involves design name part →
      Involves design name c

-- C2 at a cell: it is a primitive's, or a component's that does not involve its own component
abbrev pub IsKnownCell : Design → Component → CellDef → Type 0
IsKnownCell design c cell = (is_primitive cell.made ≡ true) ⊎ ((part : Component) × (part_of design cell ≡ Some part) × ¬ Involves design c.name part)

abbrev pub IsKnownPort : Design → Component → PortName → Type 0
IsKnownPort design c p = IsSome (port_in design c p)

-- C2 at an assignment, and at a done line, which names its own group
pub record NamesKnown (design : Design) (c : Component) (a : Assignment) : Type 0 where
  pub dst : IsKnownPort design c a.dst
  pub guard : All (IsKnownPort design c) (option_ports a.guard)
  pub src : All (IsKnownPort design c) (source_ports a.src)

pub record DoneNamesKnown (design : Design) (c : Component) (g : GroupDef) (d : DoneLine) : Type 0 where
  pub group : d.group ≡ g.name
  pub guard : All (IsKnownPort design c) (option_ports d.guard)
  pub src : All (IsKnownPort design c) (source_ports d.src)

-- a binding names a port of the cell
abbrev pub BindsKnownIn : Design → Component → Text → InBinding → Type 0
BindsKnownIn design c cell b = IsKnownPort design c (port_of cell b.pin) × All (IsKnownPort design c) (source_ports b.src)

abbrev pub BindsKnownOut : Design → Component → Text → OutBinding → Type 0
BindsKnownOut design c cell b = IsKnownPort design c (port_of cell b.pin) × IsKnownPort design c b.dst

-- an invoke names a cell, and its bindings known ports
pub record InvokeNamesKnown (design : Design) (c : Component) (cell : Text) (ins : List InBinding) (outs : List OutBinding) : Type 0 where
  pub known : IsSome (cell_named c.cells cell)
  pub inputs : All (BindsKnownIn design c cell) ins
  pub outputs : All (BindsKnownOut design c cell) outs

-- C2 at a control statement; whether groups exist is judged by C9 and C10
pub record StatementNamesKnown (design : Design) (c : Component) (s : Statement) : Type 0 where
  pub condition : IfCondition s (λ port by. IsKnownPort design c port)
  pub invoke : IfInvoke s (InvokeNamesKnown design c)
