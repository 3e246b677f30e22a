-- A design as a tree of texts: what it says, whatever numbers its names have. Calyx, ASPLOS 2021.
use Rattle.std.specs.Prelude.{ℕ, Bool, List, map, Option, Some, None, option_map}
use Rattle.hw_names.specs.Name.{Text, text_of}
use Rattle.hw_prims.specs.Table.{Pin}
use Rattle.net_core.specs.Guard.{GuardTree, guard_option, source_tree}
use Rattle.net_core.specs.declared.net.Src.{Src}
use Rattle.cal_ast.specs.declared.tree.CalPort.{CalPort}
use Rattle.cal_ast.specs.declared.tree.CalPin.{CalPin}
use Rattle.cal_ast.specs.declared.tree.CalCell.{CalCell}
use Rattle.cal_ast.specs.declared.tree.Assign.{Assign}
use Rattle.cal_ast.specs.declared.tree.DoneSet.{DoneSet}
use Rattle.cal_ast.specs.declared.tree.Group.{Group}
use Rattle.cal_ast.specs.declared.tree.InBind.{InBind}
use Rattle.cal_ast.specs.declared.tree.OutBind.{OutBind}
use Rattle.cal_ast.specs.declared.tree.Control.{Control, Row_of-Control, end_of-Control, more_of-Control}
use Rattle.cal_ast.specs.declared.tree.Control as code
use Rattle.cal_ast.specs.declared.tree.ControlPart.{ControlPart}
use Rattle.cal_ast.specs.declared.tree.ControlPart.TheVariants as part
use Rattle.cal_ast.specs.declared.tree.CalComp.{CalComp}
use Rattle.cal_ast.specs.declared.tree.CalDesign.{CalDesign}

-- a port of a component: its own, or one of a cell of it
pub record PortName : Type 0 where
  pub cell : Option Text
  pub pin : Text

abbrev pub own : Text → PortName
own pin = record { cell = None; pin = pin }

abbrev pub port_of : Text → Text → PortName
port_of cell pin = record { cell = Some cell; pin = pin }

-- a cell of a primitive or of a component; an external memory of the top component is loaded and printed by a run
pub record CellDef : Type 0 where
  pub name : Text
  pub made : Text
  pub params : List ℕ
  pub external : Bool

-- a guarded assignment
pub record Assignment : Type 0 where
  pub dst : PortName
  pub guard : Option (GuardTree PortName)
  pub src : Src PortName

-- a done line: where its guard is true and its source is 1, the group is done
pub record DoneLine : Type 0 where
  pub group : Text
  pub guard : Option (GuardTree PortName)
  pub src : Src PortName

pub record GroupDef : Type 0 where
  pub name : Text
  pub comb : Bool
  pub sets : List Assignment
  pub dones : List DoneLine

-- what an invoke gives an input of its cell, and where it puts an output
pub record InBinding : Type 0 where
  pub pin : Text
  pub src : Src PortName

pub record OutBinding : Type 0 where
  pub pin : Text
  pub dst : PortName

mutual
  pub data Statement : Type 0 where
    -- a group acts until it is done
    Enable : Text → Statement
    -- one after another
    Seq : Statements → Statement
    -- all at once, until the last has ended
    Par : Statements → Statement
    -- one of two, as a port says, on which a combinational group may act
    If : PortName → Option Text → (then_this else_this : Statement) → Statement
    -- again and again, as long as a port says so, on which a combinational group may act
    While : PortName → Option Text → (body : Statement) → Statement
    -- a cell is started with inputs, until it is done
    Invoke : (cell : Text) → List InBinding → List OutBinding → Statement

  pub data Statements : Type 0 where
    NoStatements : Statements
    MoreStatements : Statement → Statements → Statements

-- the control section of a component
pub data ControlSection : Type 0 where
  Absent : ControlSection
  -- nothing is in it
  Empty : ControlSection
  Body : Statement → ControlSection

-- a component; its own assignments always act
pub record Component : Type 0 where
  pub name : Text
  pub ins : List Pin
  pub outs : List Pin
  pub cells : List CellDef
  pub groups : List GroupDef
  pub sets : List Assignment
  pub control : ControlSection

-- components in text order
abbrev pub Design : Type 0
Design = List Component

abbrev pub port_tree : List Text → CalPort → PortName
port_tree names p = record { cell = option_map (text_of names) p.cell; pin = text_of names p.port }

abbrev pub pin_tree : List Text → CalPin → Pin
pin_tree names p = record { name = text_of names p.name; width = p.width }

abbrev pub cell_tree : List Text → CalCell → CellDef
cell_tree names c =
    record { name = text_of names c.name; made = text_of names c.made; params = c.params.items; external = c.external }

abbrev pub assignment_tree : List Text → Assign → Assignment
assignment_tree names a =
    record { dst = port_tree names a.dst; guard = guard_option (port_tree names) a.guard; src = source_tree (port_tree names) a.src }

abbrev pub done_tree : List Text → DoneSet → DoneLine
done_tree names d =
    record { group = text_of names d.of; guard = guard_option (port_tree names) d.guard; src = source_tree (port_tree names) d.src }

abbrev pub group_tree : List Text → Group → GroupDef
group_tree names g =
    record {
      name = text_of names g.name;
      comb = g.comb;
      sets = map (assignment_tree names) g.sets.items;
      dones = map (done_tree names) g.dones.items;
    }

abbrev pub in_tree : List Text → InBind → InBinding
in_tree names b = record { pin = text_of names b.port; src = source_tree (port_tree names) b.src }

abbrev pub out_tree : List Text → OutBind → OutBinding
out_tree names b = record { pin = text_of names b.port; dst = port_tree names b.dst }

abbrev mutual
  pub statement_tree : List Text → Control → Statement
  statement_tree names (code.Enable g) = Enable (text_of names g)
  statement_tree names (code.Seq' shape ss) = Seq (statement_trees names ss)
  statement_tree names (code.Par' shape ss) = Par (statement_trees names ss)
  statement_tree names (code.If' port by p s q t) = If (port_tree names port) (option_map (text_of names) by) (statement_tree names s) (statement_tree names t)
  statement_tree names (code.While' port by p body) = While (port_tree names port) (option_map (text_of names) by) (statement_tree names body)
  statement_tree names (code.Invoke cell ins outs) = Invoke (text_of names cell) (map (in_tree names) ins.items) (map (out_tree names) outs.items)

  pub statement_trees : {m : _} → List Text → Row_of-Control m → Statements
  statement_trees names end_of-Control = NoStatements
  statement_trees names (more_of-Control s ss) = MoreStatements (statement_tree names s) (statement_trees names ss)

abbrev pub control_tree : List Text → ControlPart → ControlSection
control_tree names part.Absent = Absent
control_tree names part.Empty = Empty
control_tree names (part.Body s) = Body (statement_tree names s)

abbrev pub component_tree : List Text → CalComp → Component
component_tree names c =
    record {
      name = text_of names c.name;
      ins = map (pin_tree names) c.ins.items;
      outs = map (pin_tree names) c.outs.items;
      cells = map (cell_tree names) c.cells.items;
      groups = map (group_tree names) c.groups.items;
      sets = map (assignment_tree names) c.sets.items;
      control = control_tree names c.control;
    }

-- each name's number replaced by its text
abbrev pub design_of : CalDesign → Design
design_of d = map (component_tree d.names) d.comps.items
