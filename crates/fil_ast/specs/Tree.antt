-- A Filament design as a tree of texts, whatever numbers its names have. Filament, PLDI 2023, in this project's profile.
use Rattle.std.specs.Prelude.{ℕ, List, map}
use Rattle.hw_names.specs.Name.{Text, text_of}
use Rattle.fil_ast.specs.declared.tree.Time.{Time}
use Rattle.fil_ast.specs.declared.tree.EventDef.{EventDef}
use Rattle.fil_ast.specs.declared.tree.GoPort.{GoPort}
use Rattle.fil_ast.specs.declared.tree.FilPort.{FilPort}
use Rattle.fil_ast.specs.declared.tree.FilComp.{FilComp}
use Rattle.fil_ast.specs.declared.tree.FilDesign.{FilDesign}
use Rattle.fil_ast.specs.declared.tree.Value.{Value}
use Rattle.fil_ast.specs.declared.tree.Value.TheVariants as value
use Rattle.fil_ast.specs.declared.tree.Stmt.{Stmt}
use Rattle.fil_ast.specs.declared.tree.Stmt.TheVariants as stmt

-- an event, and so many rows after it
pub record TimeAt : Type 0 where
  pub event : Text
  pub plus : ℕ

-- an event and its delay
pub record Event : Type 0 where
  pub name : Text
  pub delay : ℕ

-- the interface port of an event
pub record Interface : Type 0 where
  pub event : Text
  pub name : Text
  pub width : ℕ

-- a data port, available from one time to another
pub record DataPort : Type 0 where
  pub from : TimeAt
  pub to : TimeAt
  pub name : Text
  pub width : ℕ

-- a value: a data input, an output of an invocation, or a literal
pub data ValueTree : Type 0 where
  InputValue : Text → ValueTree
  OutputValue : (invocation port : Text) → ValueTree
  Literal : (width value : ℕ) → ValueTree

-- what an invocation gives: times in the places of the callee's events, and arguments for its data inputs
pub record Giving : Type 0 where
  pub times : List TimeAt
  pub args : List ValueTree

-- a statement; Both makes an instance and an invocation of one name
pub data Statement : Type 0 where
  New : (name made : Text) (params : List ℕ) → Statement
  Call : (name inst : Text) (gives : Giving) → Statement
  Both : (name made : Text) (params : List ℕ) (gives : Giving) → Statement
  Connect : (output : Text) (value : ValueTree) → Statement

pub record Component : Type 0 where
  pub name : Text
  pub events : List Event
  pub interfaces : List Interface
  pub ins : List DataPort
  pub outs : List DataPort
  pub body : List Statement

-- the components in text order
abbrev pub Design : Type 0
Design = List Component

abbrev pub time_tree : List Text → Time → TimeAt
time_tree names t = record { event = text_of names t.event; plus = t.plus }

abbrev pub event_tree : List Text → EventDef → Event
event_tree names e = record { name = text_of names e.name; delay = e.delay }

abbrev pub interface_tree : List Text → GoPort → Interface
interface_tree names g = record { event = text_of names g.event; name = text_of names g.name; width = g.width }

abbrev pub port_tree : List Text → FilPort → DataPort
port_tree names p =
    record { from = time_tree names p.from; to = time_tree names p.to; name = text_of names p.name; width = p.width }

abbrev pub value_tree : List Text → Value → ValueTree
value_tree names (value.Port p) = InputValue (text_of names p)
value_tree names (value.Out v p) = OutputValue (text_of names v) (text_of names p)
value_tree names (value.Lit width n) = Literal width n

abbrev pub giving : List Text → List Time → List Value → Giving
giving names at args = record { times = map (time_tree names) at; args = map (value_tree names) args }

abbrev pub statement_tree : List Text → Stmt → Statement
statement_tree names (stmt.New name made params) = New (text_of names name) (text_of names made) params.items
statement_tree names (stmt.Call name inst at args) = Call (text_of names name) (text_of names inst) (giving names at.items args.items)
statement_tree names (stmt.Both name made params at args) = Both (text_of names name) (text_of names made) params.items (giving names at.items args.items)
statement_tree names (stmt.Set dst v) = Connect (text_of names dst) (value_tree names v)

abbrev pub component_tree : List Text → FilComp → Component
component_tree names c =
    record {
      name = text_of names c.name;
      events = map (event_tree names) c.events.items;
      interfaces = map (interface_tree names) c.gos.items;
      ins = map (port_tree names) c.ins.items;
      outs = map (port_tree names) c.outs.items;
      body = map (statement_tree names) c.body.items;
    }

-- each name's number replaced by its text
abbrev pub design_of : FilDesign → Design
design_of d = map (component_tree d.names) d.comps.items
