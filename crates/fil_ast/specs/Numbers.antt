-- That each name of a design is a number of its list of names. This project's.
use Rattle.std.specs.Prelude.{◌<◌, List, length, All}
use Rattle.hw_names.specs.Name.{Text}
use Rattle.hw_names.specs.declared.names.NameId.{NameId}
use Rattle.fil_ast.specs.declared.tree.Time.{Time}
use Rattle.fil_ast.specs.declared.tree.EventDef.{EventDef}
use Rattle.fil_ast.specs.declared.tree.GoPort.{GoPort}
use Rattle.fil_ast.specs.declared.tree.FilPort.{FilPort}
use Rattle.fil_ast.specs.declared.tree.FilComp.{FilComp}
use Rattle.fil_ast.specs.declared.tree.FilDesign.{FilDesign}
use Rattle.fil_ast.specs.declared.tree.Value.{Value}
use Rattle.fil_ast.specs.declared.tree.Value.TheVariants as values
use Rattle.fil_ast.specs.declared.tree.Stmt.{Stmt}
use Rattle.fil_ast.specs.declared.tree.Stmt.TheVariants as stmts

abbrev pub IsNumberOf : List Text → NameId → Type 0
IsNumberOf names id = id.0 < length names

abbrev pub TimeHasNumber : List Text → Time → Type 0
TimeHasNumber names t = IsNumberOf names t.event

abbrev pub EventHasNumber : List Text → EventDef → Type 0
EventHasNumber names e = IsNumberOf names e.name

abbrev pub InterfaceHasNumbers : List Text → GoPort → Type 0
InterfaceHasNumbers names g = IsNumberOf names g.event × IsNumberOf names g.name

abbrev pub PortHasNumbers : List Text → FilPort → Type 0
PortHasNumbers names p = TimeHasNumber names p.from × TimeHasNumber names p.to × IsNumberOf names p.name

abbrev pub ValueHasNumbers : List Text → Value → Type 0
ValueHasNumbers names (values.Port p) = IsNumberOf names p
ValueHasNumbers names (values.Out v p) = IsNumberOf names v × IsNumberOf names p
ValueHasNumbers names (values.Lit width value) = Unit {0}

abbrev pub GivingHasNumbers : List Text → List Time → List Value → Type 0
GivingHasNumbers names at args = All (TimeHasNumber names) at × All (ValueHasNumbers names) args

abbrev pub StatementHasNumbers : List Text → Stmt → Type 0
StatementHasNumbers names (stmts.New name made params) = IsNumberOf names name × IsNumberOf names made
StatementHasNumbers names (stmts.Call name inst at args) = IsNumberOf names name × IsNumberOf names inst × GivingHasNumbers names at.items args.items
StatementHasNumbers names (stmts.Both name made params at args) = IsNumberOf names name × IsNumberOf names made × GivingHasNumbers names at.items args.items
StatementHasNumbers names (stmts.Set dst value) = IsNumberOf names dst × ValueHasNumbers names value

pub record ComponentHasNumbers (names : List Text) (c : FilComp) : Type 0 where
  pub name : IsNumberOf names c.name
  pub events : All (EventHasNumber names) c.events.items
  pub interfaces : All (InterfaceHasNumbers names) c.gos.items
  pub ins : All (PortHasNumbers names) c.ins.items
  pub outs : All (PortHasNumbers names) c.outs.items
  pub body : All (StatementHasNumbers names) c.body.items

abbrev pub HasNumbers : FilDesign → Type 0
HasNumbers d = All (ComponentHasNumbers d.names) d.comps.items
