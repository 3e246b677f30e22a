-- Names that a text of Calyx can have are plain.
use Rattle.std.proofs.lemmas.List.Elements.{All-from_recursion, All-weaker}
use Rattle.hw_names.specs.Name.{Text, IsPlain}
use Rattle.hw_lex.specs.declared.token.Dialect.TheVariants.{Cal}
use Rattle.hw_grammar.proofs.PlainNames.{name_plain}
use Rattle.hw_prims.specs.Table.{Pin}
use Rattle.cal_ast.specs.Plain.{HasPlainTree, IsPlainCell, IsPlainComponent, IsPlainPin, AreGroupsPlain, HasPlainGroups, IsPlainGroup}
use Rattle.cal_ast.specs.Tree.{CellDef, Component, Design, GroupDef}
use Rattle.cal_ast.specs.Written.{CellIsWritten, ComponentIsWritten, DesignIsWritten, GroupIsWritten, InputIsWritten, IsCalName, PinIsWritten}

cal_plain : (name : Text) → IsCalName name → IsPlain name
cal_plain name is = name_plain Cal name is.0

component_plain : (c : Component) → ComponentIsWritten c → IsPlainComponent c
component_plain c is = record {
  ins = All-weaker InputIsWritten IsPlainPin (λ (p : Pin) written. cal_plain p.name written.0.0) c.ins (All-from_recursion InputIsWritten c.ins is.ins);
  outs = All-weaker PinIsWritten IsPlainPin (λ (p : Pin) written. cal_plain p.name written.0) c.outs (All-from_recursion PinIsWritten c.outs is.outs);
  cells = All-weaker CellIsWritten IsPlainCell (λ (x : CellDef) written. cal_plain x.name written.0) c.cells (All-from_recursion CellIsWritten c.cells is.cells);
}

groups_plain : (c : Component) → ComponentIsWritten c → AreGroupsPlain c
groups_plain c is = All-weaker GroupIsWritten IsPlainGroup (λ (g : GroupDef) written. cal_plain g.name written.0) c.groups (All-from_recursion GroupIsWritten c.groups is.groups)

pub written_plain : (design : Design) → DesignIsWritten design → HasPlainTree design
written_plain design written = All-weaker ComponentIsWritten IsPlainComponent component_plain design (All-from_recursion ComponentIsWritten design written.1)

pub written_groups : (design : Design) → DesignIsWritten design → HasPlainGroups design
written_groups design written = All-weaker ComponentIsWritten AreGroupsPlain groups_plain design (All-from_recursion ComponentIsWritten design written.1)
