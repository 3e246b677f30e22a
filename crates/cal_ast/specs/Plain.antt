-- That the names of a design are plain: not empty, and without a dot, so that names joined by dots are apart. This project's.
use Rattle.std.specs.Prelude.{All, IfSome}
use Rattle.hw_names.specs.Name.{IsPlain}
use Rattle.hw_prims.specs.Table.{Pin}
use Rattle.cal_ast.specs.Tree.{PortName, CellDef, GroupDef, Component, Design}

abbrev pub IsPlainPort : PortName → Type 0
IsPlainPort p = IfSome p.cell IsPlain × IsPlain p.pin

abbrev pub IsPlainPin : Pin → Type 0
IsPlainPin p = IsPlain p.name

abbrev pub IsPlainCell : CellDef → Type 0
IsPlainCell c = IsPlain c.name

-- the ports and cells of a component have plain names
pub record IsPlainComponent (c : Component) : Type 0 where
  pub ins : All IsPlainPin c.ins
  pub outs : All IsPlainPin c.outs
  pub cells : All IsPlainCell c.cells

abbrev pub HasPlainTree : Design → Type 0
HasPlainTree design = All IsPlainComponent design

-- ---- groups, whose names become parts of names that lowering makes

abbrev pub IsPlainGroup : GroupDef → Type 0
IsPlainGroup g = IsPlain g.name

abbrev pub AreGroupsPlain : Component → Type 0
AreGroupsPlain c = All IsPlainGroup c.groups

abbrev pub HasPlainGroups : Design → Type 0
HasPlainGroups design = All AreGroupsPlain design
