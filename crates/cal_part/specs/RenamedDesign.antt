-- Designs whose components have other names. This project's.
use Rattle.std.specs.Prelude.{◌≡◌, false, map, if◌then◌else◌, Contains}
use Rattle.hw_names.specs.Name.{Text}
use Rattle.hw_prims.specs.Table.{is_primitive}
use Rattle.cal_ast.specs.Naming.{component_names}
use Rattle.cal_ast.specs.Tree.{CellDef, Component, Design}

-- a cell of a component has its new name; a cell of a primitive stays as it is
abbrev pub renamed_cell : (Text → Text) → CellDef → CellDef
renamed_cell rename cell = record cell { made = if is_primitive cell.made then cell.made else rename cell.made }

abbrev pub renamed : (Text → Text) → Component → Component
renamed rename c = record c { name = rename c.name; cells = map (renamed_cell rename) c.cells }

abbrev pub renamed_design : (Text → Text) → Design → Design
renamed_design rename design = map (renamed rename) design

-- the components' names get new ones one to one, none of which is a primitive's
pub record IsRenaming (design : Design) (rename : Text → Text) : Type 0 where
  pub one_to_one : (a b : Text) → Contains (component_names design) a → Contains (component_names design) b → rename a ≡ rename b → a ≡ b
  pub no_primitive : (a : Text) → Contains (component_names design) a → is_primitive (rename a) ≡ false
