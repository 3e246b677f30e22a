-- Groups of a component by their names. This project's.
use Rattle.std.specs.Prelude.{◌≡◌, Bool, Some}
use Rattle.hw_names.specs.Name.{Text}
use Rattle.cal_ast.specs.Controlling.{group_named}
use Rattle.cal_ast.specs.Tree.{GroupDef, Component}

-- the first group of the name is combinational, or not
abbrev pub IsGroup : Component → Text → Bool → Type 0
IsGroup c name comb = (g : GroupDef) × (group_named c.groups name ≡ Some g) × (g.comb ≡ comb)
