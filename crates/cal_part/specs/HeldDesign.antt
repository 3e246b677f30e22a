-- Designs that are parts of others: their components have other names there, and further ones come after them. This project's.
use Rattle.std.specs.Prelude.{◌≡◌, ◌++◌, Some, Contains}
use Rattle.hw_names.specs.Name.{Text, Path}
use Rattle.cal_ast.specs.CalRun.{Activity, bare}
use Rattle.cal_ast.specs.Instances.{component_at}
use Rattle.cal_ast.specs.Rules.{CalRules}
use Rattle.cal_ast.specs.Tree.{Component, Design}
use Rattle.cal_part.specs.RunBelow.{IsActivityBelow}
use Rattle.cal_part.specs.RenamedDesign.{IsRenaming, renamed, renamed_design}

abbrev pub holding : (held : Design) → (Text → Text) → (more : Design) → Design
holding held rename more = renamed_design rename held ++ more

-- a component of `held`, which keeps C1 to C12, stands at the path under its new name; from there on continuous assignments alone act
pub record IsHeldAt (held more : Design) (rename : Text → Text) (top c : Component) (path : Path) (whole : Activity) : Type 0 where
  pub rules : CalRules held
  pub renaming : IsRenaming held rename
  pub has : Contains held c
  pub at : component_at (holding held rename more) top path ≡ Some (renamed rename c)
  pub acts : IsActivityBelow (holding held rename more) (renamed rename c) path whole bare
