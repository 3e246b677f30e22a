-- What a design keeps whose invokes have become groups that control enables in their place. Calyx, ASPLOS 2021; the words are this project's.
use Rattle.std.specs.Prelude.{◌≡◌, ℕ, length, slice_get, Some}
use Rattle.std.specs.List.{AllZip}
use Rattle.cal_ast.specs.Items.{control_statements}
use Rattle.cal_ast.specs.Keeping.{KeepsCells, KeepsRuns}
use Rattle.cal_ast.specs.NoInvoke.{IsPlainDesign}
use Rattle.cal_ast.specs.Plain.{HasPlainGroups, HasPlainTree}
use Rattle.cal_ast.specs.Ports.{is_bare}
use Rattle.cal_ast.specs.Registers.{parallel}
use Rattle.cal_ast.specs.Schedule.{Run}
use Rattle.cal_ast.specs.Tree.{Component, Design}
use Rattle.cal_ast.specs.Written.{DesignIsWritten}

-- the answer has the source's name, ports and cells; control starts it where it starts the source, and has as many statements, and as many that stand
-- directly in a `par`
pub record ExpandsComponent (source answer : Component) : Type 0 where
  pub keeps : KeepsCells source answer
  pub bare : is_bare answer ≡ is_bare source
  pub statements : length (control_statements answer.control) ≡ length (control_statements source.control)
  pub in_pars : parallel (control_statements answer.control) ≡ parallel (control_statements source.control)

-- the same components in their order, without invokes; C1 to C12 hold, but that groups may have any names; and from each component as the top, each run of
-- the answer is one of the source
pub record Expands (source answer : Design) : Type 0 where
  pub components : AllZip ExpandsComponent source answer
  pub no_invokes : IsPlainDesign answer
  pub runs : (n : ℕ) (c d : Component) → slice_get source n ≡ Some c → slice_get answer n ≡ Some d → KeepsRuns (Run answer d) (Run source c)
  -- names stay plain, and where the source has a text, so has the answer
  pub plain : HasPlainTree source → HasPlainTree answer
  pub plain_groups : HasPlainGroups source → HasPlainGroups answer
  pub written : DesignIsWritten source → DesignIsWritten answer
