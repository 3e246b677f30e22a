-- What a design keeps in which rules say when groups act, in place of control. Calyx, ASPLOS 2021; the words are this project's.
use Rattle.std.specs.Prelude.{◌≡◌, ℕ, List, slice_get, Some}
use Rattle.cal_ast.specs.Holes.{ActivityRule, HoleRun, IsHoleDesign}
use Rattle.cal_ast.specs.Keeping.{KeepsRuns, KeepsShape}
use Rattle.cal_ast.specs.Plain.{HasPlainGroups, HasPlainTree}
use Rattle.cal_ast.specs.Schedule.{Run}
use Rattle.cal_ast.specs.Tree.{Component, Design}

-- the same components in their order, bare, each with its ports and its cells, and further cells that are no memories; each group has one rule, and C1 to
-- C12 hold with the rules in its guards; and from each component as the top, each run in which groups act where their rules are true is one of the source
pub record ReplacesControl (source answer : Design) (rules : List ActivityRule) : Type 0 where
  pub shape : KeepsShape source answer
  pub holes : IsHoleDesign answer rules
  pub runs : (n : ℕ) (c d : Component) → slice_get source n ≡ Some c → slice_get answer n ≡ Some d → KeepsRuns (HoleRun answer rules d) (Run source c)
  -- names of groups are parts of lowering's
  pub plain : HasPlainGroups source → HasPlainTree answer
