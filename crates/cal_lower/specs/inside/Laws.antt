-- What the lowering of control keeps: the shape of the design, its rules, its plain names, and its runs. This project's.
use Rattle.std.specs.Prelude.{◌≡◌, ℕ, List, slice_get, Some}
use Rattle.cal_ast.specs.Holes.{ActivityRule, IsHoleDesign, HoleRun}
use Rattle.cal_ast.specs.Keeping.{KeepsRuns, KeepsShape}
use Rattle.cal_ast.specs.NoInvoke.{IsPlainDesign}
use Rattle.cal_ast.specs.Plain.{HasPlainTree, HasPlainGroups}
use Rattle.cal_ast.specs.Schedule.{Run}
use Rattle.cal_ast.specs.Tree.{Component, Design}
use Rattle.cal_lower.specs.inside.Lowered.{IsLoweringOf}

-- from each component as the top, each run of the answer is one of the source
abbrev pub KeepsRunsFromEach : Design → Design → List ActivityRule → Type 0
KeepsRunsFromEach source answer rules =
    (n : ℕ) (c d : Component) → slice_get source n ≡ Some c → slice_get answer n ≡ Some d →
    KeepsRuns (HoleRun answer rules d) (Run source c)

abbrev pub LoweringsKeepShape : Type 0
LoweringsKeepShape = (source answer : Design) (rules : List ActivityRule) → IsPlainDesign source → IsLoweringOf source answer rules → KeepsShape source answer

abbrev pub LoweringsAreHoles : Type 0
LoweringsAreHoles =
    (source answer : Design) (rules : List ActivityRule) → HasPlainTree source → IsPlainDesign source → IsLoweringOf source answer rules →
    IsHoleDesign answer rules

-- names of groups are parts of lowering's
abbrev pub LoweringsArePlain : Type 0
LoweringsArePlain =
    (source answer : Design) (rules : List ActivityRule) → HasPlainTree source → HasPlainGroups source → IsPlainDesign source →
    IsLoweringOf source answer rules → HasPlainTree answer

abbrev pub LoweringsKeepRuns : Type 0
LoweringsKeepRuns =
    (source answer : Design) (rules : List ActivityRule) → HasPlainTree source → IsPlainDesign source → IsLoweringOf source answer rules →
    KeepsRunsFromEach source answer rules
