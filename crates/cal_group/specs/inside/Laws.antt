-- What the expansion of invokes and the removal of groups keep: the shape of the design, its rules, its plain names, and its runs. This project's.
use Rattle.std.specs.Prelude.{◌≡◌, ℕ, List, slice_get, Some}
use Rattle.cal_ast.specs.CalRun.{StoppedBareRun}
use Rattle.cal_ast.specs.Holes.{ActivityRule, IsHoleDesign, HoleRun}
use Rattle.cal_ast.specs.Keeping.{KeepsRuns, KeepsStates}
use Rattle.cal_ast.specs.NoInvoke.{IsPlainDesign}
use Rattle.cal_ast.specs.Plain.{HasPlainGroups, HasPlainTree}
use Rattle.cal_ast.specs.Rules.{CalRules}
use Rattle.cal_ast.specs.Schedule.{Run}
use Rattle.cal_ast.specs.Tree.{Component, Design}
use Rattle.cal_ast.specs.Wired.{IsWired}
use Rattle.cal_group.specs.inside.Expanded.{expanded, expanded_design}
use Rattle.cal_group.specs.inside.Removed.{removed, removed_design}

-- ---- invokes

-- C1 to C12 are kept, but that groups may have any names, and there is no invoke
abbrev pub ExpandedIsPlain : Type 0
ExpandedIsPlain = (design : Design) → CalRules design → IsPlainDesign (expanded_design design)

-- from each component as the top, each run of the answer is one of the source
abbrev pub ExpandedKeepsRuns : Type 0
ExpandedKeepsRuns =
    (design : Design) → CalRules design → (n : ℕ) (c : Component) → slice_get design n ≡ Some c →
    KeepsRuns (Run (expanded_design design) (expanded design c)) (Run design c)

abbrev pub ExpandedIsPlainTree : Type 0
ExpandedIsPlainTree = (design : Design) → HasPlainTree design → HasPlainTree (expanded_design design)

-- the groups of invokes have plain names
abbrev pub ExpandedHasPlainGroups : Type 0
ExpandedHasPlainGroups = (design : Design) → HasPlainGroups design → HasPlainGroups (expanded_design design)

-- ---- groups

abbrev pub RemovedIsWired : Type 0
RemovedIsWired = (design : Design) (rules : List ActivityRule) → IsHoleDesign design rules → IsWired (removed_design design rules)

-- no cell is added
abbrev pub RemovedKeepsStates : Type 0
RemovedKeepsStates =
    (design : Design) (rules : List ActivityRule) → IsHoleDesign design rules → KeepsStates design (removed_design design rules)

abbrev pub RemovedKeepsRuns : Type 0
RemovedKeepsRuns =
    (design : Design) (rules : List ActivityRule) → IsHoleDesign design rules → (n : ℕ) (c : Component) → slice_get design n ≡ Some c →
    KeepsRuns (StoppedBareRun (removed_design design rules) (removed design rules c)) (HoleRun design rules c)

abbrev pub RemovedIsPlainTree : Type 0
RemovedIsPlainTree = (design : Design) (rules : List ActivityRule) → HasPlainTree design → HasPlainTree (removed_design design rules)
