-- What the lowering of control to states keeps: the shape of the design, its rules, its plain names, and its runs; and that it makes few registers. This
-- project's.
use Rattle.std.specs.Prelude.{◌≡◌, ℕ, List, slice_get, Some, false}
use Rattle.cal_ast.specs.Holes.{ActivityRule, IsHoleDesign}
use Rattle.cal_ast.specs.Keeping.{KeepsShape}
use Rattle.cal_ast.specs.NoInvoke.{IsPlainDesign}
use Rattle.cal_ast.specs.Plain.{HasPlainTree, HasPlainGroups}
use Rattle.cal_ast.specs.Ports.{is_bare}
use Rattle.cal_ast.specs.Tree.{Component, Design}
use Rattle.cal_lower.specs.inside.Laws.{KeepsRunsFromEach}
use Rattle.cal_state.specs.inside.Encoded.{IsStatesOf}
use Rattle.cal_ast.specs.Registers.{HasFewRegisters}

abbrev pub StatesKeepShape : Type 0
StatesKeepShape = (source answer : Design) (rules : List ActivityRule) → IsPlainDesign source → IsStatesOf source answer rules → KeepsShape source answer

abbrev pub StatesAreHoles : Type 0
StatesAreHoles =
    (source answer : Design) (rules : List ActivityRule) → HasPlainTree source → IsPlainDesign source → IsStatesOf source answer rules →
    IsHoleDesign answer rules

abbrev pub StatesArePlain : Type 0
StatesArePlain =
    (source answer : Design) (rules : List ActivityRule) → HasPlainTree source → HasPlainGroups source → IsPlainDesign source →
    IsStatesOf source answer rules → HasPlainTree answer

abbrev pub StatesKeepRuns : Type 0
StatesKeepRuns =
    (source answer : Design) (rules : List ActivityRule) → HasPlainTree source → IsPlainDesign source → IsStatesOf source answer rules →
    KeepsRunsFromEach source answer rules

-- of each component that control starts
abbrev pub StatesAreFew : Type 0
StatesAreFew =
    (source answer : Design) (rules : List ActivityRule) (n : ℕ) (c d : Component) → IsStatesOf source answer rules →
    slice_get source n ≡ Some c → slice_get answer n ≡ Some d → is_bare c ≡ false → HasFewRegisters c d
