-- That Calyx designs have runs, so that what is said of each run of a design is said of some. This project's.
use Rattle.std.specs.Prelude.{ℕ, List, Contains}
use Rattle.hw_names.specs.Name.{Text}
use Rattle.hw_prims.specs.Row.{Trace}
use Rattle.cal_ast.specs.Keeping.{EndsAs, Outcome}
use Rattle.cal_ast.specs.Plain.{HasPlainTree}
use Rattle.cal_ast.specs.Rules.{CalRules}
use Rattle.cal_ast.specs.Schedule.{Run}
use Rattle.cal_ast.specs.Tree.{Component, Design}

-- by C1 to C12 and plain names a design has a run from each of its components, under its schedule, up to its first Conflict, whatever its inputs in each row
-- and the words in its memories are
abbrev pub DesignsHaveRuns : Type 0
DesignsHaveRuns =
    (design : Design) (top : Component) → HasPlainTree design → CalRules design → Contains design top →
    (asked : ℕ) (inputs : Trace) (loads : Text → List ℕ) → (a : Outcome) × EndsAs (Run design top) asked inputs loads a
