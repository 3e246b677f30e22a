-- The laws of lowered designs: they keep Calyx's rules, and their runs carry every legal list of transactions. Filament, PLDI 2023; the laws are this
-- project's.
use Rattle.std.specs.Prelude.{◌≡◌, ℕ, List, slice_get, Some}
use Rattle.hw_names.specs.Name.{Text}
use Rattle.hw_prims.specs.Row.{Trace}
use Rattle.cal_ast.specs.CalRun.{BareRun, bare, cal_circuit}
use Rattle.cal_ast.specs.Plain as calyx_names
use Rattle.cal_ast.specs.Tree as calyx
use Rattle.cal_ast.specs.Wired.{IsWired}
use Rattle.fil_ast.specs.Plain.{HasPlainTree}
use Rattle.fil_ast.specs.Rules.{FilRules}
use Rattle.fil_ast.specs.Tree.{Component, Design}
use Rattle.fil_promise.specs.Refines.{CarriesLists}
use Rattle.fil_lower.specs.inside.LoweredDesign.{IsLoweredDesign}
use Rattle.fil_lower.specs.inside.Lowering.{IsLoweringOf}

-- names stay plain
abbrev pub LoweringsArePlain : Type 0
LoweringsArePlain =
    (comps : Design) (design : calyx.Design) → FilRules comps → HasPlainTree comps → IsLoweringOf comps design → calyx_names.HasPlainTree design

-- each component is bare and has no groups, and C1 to C12 hold
abbrev pub LoweringsAreWired : Type 0
LoweringsAreWired =
    (comps : Design) (design : calyx.Design) → FilRules comps → HasPlainTree comps → IsLoweringOf comps design → IsWired design

-- in each run, from each component as the top, the wires carry what the plans say at every path
abbrev pub LoweringsShowPlans : Type 0
LoweringsShowPlans =
    (comps : Design) (design : calyx.Design) → FilRules comps → HasPlainTree comps → IsLoweringOf comps design →
    (number : ℕ) (low : calyx.Component) → slice_get design number ≡ Some low →
    (asked : ℕ) (inputs : Trace) (loads : Text → List ℕ) (height : ℕ) (trace : Trace) → BareRun design low asked inputs loads height trace →
    IsLoweredDesign comps number height trace

-- and they carry every legal list of transactions, without a Conflict
abbrev pub LoweringsCarry : Type 0
LoweringsCarry =
    (comps : Design) (design : calyx.Design) → FilRules comps → HasPlainTree comps → IsLoweringOf comps design →
    (number : ℕ) (c : Component) (low : calyx.Component) → slice_get comps number ≡ Some c → slice_get design number ≡ Some low →
    CarriesLists comps number c (cal_circuit design low bare)
