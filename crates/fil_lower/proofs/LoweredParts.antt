-- What the proofs of lowered designs speak of: a design with its lowering, a component of it, and a run in which that component's lowering stands at a path.
use Rattle.std.proofs.Common.{◌≡◌, ℕ, List, take, slice_get, All, Some}
use Rattle.hw_names.specs.Name.{Path, Text}
use Rattle.hw_prims.specs.Row.{Trace}
use Rattle.cal_ast.specs.CalRun.{BareRun}
use Rattle.cal_ast.specs.Instances.{component_at}
use Rattle.cal_ast.specs.Plain as calyx_names
use Rattle.cal_ast.specs.Plain.{IsPlainPort}
use Rattle.cal_ast.specs.Tree as calyx
use Rattle.cal_ast.specs.Tree.{Assignment}
use Rattle.fil_ast.specs.Plain.{HasPlainTree}
use Rattle.fil_ast.specs.Rules.{FilRules}
use Rattle.fil_ast.specs.Tree.{Component, Design}
use Rattle.fil_lower.specs.inside.Lowering.{HasEnoughBits, HasNewRegisters, IsLoweringOf, Registers, lowered_component, lowered_sets, lowering_with}

-- a design that keeps the rules, and its lowering; the names of both are plain
pub record LoweredPair : Type 0 where
  pub comps : Design
  pub rules : FilRules comps
  pub plain : HasPlainTree comps
  pub design : calyx.Design
  pub lowered : IsLoweringOf comps design
  pub plain_design : calyx_names.HasPlainTree design

-- component n of the design, with the registers of its events
pub record LoweredComp : Type 0 where
  pub pair : LoweredPair
  pub n : ℕ
  pub c : Component
  pub here : slice_get pair.comps n ≡ Some c
  pub registers : Registers
  pub enough : HasEnoughBits (lowering_with (take n pair.comps) c registers)
  pub new : HasNewRegisters (lowering_with (take n pair.comps) c registers)

-- a run of the lowered design, from one of its components as the top
pub record TopRun (pair : LoweredPair) : Type 0 where
  pub number : ℕ
  pub top : calyx.Component
  pub at_top : slice_get pair.design number ≡ Some top
  pub asked : ℕ
  pub inputs : Trace
  pub loads : Text → List ℕ
  pub height : ℕ
  pub trace : Trace
  pub run : BareRun pair.design top asked inputs loads height trace

-- the component's lowering stands at a path below the top
pub record StandingComp (comp : LoweredComp) : Type 0 where
  pub below_top : TopRun comp.pair
  pub path : Path
  pub at : component_at comp.pair.design below_top.top path ≡ Some (lowered_component (lowering_with (take comp.n comp.pair.comps) comp.c comp.registers))
  pub plain_sets : All (λ (a : Assignment). IsPlainPort a.dst) (lowered_sets (lowering_with (take comp.n comp.pair.comps) comp.c comp.registers))

abbrev pub comp_of : (pair : LoweredPair) (n : ℕ) (c : Component) (low : calyx.Component) → slice_get pair.comps n ≡ Some c → slice_get pair.design n ≡ Some low → LoweredComp
comp_of pair n c low here at_low =
    let to = pair.lowered.components n c low here at_low in
    record { pair = pair; n = n; c = c; here = here; registers = to.registers; enough = to.enough; new = to.new }
