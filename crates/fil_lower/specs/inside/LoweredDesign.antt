-- The laws of lowered designs: at each path below the top, rows carry what overlapping transactions give. Filament, PLDI 2023; the laws are this project's.
use Rattle.std.specs.Prelude.{◌≡◌, ℕ, ◌<◌, Bool, List, [], ◌∷◌, ◌++◌, take, slice_get, Some}
use Rattle.hw_names.specs.Name.{Path, full_name}
use Rattle.hw_prims.specs.Cell.{IsCell}
use Rattle.hw_prims.specs.Row.{Text, Trace}
use Rattle.hw_prims.specs.Timed.{Behaviour, CarriesInputs, CarriesOutputs, AreLegalTransactions, IsTimed, Transaction}
use Rattle.hw_prims.specs.declared.prim.Primitive.{Primitive}
use Rattle.fil_ast.specs.Behaviours.{IsGiven, component_behaviour}
use Rattle.fil_ast.specs.Primitives.{filament_primitive}
use Rattle.fil_ast.specs.Rules.{FilRules}
use Rattle.fil_ast.specs.Scope.{Instance, instance_named}
use Rattle.fil_ast.specs.Tree.{Component, Design}
use Rattle.fil_ast.specs.Wires.{whole_scope}
use Rattle.fil_lower.specs.Wires.{Stands}
use Rattle.fil_lower.specs.inside.Lowered.{IsLowered, LoweredRun}
use Rattle.fil_lower.specs.inside.Plan.{Use}
use Rattle.fil_lower.specs.inside.PlanOf.{plan_of}

-- the rows of the component at a path
abbrev pub run_at : Path → (Use → Text → ℕ → Bool) → ℕ → Trace → LoweredRun
run_at path feeds height trace = record { own = full_name path; cell = λ inst. full_name (path ++ inst ∷ []); feeds = feeds; height = height; trace = trace }

-- at each path wires carry what the component's plan says, and primitives are cells
pub record IsLoweredDesign (comps : Design) (top height : ℕ) (trace : Trace) : Type 0 where
  pub components : (n : ℕ) (path : Path) (c : Component) → Stands comps top n path → slice_get comps n ≡ Some c →
      (feeds : Use → Text → ℕ → Bool) × IsLowered (plan_of (take n comps) c) (run_at path feeds height trace)
  pub primitives : (n : ℕ) (path : Path) (c : Component) (inst : Text) (i : Instance) (prim : Primitive) → Stands comps top n path →
      slice_get comps n ≡ Some c →
      instance_named (whole_scope (take n comps) c).instances inst ≡ Some i → filament_primitive i.made i.params ≡ Some prim →
      IsCell prim (full_name (path ++ inst ∷ [])) height trace

-- in a lowered design that keeps the rules, each component is timed, wherever it stands
abbrev pub ComponentsAreTimed : Type 0
ComponentsAreTimed =
    (comps : Design) → FilRules comps → (top height : ℕ) (trace : Trace) → IsLoweredDesign comps top height trace →
    (n : ℕ) (path : Path) (c : Component) → Stands comps top n path → slice_get comps n ≡ Some c →
    IsTimed (component_behaviour (take n comps) c) (full_name path) height trace

-- each row carries these transactions, in and out, and they are legal
pub record CarriesAll (b : Behaviour) (at : Text → Text) (height : ℕ) (trace : Trace) (txs : List Transaction) : Type 0 where
  pub legal : AreLegalTransactions b.sig txs
  pub inputs : (r : ℕ) → r < height → CarriesInputs b.sig at (trace r) txs r
  pub outputs : (r : ℕ) → r < height → CarriesOutputs b at (trace r) txs r

-- the main law: where rows carry a legal list at the top's inputs, every instance at every path carries what it is given, in and out
abbrev pub EveryPathCarries : Type 0
EveryPathCarries =
    (comps : Design) → FilRules comps → (top height : ℕ) (trace : Trace) → IsLoweredDesign comps top height trace →
    (c : Component) → slice_get comps top ≡ Some c → (txs : List Transaction) → AreLegalTransactions (component_behaviour (take top comps) c).sig txs →
    ((r : ℕ) → r < height → CarriesInputs (component_behaviour (take top comps) c).sig (full_name []) (trace r) txs r) →
    (b : Behaviour) (given : List Transaction) (path : Path) → IsGiven comps b given top txs path → CarriesAll b (full_name path) height trace given
