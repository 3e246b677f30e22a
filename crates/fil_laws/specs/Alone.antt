-- A component by itself: it keeps its promise where its instances keep theirs and its wires do what its body says. Filament, PLDI 2023; the laws are this
-- project's.
use Rattle.std.specs.Prelude.{◌≡◌, ℕ, ◌<◌, false, List, take, slice_get, Some}
use Rattle.hw_names.specs.Name.{Path, Text, full_name}
use Rattle.hw_prims.specs.Filament.{behaviour_of}
use Rattle.hw_prims.specs.Row.{Trace}
use Rattle.hw_prims.specs.Timed.{AreLegalTransactions, Behaviour, CarriesInputs, CarriesOutputs, IsTimed, Transaction}
use Rattle.hw_prims.specs.declared.prim.Primitive.{Primitive}
use Rattle.fil_ast.specs.Behaviours.{component_behaviour, inner_transactions}
use Rattle.fil_ast.specs.Primitives.{filament_primitive, is_filament_primitive}
use Rattle.fil_ast.specs.Rules.{FilRules}
use Rattle.fil_ast.specs.Scope.{Instance, instance_named}
use Rattle.fil_ast.specs.Tree.{Component, Design}
use Rattle.fil_ast.specs.Wires.{whole_scope}
use Rattle.fil_lower.specs.Wires.{ComponentRun, HasWires, IsWiredDesign, Stands}

-- what an instance in component n promises
pub data IsPromiseOf (comps : Design) (n : ℕ) (i : Instance) : Behaviour → Type 0 where
  OfPrimitive : (prim : Primitive) → filament_primitive i.made i.params ≡ Some prim → IsPromiseOf comps n i (behaviour_of prim)
  OfComponent : (m : ℕ) (d : Component) → is_filament_primitive i.made ≡ false → m < n → slice_get comps m ≡ Some d → d.name ≡ i.made →
      IsPromiseOf comps n i (component_behaviour (take m comps) d)

-- in the run the wires of component n do what its body says, and each of its instances keeps its promise
pub record KeepsInside (comps : Design) (n : ℕ) (c : Component) (run : ComponentRun) : Type 0 where
  pub wires : HasWires (whole_scope (take n comps) c) run
  pub instances : (inst : Text) (i : Instance) (b : Behaviour) → instance_named (whole_scope (take n comps) c).instances inst ≡ Some i → IsPromiseOf comps n i b →
      IsTimed b (run.cell inst) run.height run.trace

-- then the component keeps its own, however transactions overlap
abbrev pub ComponentsKeepPromises : Type 0
ComponentsKeepPromises =
    (comps : Design) (n : ℕ) (c : Component) (run : ComponentRun) → FilRules comps → slice_get comps n ≡ Some c → KeepsInside comps n c run →
    IsTimed (component_behaviour (take n comps) c) run.own run.height run.trace

-- in each row the ports of an instance carry these transactions, in and out, and they are legal
pub record CarriesGiven (b : Behaviour) (run : ComponentRun) (inst : Text) (given : List Transaction) : Type 0 where
  pub legal : AreLegalTransactions b.sig given
  pub inputs : (r : ℕ) → r < run.height → CarriesInputs b.sig (run.cell inst) (run.trace r) given r
  pub outputs : (r : ℕ) → r < run.height → CarriesOutputs b (run.cell inst) (run.trace r) given r

-- and where each row carries a legal list at its inputs, each instance carries what that list gives it
abbrev pub InstancesCarryTheirs : Type 0
InstancesCarryTheirs =
    (comps : Design) (n : ℕ) (c : Component) (run : ComponentRun) → FilRules comps → slice_get comps n ≡ Some c → KeepsInside comps n c run →
    (txs : List Transaction) → AreLegalTransactions (component_behaviour (take n comps) c).sig txs →
    ((r : ℕ) → r < run.height → CarriesInputs (component_behaviour (take n comps) c).sig run.own (run.trace r) txs r) →
    (inst : Text) (i : Instance) (b : Behaviour) → instance_named (whole_scope (take n comps) c).instances inst ≡ Some i → IsPromiseOf comps n i b →
    CarriesGiven b run inst (inner_transactions (take n comps) c txs inst)

-- step by step then each component keeps its promise, wherever it stands
abbrev pub WiredDesignsKeepPromises : Type 0
WiredDesignsKeepPromises =
    (comps : Design) (top height : ℕ) (trace : Trace) → FilRules comps → IsWiredDesign comps top height trace →
    (n : ℕ) (path : Path) (c : Component) → Stands comps top n path → slice_get comps n ≡ Some c →
    IsTimed (component_behaviour (take n comps) c) (full_name path) height trace
