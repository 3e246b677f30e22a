-- The laws of plans: a component with its names resolved promises what its text does, and gives its instances the same. Filament, PLDI 2023; the laws are
-- this project's.
use Rattle.std.specs.Prelude.{◌≡◌, ℕ, List, take, slice_get, Some}
use Rattle.std.specs.List.{AllZip}
use Rattle.hw_prims.specs.Row.{Text}
use Rattle.hw_prims.specs.Timed.{Transaction}
use Rattle.fil_ast.specs.Behaviours.{component_behaviour, inner_transactions}
use Rattle.fil_ast.specs.Rules.{FilRules}
use Rattle.fil_ast.specs.Tree.{Component, Design}
use Rattle.fil_lower.specs.Separate.{AreAlike}
use Rattle.fil_lower.specs.inside.Plan.{behaviour_of_plan}
use Rattle.fil_lower.specs.inside.PlanOf.{callee_of, plan_of}
use Rattle.fil_lower.specs.inside.PlanRules.{IsWellTimed, given_transactions}

-- the plan promises what the component does: the same signature, and the same values of outputs
abbrev pub PlansPromiseTheSame : Type 0
PlansPromiseTheSame =
    (comps : Design) → FilRules comps → (n : ℕ) (c : Component) → slice_get comps n ≡ Some c →
    behaviour_of_plan (plan_of (take n comps) c) ≡ component_behaviour (take n comps) c

-- the plan gives each instance what the component does, in the same order
abbrev pub PlansGiveTheSame : Type 0
PlansGiveTheSame =
    (comps : Design) → FilRules comps → (n : ℕ) (c : Component) → slice_get comps n ≡ Some c → (txs : List Transaction) (inst : Text) →
    AllZip (AreAlike (callee_of (take n comps) c inst).sig)
    (given_transactions (plan_of (take n comps) c) txs inst) (inner_transactions (take n comps) c txs inst)

-- the plan of a component that keeps the rules keeps Filament's rules of time
abbrev pub PlansAreWellTimed : Type 0
PlansAreWellTimed =
    (comps : Design) → FilRules comps → (n : ℕ) (c : Component) → slice_get comps n ≡ Some c → IsWellTimed (plan_of (take n comps) c)
