-- An instance that has a signature, and what it promises by it.
use Rattle.std.proofs.Common.{◌≡◌, ℕ, take, slice_get, Option, Some, None, refl, sym, ap, subst, ◌∙◌}
use Rattle.std.specs.Option.{option_and_then, option_map_or}
use Rattle.std.proofs.lemmas.Option.{none-some, option_and_then_some}
use Rattle.hw_names.specs.Name.{Text}
use Rattle.hw_prims.specs.Timed.{TimedEvent}
use Rattle.fil_ast.specs.Rules.{FilRules}
use Rattle.fil_ast.specs.Scope.{Scope, Instance, instance_named, instance_signature, signature_in}
use Rattle.fil_ast.specs.Signature.{Signature}
use Rattle.fil_ast.specs.Tree.{Component, Design}
use Rattle.fil_ast.specs.Wires.{whole_scope}
use Rattle.fil_lower.specs.inside.Plan.{Plan}
use Rattle.fil_lower.specs.inside.PlanOf.{behaviour_made, callee_of, nothing_promised, plan_of}
use Rattle.fil_lower.specs.inside.PlanRules.{IsEvent}
use Rattle.fil_lower.proofs.CallLemmas.{signature_is}
use Rattle.fil_lower.proofs.TimedAsLemmas.{IsTimedAs}
use Rattle.fil_lower.proofs.WellLemmas.{instance_timed}

module _ (comps : Design) (rules : FilRules comps) (n : ℕ) (c : Component) (here : slice_get comps n ≡ Some c) where
  abbrev earlier : Design
  earlier = take n comps

  abbrev scope : Scope
  scope = whole_scope earlier c

  abbrev plan : Plan
  plan = plan_of earlier c

  pub record IsTimedInstance (inst : Text) : Type 0 where
    pub i : Instance
    pub found : instance_named scope.instances inst ≡ Some i
    pub sig : Signature
    pub signed : instance_signature scope inst ≡ Some sig
    pub is_timed : IsTimedAs (callee_of earlier c inst).sig sig

  known : (inst : Text) (i : Instance) (sig : Signature) → instance_named scope.instances inst ≡ Some i → instance_signature scope inst ≡ Some sig → IsTimedInstance inst
  known inst i sig found signed =
      let made : signature_in earlier i.made i.params ≡ Some sig = sym (ap (option_and_then (λ (j : Instance). signature_in earlier j.made j.params)) found) ∙ signed in
      record { i = i; found = found; sig = sig; signed = signed; is_timed = instance_timed comps rules n c here inst i sig found made }

  -- what promises an event is one
  pub of_event : (inst : Text) (k : ℕ) (event : TimedEvent) → IsEvent (plan.callee inst).sig k event → IsTimedInstance inst
  of_event inst k event at = by (instance_named scope.instances inst) refl
    where
      by : (o : Option Instance) → instance_named scope.instances inst ≡ o → IsTimedInstance inst
      by None none =
          absurd (none-some event (subst (λ (o : Option Instance). slice_get (option_map_or (behaviour_made earlier) o nothing_promised).sig.events k ≡ Some event) none at))
      by (Some i) found = let s = signature_is comps rules n c here inst i found in known inst i s.0 found s.1

  pub of_signature : (inst : Text) (sig : Signature) → instance_signature scope inst ≡ Some sig → IsTimedInstance inst
  of_signature inst sig signed = option_and_then_some (λ (j : Instance). signature_in earlier j.made j.params) (instance_named scope.instances inst) sig signed (λ i found made. known inst i sig found signed)
