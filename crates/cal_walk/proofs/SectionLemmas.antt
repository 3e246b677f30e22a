-- The control of a component, from the plan of its control section.
use Rattle.std.proofs.Common.{◌≡◌, ℕ, ◌+◌, List, [], ◌++◌, length, map, All, Bool, Bor, sym, ap, ◌∙◌, subst, arith}
use Rattle.std.proofs.lemmas.List.{length-append, length-map}
use Rattle.std.proofs.lemmas.List.Elements.{All-nil, All-same}
use Rattle.hw_names.specs.Name.{Text}
use Rattle.cal_ast.specs.Actors.{GroupNamed, InvokeAt, actors_of}
use Rattle.cal_ast.specs.Invoking.{InvokeDef, invokes_among, invokes_in}
use Rattle.cal_ast.specs.Items.{TheStatement, control_statements, items_before_control}
use Rattle.cal_ast.specs.Numbers.{ComponentHasNumbers, PortHasNumbers}
use Rattle.cal_ast.specs.Plan.{section_plan}
use Rattle.cal_ast.specs.Ports.{is_bare}
use Rattle.cal_ast.specs.Tree.{GroupDef, Component, component_tree, group_tree}
use Rattle.cal_ast.specs.declared.tree.CalComp.{CalComp}
use Rattle.cal_walk.specs.Planning.{ShowsNames, IsKnown, IsInvoke, invoke_tree, CanPlanSection, IsControlOf}
use Rattle.cal_walk.specs.Trees.{IsWithin}
use Rattle.cal_walk.specs.declared.plan.Plan as code
use Rattle.cal_walk.specs.declared.planning.Invoke.{Invoke as InvokeOf}
use Rattle.cal_walk.specs.declared.planning.Planner.{Planner}
use Rattle.cal_walk.proofs.ArmLemmas.{PlannedSection}
use Rattle.cal_walk.proofs.CountLemmas.{invokes_after}
use Rattle.cal_walk.proofs.PlanLemmas.{IsTested}

module _ (names : List Text) (comp : CalComp) (old : Planner) (no_invokes : old.invokes.items ≡ []) where
  abbrev c : Component
  c = component_tree names comp

  -- planning can begin
  pub section_can : ComponentHasNumbers names comp → ShowsNames names c old.numbers.now → All (IsKnown c) (control_statements c.control) → old.groups ≡ length comp.groups.items → old.conditions.items ≡ [] → CanPlanSection names c comp.control old
  section_can has shows known groups no_conditions = record {
    can = record {
      shows = shows;
      counted = groups ∙ sym (length-map comp.groups.items (group_tree names));
      invoked = All-same (IsInvoke names c) old.invokes.items [] no_invokes (All-nil (IsInvoke names c));
      tested = All-same (PortHasNumbers names) old.conditions.items [] no_conditions (All-nil (PortHasNumbers names));
      are_tested = All-same (IsTested names c) old.conditions.items [] no_conditions (All-nil (IsTested names c));
    };
    numbers = has.control;
    known = known;
  }

  -- and gives the control
  module _ (new : Planner) (plan : code.Plan) (first : old.item ≡ length (items_before_control c)) (planned : PlannedSection names c comp.control old new plan) where
    invokes_are : map (invoke_tree names) new.invokes.items ≡ invokes_in c
    invokes_are =
        let statements = map TheStatement (control_statements c.control) in
        planned.0.adds ∙ ap (λ (is : List InvokeOf). map (invoke_tree names) is ++ invokes_among old.item statements) no_invokes
        ∙ ap (λ (k : ℕ). invokes_among k statements) first ∙ sym (invokes_after c)

    actors_are : length c.groups + length new.invokes.items ≡ length (actors_of c)
    actors_are =
        let groups = λ (g : GroupDef). GroupNamed g.name in
        let invokes = λ (i : InvokeDef). InvokeAt i.item in
        omega (
          arith,
          length-append (map groups c.groups) (map invokes (invokes_in c)),
          length-map c.groups groups,
          length-map (invokes_in c) invokes,
          ap length invokes_are,
          length-map new.invokes.items (invoke_tree names),
        )

    pub section_control : (given : Bor CalComp) (bare : Bool) → bare ≡ is_bare c → IsControlOf names c (record { comp = given; bare = bare; invokes = new.invokes; conditions = new.conditions; plan = plan })
    section_control given bare is = record {
      bare_is = is;
      invokes_are = invokes_are;
      are_invokes = planned.0.can.invoked;
      conditions_are = planned.0.can.tested;
      are_tested = planned.0.can.are_tested;
      plan_is = λ f h n. planned.1.is f h n ∙ ap (λ (k : ℕ). section_plan k c.control) first;
      within = subst (λ (n : ℕ). IsWithin n (length new.conditions.items) plan) actors_are planned.1.within;
    }
