-- Each run of the answer is one of the source, where what is added does as control does: the sinks of the source are driven alike, and those that are added have
-- no Conflict.
use Rattle.std.proofs.Common.{◌≡◌, inl, inr, ℕ, ◌<◌, ◌≤◌, List, [], ◌∷◌, ◌++◌, map, length, Bool, true, false, Option, Some, None, refl, sym, ap, ap₂, subst, ◌∙◌, arith}
use Rattle.std.specs.Prelude.{Contains, flat_map, codes, option_map, option_and_then, if◌then◌else◌}
use Rattle.std.proofs.lemmas.Option.{slice_get-map}
use Rattle.std.proofs.lemmas.Bool.{cases_Bool, both_ways, cond-true, cond-false}
use Rattle.std.proofs.lemmas.List.{append-nil}
use Rattle.std.proofs.lemmas.List.Elements.{All-contains}
use Rattle.hw_names.proofs.NameLemmas.{HasNoDot-from_test}
use Rattle.hw_names.specs.Name.{Text, Path, full_name, port_at, IsPlain}
use Rattle.hw_prims.specs.Row.{Trace}
use Rattle.hw_prims.specs.Table.{Pin, pin_names, inputs_of}
use Rattle.hw_prims.specs.declared.prim.Primitive.{Primitive}
use Rattle.net_core.specs.Circuit.{Circuit, Drive}
use Rattle.cal_ast.proofs.DriveLemmas.{input_or_output}
use Rattle.cal_ast.proofs.InstanceLemmas.{component_at-design}
use Rattle.cal_ast.proofs.ListLemmas.{place_of, Contains-at}
use Rattle.cal_ast.proofs.LocalLemmas.{is_port}
use Rattle.cal_ast.proofs.LookupLemmas.{primitive_in-Some, cell_input_cases}
use Rattle.cal_ast.proofs.PlainLemmas.{plain_primitive}
use Rattle.cal_ast.proofs.SideLemmas.{output_destination, destination_pin}
use Rattle.cal_ast.specs.Actors.{Actor, GroupNamed, ActorGroup, own_group, actor_groups}
use Rattle.cal_ast.specs.CalRun.{look, values_for, IsAssigned, IsControlled, cal_circuit, IsStoppedRun}
use Rattle.cal_ast.specs.Holes.{sets_by_rule, rule_holds, when_of, by_rules, HoleRun}
use Rattle.cal_ast.specs.Instances.{component_at, port_name, IsPrimitiveCell}
use Rattle.cal_ast.specs.Laws.{local_values}
use Rattle.cal_ast.specs.Naming.{AnyName}
use Rattle.cal_ast.specs.NoInvoke.{IsPlainDesign}
use Rattle.cal_ast.specs.Plain.{HasPlainTree}
use Rattle.cal_ast.specs.Plan.{plan_of}
use Rattle.cal_ast.specs.Ports.{is_bare, is_own, with_pin, outputs_in, cell_named, part_of}
use Rattle.cal_ast.specs.Schedule.{view_at, go_at, sets_of_actor, scheduled, Follows, Run}
use Rattle.cal_ast.specs.Sides.{IsDestination}
use Rattle.cal_ast.specs.Spans.{View}
use Rattle.cal_ast.specs.Tree.{PortName, own, port_of, CellDef, Assignment, GroupDef, Component, Design}
use Rattle.cal_walk.proofs.StageLemmas.{walking_is_the_schedule}
use Rattle.cal_walk.specs.Stages.{progress_at, acts_now, is_done_now}
use Rattle.cal_lower.specs.inside.Added.{Additions, extended}
use Rattle.cal_lower.specs.inside.Laws.{KeepsRunsFromEach}
use Rattle.cal_lower.specs.inside.Lowered.{done_set, rules_from}
use Rattle.cal_lower.specs.inside.Pieces.{never, is_set, acts_name, shown, over_name}
use Rattle.cal_lower.proofs.ExtendedLemmas.{AreOfPrimitives, AreNamed, DrivesAdded, answer, extended_bare, extended_is_bare, extended_groups, extended_inputs, extended_outputs, primitive_kept, instance_kept, instance_of, part_kept, destination_kept, IsDriven, OfSource, OfControl, OfAdded, destination_of}
use Rattle.cal_lower.proofs.ListLemmas.{Each, each_append, each_from, each_weaker, flat_map_none}
use Rattle.cal_lower.proofs.LocalLemmas.{HasPlainPin, values_are_local, IsOfOther, local_values-append, local_values-none, other_port}
use Rattle.cal_lower.proofs.PinLemmas.{with_pin_has}
use Rattle.cal_lower.proofs.RuleLemmas.{when_extended}
use Rattle.cal_lower.proofs.RunLemmas.{ShowsIn, shown_run}
use Rattle.cal_lower.proofs.ShownLemmas.{group_sets, each_of_groups, source_sets, source_group_sets, plain_dst, apart_from_added, all_values, added_alone, is_ruled, acting_are}
use Rattle.cal_lower.proofs.SourceLemmas.{only_groups, plain_destination}

plain_done : IsPlain (codes "done")
plain_done = (λ e. cc, HasNoDot-from_test (codes "done") refl)

-- the done of a component with control is one of its outputs
has_done_output : (c : Component) → is_bare c ≡ false → Contains (pin_names (outputs_in c)) (codes "done")
has_done_output c full =
    let H : List Pin → Type 0 = λ pins. Contains (pin_names pins) (codes "done") in
    subst H (sym (cond-false (is_bare c) c.outs (with_pin (codes "done") c.outs) full)) (with_pin_has (codes "done") c.outs)

-- ---- what acts in the source

module _ (source : Design) (top : Component) (height : ℕ) (trace : Trace) where
  abbrev view_of : Path → Component → View
  view_of path c = view_at source path c height trace

  abbrev acts_in : Option Component → Path → Actor → ℕ → Bool
  acts_in None path actor t = false
  acts_in (Some c) path actor t =
      if is_bare c then false
      else acts_now (plan_of c) (progress_at (view_of path c) (go_at path trace) (plan_of c) t) actor (go_at path trace t) ((view_of path c).done actor t)

  abbrev done_in : Option Component → Path → ℕ → Bool
  done_in None path t = false
  done_in (Some c) path t = if is_bare c then false else is_done_now (progress_at (view_of path c) (go_at path trace) (plan_of c) t)

  abbrev acts : Path → Actor → ℕ → Bool
  acts path actor t = acts_in (component_at source top path) path actor t

  abbrev is_done : Path → ℕ → Bool
  is_done path t = done_in (component_at source top path) path t

  module _ (path : Path) (c : Component) (at : component_at source top path ≡ Some c) where
    acts_full : is_bare c ≡ false → (actor : Actor) (t : ℕ)
        → acts path actor t ≡ acts_now (plan_of c) (progress_at (view_of path c) (go_at path trace) (plan_of c) t) actor (go_at path trace t) ((view_of path c).done actor t)
    acts_full full actor t =
        ap (λ (o : Option Component). acts_in o path actor t) at
        ∙ cond-false (is_bare c) false
        (acts_now (plan_of c) (progress_at (view_of path c) (go_at path trace) (plan_of c) t) actor (go_at path trace t) ((view_of path c).done actor t)) full

    acts_bare : is_bare c ≡ true → (actor : Actor) (t : ℕ) → acts path actor t ≡ false
    acts_bare bare actor t =
        ap (λ (o : Option Component). acts_in o path actor t) at
        ∙ cond-true (is_bare c) false
        (acts_now (plan_of c) (progress_at (view_of path c) (go_at path trace) (plan_of c) t) actor (go_at path trace t) ((view_of path c).done actor t)) bare

    done_full : is_bare c ≡ false → (t : ℕ) → is_done path t ≡ is_done_now (progress_at (view_of path c) (go_at path trace) (plan_of c) t)
    done_full full t =
        ap (λ (o : Option Component). done_in o path t) at
        ∙ cond-false (is_bare c) false (is_done_now (progress_at (view_of path c) (go_at path trace) (plan_of c) t)) full

    done_bare : is_bare c ≡ true → (t : ℕ) → is_done path t ≡ false
    done_bare bare t =
        ap (λ (o : Option Component). done_in o path t) at
        ∙ cond-true (is_bare c) false (is_done_now (progress_at (view_of path c) (go_at path trace) (plan_of c) t)) bare

  follows : Follows source top acts is_done height trace
  follows = record {
    control = λ path c at full. record {
      acting = λ actor t within.
          let law = (walking_is_the_schedule (view_of path c) (go_at path trace) (plan_of c) t within).0 actor in
          (λ e. law.0 (sym (acts_full path c at full actor t) ∙ e), λ h. acts_full path c at full actor t ∙ law.1 h);
      done = λ t within.
          let law = (walking_is_the_schedule (view_of path c) (go_at path trace) (plan_of c) t within).1 in
          (λ e. law.0 (sym (done_full path c at full t) ∙ e), λ h. done_full path c at full t ∙ law.1 h);
    };
    bare = λ path c at bare. record { acting = λ actor t. acts_bare path c at bare actor t; done = λ t. done_bare path c at bare t };
  }

-- ---- a run

-- what is added lets groups act where control lets them, and gives done then; and no port of a cell that the source doesn't have has two drives
pub record ActsAsControl (add : Additions) (source : Design) (height : ℕ) (trace : Trace) (path : Path) (c : Component) : Type 0 where
  pub ruled : (g : GroupDef) → Contains c.groups g → (t : ℕ) → t < height
      → rule_holds path (trace t) (Some (is_set (acts_name g.name)))
      ≡ acts_now (plan_of c) (progress_at (view_at source path c height trace) (go_at path trace) (plan_of c) t) (GroupNamed g.name) (go_at path trace t)
      ((view_at source path c height trace).done (GroupNamed g.name) t)
  pub done : (t : ℕ) → t < height
      → look path (trace t) (shown over_name) ≡ (if is_done_now (progress_at (view_at source path c height trace) (go_at path trace) (plan_of c) t) then 1 else 0)
  pub few_drives : (name pin : Text) → IsPlain pin → cell_named c.cells name ≡ None → (t : ℕ) → t < height
      → length (local_values (look path (trace t)) (port_of name pin) (add.sets c)) ≤ 1

module _ (add : Additions) (primitive : AreOfPrimitives add) (source : Design) (tree : HasPlainTree source) (plain : IsPlainDesign source)
    (named : (c : Component) → Contains source c → is_bare c ≡ false → AreNamed add c) (top : Component) (top_in : Contains source top) (asked : ℕ)
    (inputs : Trace) (loads : Text → List ℕ) (height : ℕ) (trace : Trace) (stop : Option Text)
    (run : IsStoppedRun (cal_circuit (answer add source) (extended add top) (by_rules (answer add source) (rules_from 0 source))) asked inputs loads height trace stop)
    (controlled : (path : Path) (c : Component) → component_at source top path ≡ Some c → is_bare c ≡ false → ActsAsControl add source height trace path c) where
  abbrev low : Design
  low = answer add source

  abbrev answer_circuit : Circuit
  answer_circuit = cal_circuit low (extended add top) (by_rules low (rules_from 0 source))

  abbrev source_circuit : Circuit
  source_circuit = cal_circuit source top (scheduled source (acts source top height trace) (is_done source top height trace))

  abbrev answer_sets : Path → Component → ℕ → List Assignment
  answer_sets path d t = d.sets ++ flat_map (sets_by_rule low (rules_from 0 source) path d (trace t)) d.groups

  abbrev source_sets_in : Path → Component → ℕ → List Assignment
  source_sets_in path c t = c.sets ++ flat_map (sets_of_actor (λ actor. acts source top height trace path actor t)) (actor_groups source c)

  module _ (path : Path) (c : Component) (at : component_at source top path ≡ Some c) where
    in_design : Contains source c
    in_design = component_at-design source top path c top_in at

    -- ---- a bare component

    bare_same : is_bare c ≡ true → (t : ℕ) → answer_sets path (extended add c) t ≡ source_sets_in path c t
    bare_same bare t =
        let k = place_of source c in_design in
        let none : flat_map (sets_by_rule low (rules_from 0 source) path (extended add c) (trace t)) c.groups ≡ [] =
        flat_map_none (sets_by_rule low (rules_from 0 source) path (extended add c) (trace t)) c.groups
        (each_from (λ (g : GroupDef). sets_by_rule low (rules_from 0 source) path (extended add c) (trace t) g ≡ []) c.groups (λ g of.
        cond-false (rule_holds path (trace t) (when_of low (rules_from 0 source) (extended add c) g.name)) g.sets []
        (ap (rule_holds path (trace t)) (when_extended add source plain k.0 c g k.1 of)
        ∙ ap (λ x. rule_holds path (trace t) (Some x)) (cond-true (is_bare c) never (is_set (acts_name g.name)) bare)))) in
        let nothing : flat_map (sets_of_actor (λ actor. acts source top height trace path actor t)) (actor_groups source c) ≡ [] =
        flat_map_none (sets_of_actor (λ actor. acts source top height trace path actor t)) (actor_groups source c)
        (each_from (λ (a : ActorGroup). sets_of_actor (λ actor. acts source top height trace path actor t) a ≡ []) (actor_groups source c) (λ a has.
        cond-false (acts source top height trace path a.actor t) a.group.sets [] (acts_bare source top height trace path c at bare a.actor t))) in
        ap (λ (sets : List Assignment). sets ++ flat_map (sets_by_rule low (rules_from 0 source) path (extended add c) (trace t)) (extended add c).groups)
        (ap (λ (d : Component). d.sets) (extended_bare add c bare))
        ∙ ap (λ (gs : List GroupDef). c.sets ++ flat_map (sets_by_rule low (rules_from 0 source) path (extended add c) (trace t)) gs) (extended_groups add c)
        ∙ ap (λ (sets : List Assignment). c.sets ++ sets) (none ∙ sym nothing)

    -- ---- one with control

    module _ (full : is_bare c ≡ false) where
      names : AreNamed add c
      names = named c in_design full

      abbrev ruled : ℕ → GroupDef → Bool
      ruled t = is_ruled add primitive source tree plain top asked inputs loads height trace stop run path c at in_design full names t

      abbrev groups_in : ℕ → List Assignment
      groups_in t = group_sets c (ruled t)

      ruled_as : (g : GroupDef) → Contains c.groups g → (t : ℕ) → t < height → acts source top height trace path (GroupNamed g.name) t ≡ ruled t g
      ruled_as g of t within =
          let k = place_of source c in_design in
          acts_full source top height trace path c at full (GroupNamed g.name) t
          ∙ sym ((controlled path c at full).ruled g of t within)
          ∙ sym (ap (λ x. rule_holds path (trace t) (Some x)) (cond-false (is_bare c) never (is_set (acts_name g.name)) full))
          ∙ sym (ap (rule_holds path (trace t)) (when_extended add source plain k.0 c g k.1 of))

      -- the assignments of the source that act
      source_is : (t : ℕ) → t < height → source_sets_in path c t ≡ c.sets ++ groups_in t
      source_is t within =
          ap (λ (those : List ActorGroup). c.sets ++ flat_map (sets_of_actor (λ actor. acts source top height trace path actor t)) those) (only_groups source tree plain c in_design)
          ∙ ap (λ (sets : List Assignment). c.sets ++ sets) (over c.groups same)
        where
          same : Each (λ (g : GroupDef). acts source top height trace path (GroupNamed g.name) t ≡ ruled t g) c.groups
          same = each_from (λ (g : GroupDef). acts source top height trace path (GroupNamed g.name) t ≡ ruled t g) c.groups (λ g of. ruled_as g of t within)

          over : (gs : List GroupDef) → Each (λ (g : GroupDef). acts source top height trace path (GroupNamed g.name) t ≡ ruled t g) gs
              → flat_map (sets_of_actor (λ actor. acts source top height trace path actor t)) (map own_group gs ++ [])
              ≡ flat_map (λ (g : GroupDef). if ruled t g then g.sets else []) gs
          over [] all = refl
          over (g ∷ gs) all =
              ap₂ (λ (x y : List Assignment). x ++ y) (ap (λ b. if b then g.sets else []) all.0) (over gs all.1)

      -- what drives a port by the assignments of the source
      kept_values : (p : PortName) → IsPlain p.pin → (t : ℕ)
          → values_for path (port_name path p) (trace t) (c.sets ++ groups_in t)
          ≡ local_values (look path (trace t)) p c.sets ++ local_values (look path (trace t)) p (groups_in t)
      kept_values p plain_pin t =
          values_are_local path (trace t) p (c.sets ++ groups_in t) plain_pin
          (each_append HasPlainPin c.sets (groups_in t) (source_sets source tree plain c in_design HasPlainPin (plain_dst source tree plain c in_design))
          (each_of_groups HasPlainPin (ruled t) c.groups (source_group_sets source tree plain c in_design HasPlainPin (plain_dst source tree plain c in_design))))
          ∙ local_values-append (look path (trace t)) p c.sets (groups_in t)

      not_own_done : (p : PortName) → IsDestination source c p → is_port (own (codes "done")) p ≡ false
      not_own_done p is = other_port (own (codes "done")) p (λ same.
          let yes' : is_own (codes "done") p ≡ true = ap (is_own (codes "done")) (sym same) in
          both_ways (is_own (codes "done") p) (is.not_done full) yes')

      full_same : (cell : Option Text) (pin : Text) → IsDestination source c (record { cell = cell; pin = pin }) → (t : ℕ) → t < height
          → values_for path (port_at path cell pin) (trace t) (answer_sets path (extended add c) t) ≡ values_for path (port_at path cell pin) (trace t) (source_sets_in path c t)
      full_same cell pin is t within =
          let p : PortName = record { cell = cell; pin = pin } in
          let see : PortName → ℕ = look path (trace t) in
          let pieces : local_values see p (add.sets c) ≡ [] = apart_from_added add source tree plain c in_design full names see p is in
          let done : local_values see p (done_set ∷ []) ≡ [] = local_values-none see p (done_set ∷ []) (not_own_done p is, tt) in
          let plain_pin : IsPlain pin = plain_destination source tree plain c in_design cell pin is in
          ap (λ (sets : List Assignment). values_for path (port_at path cell pin) (trace t) sets)
          (acting_are add primitive source tree plain top asked inputs loads height trace stop run path c at in_design full names t)
          ∙ all_values add source tree plain c in_design full names path (trace t) (ruled t) p plain_pin
          ∙ ap (λ (values : List ℕ). ((local_values see p c.sets ++ values) ++ local_values see p (done_set ∷ [])) ++ local_values see p (groups_in t)) pieces
          ∙ ap (λ (values : List ℕ). ((local_values see p c.sets ++ []) ++ values) ++ local_values see p (groups_in t)) done
          ∙ ap (λ (values : List ℕ). values ++ local_values see p (groups_in t)) (append-nil (local_values see p c.sets ++ []) ∙ append-nil (local_values see p c.sets))
          ∙ sym (kept_values p plain_pin t)
          ∙ sym (ap (λ (sets : List Assignment). values_for path (port_at path cell pin) (trace t) sets) (source_is t within))

      -- done is driven by `c$over` alone
      done_values : (t : ℕ) → t < height
          → values_for path (full_name path (codes "done")) (trace t) (answer_sets path (extended add c) t) ≡ (if is_done source top height trace path t then 1 else 0) ∷ []
      done_values t within =
          let p : PortName = own (codes "done") in
          let see : PortName → ℕ = look path (trace t) in
          let f = λ (a : Assignment) (is : IsDestination source c a.dst). flipped a.dst is in
          let sets : local_values see p c.sets ≡ [] = local_values-none see p c.sets (source_sets source tree plain c in_design (IsOfOther see p) f) in
          let pieces : local_values see p (add.sets c) ≡ [] =
          local_values-none see p (add.sets c) (each_weaker DrivesAdded (IsOfOther see p) (λ a is. subst (λ (q : PortName). is_port q p ≡ false) (sym is.drives) refl) (add.sets c) names.driven) in
          let groups : local_values see p (groups_in t) ≡ [] =
          local_values-none see p (groups_in t)
          (each_of_groups (IsOfOther see p) (ruled t) c.groups
          (source_group_sets source tree plain c in_design (IsOfOther see p) f)) in
          let done : local_values see p (done_set ∷ []) ≡ see (shown over_name) ∷ [] = refl in
          ap (λ (xs : List Assignment). values_for path (full_name path (codes "done")) (trace t) xs)
          (acting_are add primitive source tree plain top asked inputs loads height trace stop run path c at in_design full names t)
          ∙ all_values add source tree plain c in_design full names path (trace t) (ruled t) p plain_done
          ∙ ap (λ (values : List ℕ). ((values ++ local_values see p (add.sets c)) ++ local_values see p (done_set ∷ []))
          ++ local_values see p (groups_in t)) sets
          ∙ ap (λ (values : List ℕ). (values ++ local_values see p (done_set ∷ [])) ++ local_values see p (groups_in t)) pieces
          ∙ ap (λ (values : List ℕ). values ++ local_values see p (groups_in t)) done
          ∙ ap (λ (values : List ℕ). (see (shown over_name) ∷ []) ++ values) groups
          ∙ ap (λ (x : ℕ). x ∷ [])
          ((controlled path c at full).done t within
          ∙ ap (λ b. if b then 1 else 0) (sym (done_full source top height trace path c at full t)))
        where
          flipped : (q : PortName) → IsDestination source c q → is_port q (own (codes "done")) ≡ false
          flipped q is = other_port q (own (codes "done")) (λ same.
              let yes' : is_own (codes "done") q ≡ true = ap (is_own (codes "done")) same in
              both_ways (is_own (codes "done") q) (is.not_done full) yes')

      -- a port of an added cell has one drive at most
      added_few : (name pin : Text) → IsPlain pin → cell_named c.cells name ≡ None → (t : ℕ) → t < height
          → 2 ≤ length (values_for path (port_at path (Some name) pin) (trace t) (answer_sets path (extended add c) t)) → ⊥
      added_few name pin plain_pin none t within clash =
          let one : values_for path (port_at path (Some name) pin) (trace t) (answer_sets path (extended add c) t) ≡ local_values (look path (trace t)) (port_of name pin) (add.sets c) =
          ap (λ (sets : List Assignment). values_for path (port_at path (Some name) pin) (trace t) sets)
          (acting_are add primitive source tree plain top asked inputs loads height trace stop run path c at in_design full names t)
          ∙ added_alone add source tree plain c in_design full names path (trace t) (ruled t) name pin plain_pin none in
          let L : List ℕ → Type 0 = λ values. 2 ≤ length values in
          let more : 2 ≤ length (local_values (look path (trace t)) (port_of name pin) (add.sets c)) = subst L one clash in
          let most = (controlled path c at full).few_drives name pin plain_pin none t within in
          omega (arith, more, most)

    -- ---- each

    same_values : (cell : Option Text) (pin : Text) → IsDestination source c (record { cell = cell; pin = pin }) → (t : ℕ) → t < height
        → values_for path (port_at path cell pin) (trace t) (answer_sets path (extended add c) t) ≡ values_for path (port_at path cell pin) (trace t) (source_sets_in path c t)
    same_values cell pin is t within = elim (cases_Bool (is_bare c)) [
      | inl bare ↦ ap (λ (sets : List Assignment). values_for path (port_at path cell pin) (trace t) sets) (bare_same bare t)
      | inr full ↦ full_same full cell pin is t within
    ]

    done_destination : is_bare c ≡ false → IsDestination low (extended add c) (own (codes "done"))
    done_destination full =
        let I : List Pin → Type 0 = λ pins. Contains (pin_names pins) (codes "done") in
        let output : Contains (pin_names (outputs_in c)) (codes "done") = has_done_output c full in
        output_destination low (extended add c) (codes "done") (extended_is_bare add c)
        (λ input. input_or_output AnyName source plain.keeps c in_design (codes "done") (subst I (extended_inputs add c) input) output)
        (subst I (sym (extended_outputs add c)) output)

    -- a cell that the source doesn't have is of a primitive, whose pins are plain
    plain_added_pin : (name pin : Text) → cell_named c.cells name ≡ None → IsDestination low (extended add c) (port_of name pin) → IsPlain pin
    plain_added_pin name pin none is =
        elim (cell_input_cases low (extended add c) name pin (destination_pin low (extended add c) (Some name) pin is)) [
          | inl (prim, made, there) ↦ All-contains IsPlain (pin_names (inputs_of prim)) pin (plain_primitive prim) there
          | inr (part, made, there) ↦
              let bad : None ≡ Some part = sym (part_kept add primitive source c name ∙ ap (λ (o : Option CellDef). option_map (extended add) (option_and_then (part_of source) o)) none) ∙ made in
              absurd (cc)
        ]

    -- what drives a port of the answer with a Conflict drives it in the source
    record IsDrivenThere (port : Text) (drive : Drive) (t : ℕ) : Type 0 where
      other : Drive
      sink : source_circuit.Sink port other
      same : drive t (trace t) ≡ other t (trace t)

    driven_there : (cell : Option Text) (pin port : Text) (drive : Drive) (t : ℕ) → t < height → port_at path cell pin ≡ port
        → drive t (trace t) ≡ values_for path (port_at path cell pin) (trace t) (answer_sets path (extended add c) t)
        → IsDestination low (extended add c) (record { cell = cell; pin = pin }) → 2 ≤ length (drive t (trace t)) → IsDriven source c cell pin → IsDrivenThere port drive t
    driven_there cell pin port drive t within named values sink clash (OfSource is) = record {
      other = λ u row. values_for path port row ((scheduled source (acts source top height trace) (is_done source top height trace)).sets path c u row);
      sink = inl (record { path = path; c = c; at = at; cell = cell; pin = pin; sink = is; named = named; drives = refl });
      same = values ∙ same_values cell pin is t within ∙ ap (λ name. values_for path name (trace t) (source_sets_in path c t)) named;
    }
    driven_there cell pin port drive t within named values sink clash (OfControl full is_own is_done_pin) =
        let name : port_at path cell pin ≡ full_name path (codes "done") = ap₂ (port_at path) is_own is_done_pin in
        record {
          other = λ u row. (if is_done source top height trace path u then 1 else 0) ∷ [];
          sink = inr (record { path = path; c = c; at = at; control = full; named = sym name ∙ named; drives = refl });
          same = values ∙ ap (λ x. values_for path x (trace t) (answer_sets path (extended add c) t)) name ∙ done_values full t within;
        }
    driven_there cell pin port drive t within named values sink clash (OfAdded name full is_cell none) =
        let D : Option Text → Type 0 = λ x. IsDestination low (extended add c) (record { cell = x; pin = pin }) in
        let L : List ℕ → Type 0 = λ xs. 2 ≤ length xs in
        absurd (added_few full name pin (plain_added_pin name pin none (subst D is_cell sink)) none t within
        (subst L (values ∙ ap (λ x. values_for path (port_at path x pin) (trace t) (answer_sets path (extended add c) t)) is_cell) clash))

  -- ---- the two circuits

  cell_there : (cell : Text) (prim : Primitive) → IsPrimitiveCell source top cell prim → IsPrimitiveCell low (extended add top) cell prim
  cell_there cell prim is =
      let found = primitive_in-Some is.c is.cell prim is.made in
      record {
        path = is.path;
        c = extended add is.c;
        at = instance_kept add primitive source top is.c is.path is.at;
        cell = is.cell;
        made = primitive_kept add is.c is.cell found.0 found.1 ∙ is.made;
        named = is.named;
      }

  abbrev IsThere : Text → Drive → Type 0
  IsThere port drive = (other : Drive) × answer_circuit.Sink port other × ((t : ℕ) → t < height → other t (trace t) ≡ drive t (trace t))

  assigned_there : (port : Text) (drive : Drive)
      → IsAssigned source top (scheduled source (acts source top height trace) (is_done source top height trace)) port drive → IsThere port drive
  assigned_there port drive a = (
    λ t row. values_for a.path port row ((by_rules low (rules_from 0 source)).sets a.path (extended add a.c) t row),
    inl (record {
      path = a.path;
      c = extended add a.c;
      at = instance_kept add primitive source top a.c a.path a.at;
      cell = a.cell;
      pin = a.pin;
      sink = destination_kept add primitive source a.c a.cell a.pin a.sink;
      named = a.named;
      drives = refl;
    }),
    λ t within.
        ap (λ name. values_for a.path name (trace t) (answer_sets a.path (extended add a.c) t)) (sym a.named)
        ∙ same_values a.path a.c a.at a.cell a.pin a.sink t within
        ∙ ap (λ name. values_for a.path name (trace t) (source_sets_in a.path a.c t)) a.named
        ∙ sym (ap (λ (f : Drive). f t (trace t)) a.drives),
  )

  controlled_there : (port : Text) (drive : Drive)
      → IsControlled source top (scheduled source (acts source top height trace) (is_done source top height trace)) port drive → IsThere port drive
  controlled_there port drive k = (
    λ t row. values_for k.path port row ((by_rules low (rules_from 0 source)).sets k.path (extended add k.c) t row),
    inl (record {
      path = k.path;
      c = extended add k.c;
      at = instance_kept add primitive source top k.c k.path k.at;
      cell = None;
      pin = codes "done";
      sink = done_destination k.path k.c k.at k.control;
      named = k.named;
      drives = refl;
    }),
    λ t within.
        ap (λ name. values_for k.path name (trace t) (answer_sets k.path (extended add k.c) t)) (sym k.named)
        ∙ done_values k.path k.c k.at k.control t within
        ∙ sym (ap (λ (f : Drive). f t (trace t)) k.drives),
  )

  back_there : (t : ℕ) (port : Text) (drive : Drive) → t < height → answer_circuit.Sink port drive → 2 ≤ length (drive t (trace t))
      → (other : Drive) × source_circuit.Sink port other × (drive t (trace t) ≡ other t (trace t))
  back_there t port drive within (inl a) clash =
      let i = instance_of add primitive source top a.c a.path a.at in
      let D : Component → Type 0 = λ d. IsDestination low d (record { cell = a.cell; pin = a.pin }) in
      let sink : IsDestination low (extended add i.0) (record { cell = a.cell; pin = a.pin }) = subst D (sym i.2) a.sink in
      let values : drive t (trace t) ≡ values_for a.path (port_at a.path a.cell a.pin) (trace t) (answer_sets a.path (extended add i.0) t) =
      ap (λ (f : Drive). f t (trace t)) a.drives ∙ ap (λ (d : Component). values_for a.path port (trace t) (answer_sets a.path d t)) (sym i.2)
      ∙ ap (λ name. values_for a.path name (trace t) (answer_sets a.path (extended add i.0) t)) (sym a.named) in
      let there : IsDrivenThere a.path i.0 i.1 port drive t =
      driven_there a.path i.0 i.1 a.cell a.pin port drive t within a.named values sink clash (destination_of add primitive source i.0 a.cell a.pin sink) in
      (there.other, there.sink, there.same)
  back_there t port drive within (inr k) clash =
      let i = instance_of add primitive source top k.c k.path k.at in
      let bare : is_bare k.c ≡ true = sym (ap (λ (d : Component). is_bare d) i.2) ∙ extended_is_bare add i.0 in
      absurd (both_ways (is_bare k.c) k.control bare)

  shows : ShowsIn answer_circuit source_circuit height trace
  shows = record {
    inputs = λ port has. let I : List Pin → Type 0 = λ pins. Contains (pin_names pins) port in subst I (sym (extended_inputs add top)) has;
    cells = cell_there;
    sinks = λ port drive sink. elim sink [
      | inl a ↦ assigned_there port drive a
      | inr k ↦ controlled_there port drive k
    ];
    back = back_there;
  }

  kept_run : Run source top asked inputs loads height trace stop
  kept_run = record {
    acts = acts source top height trace;
    is_done = is_done source top height trace;
    follows = follows source top height trace;
    run = shown_run answer_circuit source_circuit asked inputs loads height trace shows stop run;
  }

-- in each run of the answer each instance acts so
abbrev pub FollowsControl : Additions → Design → Type 0
FollowsControl add source =
    (top : Component) → Contains source top → (asked : ℕ) (inputs : Trace) (loads : Text → List ℕ) (height : ℕ) (trace : Trace) (stop : Option Text)
    → IsStoppedRun (cal_circuit (answer add source) (extended add top) (by_rules (answer add source) (rules_from 0 source))) asked inputs loads height trace stop
    → (path : Path) (c : Component) → component_at source top path ≡ Some c → is_bare c ≡ false → ActsAsControl add source height trace path c

pub runs_kept : (add : Additions) → AreOfPrimitives add → (source : Design) → HasPlainTree source → IsPlainDesign source
    → ((c : Component) → Contains source c → is_bare c ≡ false → AreNamed add c) → FollowsControl add source → KeepsRunsFromEach source (answer add source) (rules_from 0 source)
runs_kept add primitive source tree plain named follows_control n c d at there asked inputs loads height trace stop run =
    let one : Some d ≡ Some (extended add c) = sym there ∙ slice_get-map (extended add) source n ∙ ap (option_map (extended add)) at in
    let same : d ≡ extended add c = cc in
    let top_in : Contains source c = Contains-at source n c at in
    let T : Component → Type 0 = λ e. HoleRun (answer add source) (rules_from 0 source) e asked inputs loads height trace stop in
    let here = subst T same run in
    kept_run add primitive source tree plain named c top_in asked inputs loads height trace stop here (follows_control c top_in asked inputs loads height trace stop here)
