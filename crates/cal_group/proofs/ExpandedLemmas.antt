-- Components with groups for their invokes keep their faces, and follow the same schedule.
use Rattle.std.proofs.Common.{◌≡◌, ℕ, ◌==◌, Bool, true, false, List, [], ◌∷◌, ◌++◌, length, take, Option, Some, None, refl, sym, ap, ◌∙◌, subst, arith}
use Rattle.std.specs.Prelude.{All, Contains, IfSome, bytes_eq, flat_map}
use Rattle.std.proofs.lemmas.List.Elements.{All-contains}
use Rattle.std.proofs.lemmas.Slice.Eq.{bytes_eq-Decides}
use Rattle.hw_names.specs.Name.{Text, Path}
use Rattle.hw_prims.specs.Row.{Row, Trace}
use Rattle.cal_ast.proofs.InstanceLemmas.{component_at-design}
use Rattle.cal_ast.proofs.ItemLemmas.{statement_item}
use Rattle.cal_ast.proofs.LineLemmas.{invoke_item}
use Rattle.cal_ast.proofs.ListLemmas.{place_of, Contains-here, Contains-at, find-Some}
use Rattle.cal_ast.specs.Actors.{Actor, actor_groups, group_of}
use Rattle.cal_ast.specs.CalRun.{look, values_for}
use Rattle.cal_ast.specs.Controlling.{EnablesGroup, HasCondition, group_named}
use Rattle.cal_ast.specs.Instances.{component_at}
use Rattle.cal_ast.specs.Invoking.{invokes_in}
use Rattle.cal_ast.specs.Items.{TheGroup, TheStatement, items_before_control, control_statements}
use Rattle.cal_ast.specs.Naming.{Unreserved}
use Rattle.cal_ast.specs.NoInvoke.{IsNoInvoke}
use Rattle.cal_ast.specs.Plan.{Plan, plan_of}
use Rattle.cal_ast.specs.Ports.{is_bare, is_bare_by}
use Rattle.cal_ast.specs.Rules.{C1, KeepsRules, CalRules}
use Rattle.cal_ast.specs.Schedule.{Follows, FollowsControl, scheduled, sets_of_actor, is_group_done, view_at, go_at}
use Rattle.cal_ast.specs.Starts.{IsActing, IsDoneRow}
use Rattle.cal_ast.specs.Tree.{PortName, Assignment, GroupDef, Statement, Enable, Seq, Par, If, While, Invoke, ControlSection, Absent, Empty, Body, Component, Design}
use Rattle.cal_group.proofs.ControlLemmas.{NamesStay, none_in, section_expanded}
use Rattle.cal_group.proofs.GroupLemmas.{HasFreeNames, done_same, acting_sets, idle_sets}
use Rattle.cal_group.proofs.InvokeNames.{moved, renamed, renamed_once, unmoved}
use Rattle.cal_group.proofs.ItemCases.{header_item, statement_case}
use Rattle.cal_group.proofs.MappedLemmas.{KeepsFaces, instance_after, runs_before}
use Rattle.cal_group.proofs.RenamedLemmas.{with_actors, unnamed, plan_itself, acting_renamed, done_row_renamed}
use Rattle.cal_group.proofs.RuleOfLemmas.{at_item}
use Rattle.cal_group.specs.inside.Expanded.{expanded, expanded_section, expanded_design}
use Rattle.cal_group.specs.inside.Laws.{ExpandedKeepsRuns}

bare_section : (k : ℕ) (control : ControlSection) (sets : List Assignment) → is_bare_by (expanded_section k control) sets ≡ is_bare_by control sets
bare_section k Absent sets = refl
bare_section k Empty sets = refl
bare_section k (Body s) sets = refl

pub expanded_faces : (design : Design) → KeepsFaces design (expanded design)
expanded_faces design = record {
  names = λ c. refl;
  ins = λ c. refl;
  outs = λ c. refl;
  cells = λ c. refl;
  bare = λ c has. bare_section (length (items_before_control c)) c.control c.sets;
}

-- ---- no invoke is left

pub none_left : (design : Design) (c : Component) → All IsNoInvoke (control_statements (expanded design c).control)
none_left design c = none_in (length (items_before_control c)) c.control

all_gone : {X : Type 0} (xs : List X) → ((x : X) → Contains xs x → ⊥) → xs ≡ []
all_gone [] none = refl
all_gone (x ∷ xs) none = absurd (none x (Contains-here x xs))

pub no_invokes : (design : Design) (c : Component) → invokes_in (expanded design c) ≡ []
no_invokes design c = all_gone (invokes_in (expanded design c)) (λ i has.
    let s : Statement = Invoke i.cell i.ins i.outs in
    All-contains IsNoInvoke (control_statements (expanded design c).control) s (none_left design c) (statement_case (expanded design c) s (invoke_item (expanded design c) i has)))

-- ---- a component with control, by its rules

module _ (design : Design) (keeps : KeepsRules design) (c : Component) (has : Contains design c) (control : is_bare c ≡ false) where
  -- C1: its groups have names that lowering doesn't make
  pub free_names : HasFreeNames c
  free_names g of_c =
      let n = place_of design c has in
      let k = place_of c.groups g of_c in
      (at_item Unreserved design keeps n.0 c n.1 (TheGroup (take k.0 c.groups) g) (header_item c k.0 g k.1) 0 C1 (omega arith)).1 control

  -- C9 and C10: so have the groups that control names
  found_stays : (name : Text) (g : GroupDef) → group_named c.groups name ≡ Some g → moved name ≡ name
  found_stays name g found =
      let r = find-Some (λ (x : GroupDef). bytes_eq x.name name) c.groups g found in
      subst (λ (x : Text). moved x ≡ x) ((bytes_eq-Decides g.name name).0 r.1) (unmoved g.name (free_names g r.0))

  condition_stays : (by : Option Text) → IfSome by (λ name. (g : GroupDef) × (group_named c.groups name ≡ Some g) × (g.comb ≡ true)) → IfSome by (λ name. moved name ≡ name)
  condition_stays None found = tt
  condition_stays (Some name) found = found_stays name found.0 found.1

  statement_stays : (s : Statement) → EnablesGroup c s → HasCondition design c s → NamesStay s
  statement_stays (Enable name) enables condition = (found_stays name enables.0 enables.1, tt)
  statement_stays (Seq ss) enables condition = (tt, tt)
  statement_stays (Par ss) enables condition = (tt, tt)
  statement_stays (If port by s t) enables condition = (tt, condition_stays by condition.group)
  statement_stays (While port by s) enables condition = (tt, condition_stays by condition.group)
  statement_stays (Invoke cell ins outs) enables condition = (tt, tt)

  -- its plan is the old one with its actors renamed
  pub plan_renamed : plan_of (expanded design c) ≡ with_actors renamed (plan_of c)
  plan_renamed =
      let n = place_of design c has in
      section_expanded (length (items_before_control c)) (length (items_before_control (expanded design c))) c.control (λ s there.
      let item = TheStatement s in
      let rules = at_item Unreserved design keeps n.0 c n.1 item (statement_item c s there) in
      statement_stays s (rules 8 C1 (omega arith)) (rules 9 C1 (omega arith)))

  -- ---- the schedule

  module _ (path : Path) (height : ℕ) (trace : Trace) where
    abbrev done_before : Actor → ℕ → Bool
    done_before a t = is_group_done path (trace t) (group_of design c a)

    abbrev done_after : Actor → ℕ → Bool
    done_after a t = is_group_done path (trace t) (group_of (expanded_design design) (expanded design c) a)

    abbrev port_reads : PortName → ℕ → Bool
    port_reads p t = look path (trace t) p == 1

    same_done : (a : Actor) (t : ℕ) → done_after (renamed a) t ≡ done_before a t
    same_done a t = done_same design c free_names path (trace t) a

    old_done : (a : Actor) (t : ℕ) → done_before (unnamed a) t ≡ done_after (renamed a) t
    old_done a t = sym (same_done a t)

    abbrev IsActingAfter : Actor → ℕ → Plan → Type 0
    IsActingAfter a t p = IsActing (view_at (expanded_design design) path (expanded design c) height trace) (go_at path trace) p a t

    abbrev IsActingBefore : Actor → ℕ → Plan → Type 0
    IsActingBefore a t p = IsActing (view_at design path c height trace) (go_at path trace) p a t

    acting_before : (a : Actor) (t : ℕ) → IsActingAfter (renamed a) t (plan_of (expanded design c)) → IsActingBefore a t (plan_of c)
    acting_before a t is =
        subst (IsActingBefore a t) (plan_itself (plan_of c))
        (acting_renamed renamed unnamed done_after done_before port_reads height same_done (renamed a) a (λ b same. renamed_once b a same) (go_at path trace) (plan_of c) t
        (subst (IsActingAfter (renamed a) t) plan_renamed is))

    acting_after : (a : Actor) (t : ℕ) → IsActingBefore a t (plan_of c) → IsActingAfter (renamed a) t (plan_of (expanded design c))
    acting_after a t is =
        subst (IsActingAfter (renamed a) t) (sym plan_renamed)
        (acting_renamed unnamed renamed done_before done_after port_reads height old_done a (renamed a) (λ b same. ap renamed same) (go_at path trace) (plan_of c) t
        (subst (IsActingBefore a t) (sym (plan_itself (plan_of c))) is))

    abbrev IsDoneAfter : ℕ → Plan → Type 0
    IsDoneAfter t p = IsDoneRow (view_at (expanded_design design) path (expanded design c) height trace) (go_at path trace) p t

    abbrev IsDoneBefore : ℕ → Plan → Type 0
    IsDoneBefore t p = IsDoneRow (view_at design path c height trace) (go_at path trace) p t

    row_before : (t : ℕ) → IsDoneAfter t (plan_of (expanded design c)) → IsDoneBefore t (plan_of c)
    row_before t is =
        subst (IsDoneBefore t) (plan_itself (plan_of c))
        (done_row_renamed renamed unnamed done_after done_before port_reads height same_done (go_at path trace) (plan_of c) t (subst (IsDoneAfter t) plan_renamed is))

    row_after : (t : ℕ) → IsDoneBefore t (plan_of c) → IsDoneAfter t (plan_of (expanded design c))
    row_after t is =
        subst (IsDoneAfter t) (sym plan_renamed)
        (done_row_renamed unnamed renamed done_before done_after port_reads height old_done (go_at path trace) (plan_of c) t (subst (IsDoneBefore t) (sym (plan_itself (plan_of c))) is))

    pub follows_before : (acts : Actor → ℕ → Bool) (is_done : ℕ → Bool) → FollowsControl (expanded_design design) acts is_done path (expanded design c) height trace
        → FollowsControl design (λ a t. acts (renamed a) t) is_done path c height trace
    follows_before acts is_done follows = record {
      acting = λ a t less. (λ yes. acting_before a t ((follows.acting (renamed a) t less).0 yes), λ is. (follows.acting (renamed a) t less).1 (acting_after a t is));
      done = λ t less. (λ yes. row_before t ((follows.done t less).0 yes), λ is. (follows.done t less).1 (row_after t is));
    }

-- ---- runs

module _ (design : Design) (rules : CalRules design) (top : Component) (has_top : Contains design top) (acts : Path → Actor → ℕ → Bool) (is_done : Path → ℕ → Bool)
    (height : ℕ) (trace : Trace) (follows : Follows (expanded_design design) (expanded design top) acts is_done height trace) where
  abbrev source_acts : Path → Actor → ℕ → Bool
  source_acts path a t = acts path (renamed a) t

  source_follows : Follows design top source_acts is_done height trace
  source_follows = record {
    control = λ path c at control. (
        let has = component_at-design design top path c has_top at in
        let there = instance_after design (expanded design) (expanded_faces design) path top c at in
        follows_before design rules.keeps c has control path height trace (acts path) (is_done path)
        (follows.control path (expanded design c) there (bare_section (length (items_before_control c)) c.control c.sets ∙ control)));
    bare = λ path c at bare. (
        let there = instance_after design (expanded design) (expanded_faces design) path top c at in
        let idle = follows.bare path (expanded design c) there (bare_section (length (items_before_control c)) c.control c.sets ∙ bare) in
        record { acting = λ a t. idle.acting (renamed a) t; done = idle.done });
  }

  -- the same assignments act
  same_sets : (path : Path) (c : Component) → component_at design top path ≡ Some c → (t : ℕ)
      → flat_map (sets_of_actor (λ a. source_acts path a t)) (actor_groups design c) ≡ flat_map (sets_of_actor (λ a. acts path a t)) (actor_groups (expanded_design design) (expanded design c))
  same_sets path c at t = by (is_bare c) refl
    where
      by : (b : Bool) → is_bare c ≡ b
          → flat_map (sets_of_actor (λ a. source_acts path a t)) (actor_groups design c) ≡ flat_map (sets_of_actor (λ a. acts path a t)) (actor_groups (expanded_design design) (expanded design c))
      by false control =
          acting_sets design c (free_names design rules.keeps c (component_at-design design top path c has_top at) control) (λ a. acts path a t) (no_invokes design c)
      by true bare =
          let there = instance_after design (expanded design) (expanded_faces design) path top c at in
          let idle = follows.bare path (expanded design c) there (bare_section (length (items_before_control c)) c.control c.sets ∙ bare) in
          idle_sets (λ a. source_acts path a t) (λ a. idle.acting (renamed a) t) (actor_groups design c)
          ∙ sym (idle_sets (λ a. acts path a t) (λ a. idle.acting a t) (actor_groups (expanded_design design) (expanded design c)))

  same_values : (path : Path) (c : Component) → component_at design top path ≡ Some c → (port : Text) (t : ℕ) (row : Row)
      → values_for path port row ((scheduled design source_acts is_done).sets path c t row) ≡ values_for path port row ((scheduled (expanded_design design) acts is_done).sets path (expanded design c) t row)
  same_values path c at port t row = ap (λ (sets : List Assignment). values_for path port row (c.sets ++ sets)) (same_sets path c at t)

pub expanded_keeps_runs : ExpandedKeepsRuns
expanded_keeps_runs design rules n c at asked inputs loads height trace stop r =
    let has = Contains-at design n c at in
    record {
      acts = source_acts design rules c has r.acts r.is_done height trace r.follows;
      is_done = r.is_done;
      follows = source_follows design rules c has r.acts r.is_done height trace r.follows;
      run =
          runs_before design (expanded design) (expanded_faces design) c has
          (scheduled design (source_acts design rules c has r.acts r.is_done height trace r.follows) r.is_done) (scheduled (expanded_design design) r.acts r.is_done)
          (same_values design rules c has r.acts r.is_done height trace r.follows) (λ path d there t. refl) asked inputs loads height trace stop r.run;
    }
