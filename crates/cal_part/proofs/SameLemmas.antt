-- Hierarchies that are the same but for the names of their components have the same runs.
use mathlib.Core.Path.{fun_ext}
use Rattle.std.proofs.Common.{◌≡◌, inl, inr, ℕ, suc, ◌+◌, List, [], ◌∷◌, ◌++◌, length, map, Bool, true, false, Option, Some, refl, sym, ap, ap₂, ◌∙◌, subst, arith}
use Rattle.std.specs.Prelude.{◌↔◌, Contains, find, flat_map, if◌then◌else◌, option_map}
use Rattle.std.proofs.lemmas.List.{length-append}
use Rattle.std.proofs.lemmas.List.Elements.{length_all_zip}
use Rattle.hw_names.specs.Name.{Text, Path}
use Rattle.hw_prims.specs.Row.{Row, Trace}
use Rattle.hw_prims.specs.Table.{Pin, pin_names}
use Rattle.net_core.proofs.CircuitLemmas.{IsWithin, same_runs, same_conflicts, same_stops}
use Rattle.net_core.specs.Circuit.{Drive}
use Rattle.cal_ast.specs.Actors.{Actor, ActorGroup, same_actor, own_group, invoked_group, actor_groups}
use Rattle.cal_ast.specs.CalRun.{Activity, IsAssigned, IsControlled, IsStoppedRun, bare, cal_circuit, values_for}
use Rattle.cal_ast.specs.Instances.{component_at}
use Rattle.cal_ast.specs.Invoking.{InvokeDef, invokes_among, invokes_in, gives_input, starts_cell, takes_output, invoke_done}
use Rattle.cal_ast.specs.Items.{Item, TheSignature, TheCell, TheAssignment, each, each_after, group_items, items_before_control}
use Rattle.cal_ast.specs.Keeping.{KeepsRuns}
use Rattle.cal_ast.specs.Plan.{plan_of, section_plan}
use Rattle.cal_ast.specs.Ports.{SidedPin, side_in}
use Rattle.cal_ast.specs.Schedule.{Run, Follows, FollowsControl, go_at, is_group_done, scheduled, sets_of_actor, view_at}
use Rattle.cal_ast.specs.Sides.{IsDestination}
use Rattle.cal_ast.specs.Spans.{View}
use Rattle.cal_ast.specs.Starts.{IsActing, IsDoneRow}
use Rattle.cal_ast.specs.Tree.{PortName, Assignment, CellDef, GroupDef, Component, Design}
use Rattle.cal_part.specs.Laws.{SameBelow}
use Rattle.cal_part.specs.SameHierarchy.{IsSameComponent, IsSameBelow}
use Rattle.cal_part.proofs.PlaceLemmas.{LooksAlike, looks_alike, same_below-sym, same_bare, same_inputs, primitives_same, same_itself, same_place, bare_alike}
use Rattle.cal_part.proofs.WiredLemmas.{items_after_cells, invokes_past_cells}

-- ---- sides

pub side_alike : (design : Design) (c : Component) (other : Design) (d : Component) → LooksAlike design c other d → (p : PortName) → side_in design c p ≡ side_in other d p
side_alike design c other d like p = ap (option_map (λ (q : SidedPin). q.side)) (like.ports p)

pub destination_alike : (design : Design) (c : Component) (other : Design) (d : Component) → LooksAlike design c other d → (p : PortName) → IsDestination design c p → IsDestination other d p
destination_alike design c other d like p is = record {
  side = sym (side_alike design c other d like p) ∙ is.side;
  not_done = λ control. is.not_done (bare_alike c d like.sets like.control ∙ control);
}

-- ---- actors

pub invokes_same : (c d : Component) → IsSameComponent c d → invokes_in c ≡ invokes_in d
invokes_same c d s =
    let count : length c.cells ≡ length d.cells = length_all_zip _ c.cells d.cells s.cells in
    let rest : items_after_cells c.groups c.sets c.control ≡ items_after_cells d.groups d.sets d.control =
    ap₂ (λ (groups : List GroupDef) (sets : List Assignment). items_after_cells groups sets c.control) s.groups s.sets ∙ ap (items_after_cells d.groups d.sets) s.control in
    invokes_past_cells c ∙ ap₂ (λ (n : ℕ) (items : List Item). invokes_among (1 + n) items) count rest ∙ sym (invokes_past_cells d)

invoked_same : (design : Design) (c : Component) (other : Design) (d : Component) → LooksAlike design c other d → (i : InvokeDef) → invoked_group design c i ≡ invoked_group other d i
invoked_same design c other d like i =
    ap (λ (go : Option Text). record {
      actor = (invoked_group design c i).actor;
      group = record {
        name = [];
        comb = false;
        sets = map (gives_input i.cell) i.ins ++ starts_cell i.cell go ++ map (takes_output i.cell) i.outs;
        dones = invoke_done [] i.cell ∷ [];
      };
    }) (like.starts i.cell)

-- what control may make act is the same
pub actors_alike : (design : Design) (c : Component) (other : Design) (d : Component) → LooksAlike design c other d → invokes_in c ≡ invokes_in d → actor_groups design c ≡ actor_groups other d
actors_alike design c other d like invokes =
    ap₂ (λ (groups : List GroupDef) (is : List InvokeDef). map own_group groups ++ map (invoked_group design c) is) like.groups invokes
    ∙ ap (λ (f : InvokeDef → ActorGroup). map own_group d.groups ++ map f (invokes_in d)) (fun_ext (invoked_same design c other d like))

pub actors_same : (design other : Design) (c d : Component) → IsSameBelow design c other d → actor_groups design c ≡ actor_groups other d
actors_same design other c d same =
    actors_alike design c other d (looks_alike design other c d same) (invokes_same c d (same_itself design other c d same))

-- ---- plans

cell_count : (before cells : List CellDef) → length (each_after TheCell before cells) ≡ length cells
cell_count before [] = refl
cell_count before (cell ∷ cells) = ap suc (cell_count (before ++ cell ∷ []) cells)

item_count : (c : Component)
    → length (items_before_control c) ≡ 1 + length c.cells + length (flat_map (λ (items : List Item). items) (each group_items c.groups)) + length (map TheAssignment c.sets)
item_count c =
    let cells = each TheCell c.cells in
    let groups = flat_map (λ (items : List Item). items) (each group_items c.groups) in
    omega (arith, cell_count [] c.cells, length-append (TheSignature ∷ cells ++ groups) (map TheAssignment c.sets), length-append (TheSignature ∷ cells) groups)

plans_same : (c d : Component) → IsSameComponent c d → plan_of c ≡ plan_of d
plans_same c d s =
    let count : length c.cells ≡ length d.cells = length_all_zip _ c.cells d.cells s.cells in
    let items : length (items_before_control c) ≡ length (items_before_control d) =
    item_count c
    ∙ ap₂ (λ (n : ℕ) (groups : List GroupDef). 1 + n + length (flat_map (λ (items : List Item). items) (each group_items groups)) + length (map TheAssignment c.sets)) count s.groups
    ∙ ap (λ (sets : List Assignment). 1 + length d.cells + length (flat_map (λ (items : List Item). items) (each group_items d.groups)) + length (map TheAssignment sets)) s.sets
    ∙ sym (item_count d) in
    ap₂ section_plan items s.control

-- ---- circuits

-- at each path the same assignments act, and the same done is given, in both
record ActAlike (design : Design) (c : Component) (other : Design) (d : Component) (a b : Activity) : Type 0 where
  sets : (path : Path) (x y : Component) → component_at design c path ≡ Some x → component_at other d path ≡ Some y → IsSameBelow design x other y → (t : ℕ) (row : Row) → a.sets path x t row ≡ b.sets path y t row
  done : (path : Path) (x y : Component) → component_at design c path ≡ Some x → component_at other d path ≡ Some y → IsSameBelow design x other y → (t : ℕ) → a.done path x t ≡ b.done path y t

module _ (design other : Design) (c d : Component) (same : IsSameBelow design c other d) (a b : Activity) (alike : ActAlike design c other d a b) where
  assigned : (port : Text) (drive : Drive) → IsAssigned design c a port drive → (there : Drive) × (cal_circuit other d b).Sink port there × ((t : ℕ) (row : Row) → drive t row ≡ there t row)
  assigned port drive s =
      let i = same_place design other c d same s.path s.c s.at in (
        λ t row. values_for s.path port row (b.sets s.path i.y t row),
        inl (record {
          path = s.path;
          c = i.y;
          at = i.at;
          cell = s.cell;
          pin = s.pin;
          sink = destination_alike design s.c other i.y (looks_alike design other s.c i.y i.same) (record { cell = s.cell; pin = s.pin }) s.sink;
          named = s.named;
          drives = refl;
        }),
        λ t row. ap (λ (f : Drive). f t row) s.drives ∙ ap (values_for s.path port row) (alike.sets s.path s.c i.y s.at i.at i.same t row),
      )

  controlled : (port : Text) (drive : Drive) → IsControlled design c a port drive → (there : Drive) × (cal_circuit other d b).Sink port there × ((t : ℕ) (row : Row) → drive t row ≡ there t row)
  controlled port drive s =
      let i = same_place design other c d same s.path s.c s.at in (
        λ t row. (if b.done s.path i.y t then 1 else 0) ∷ [],
        inr (record {
          path = s.path;
          c = i.y;
          at = i.at;
          control = sym (same_bare s.c i.y (same_itself design other s.c i.y i.same)) ∙ s.control;
          named = s.named;
          drives = refl;
        }),
        λ t row. ap (λ (f : Drive). f t row) s.drives ∙ ap (λ (is : Bool). (if is then 1 else 0) ∷ []) (alike.done s.path s.c i.y s.at i.at i.same t),
      )

  within : IsWithin (cal_circuit design c a) (cal_circuit other d b)
  within = record {
    inputs = λ port has. subst (λ (pins : List Pin). Contains (pin_names pins) port) (same_inputs c d (same_itself design other c d same)) has;
    cells = λ cell prim is. (let i = same_place design other c d same is.path is.c is.at in record {
      path = is.path;
      c = i.y;
      at = i.at;
      cell = is.cell;
      made = sym (primitives_same is.c i.y (same_itself design other is.c i.y i.same) is.cell) ∙ is.made;
      named = is.named;
    });
    sinks = λ port drive has. elim has [
      | inl s ↦ assigned port drive s
      | inr s ↦ controlled port drive s
    ];
  }

acts_back : (design other : Design) (c d : Component) (a b : Activity) → ActAlike design c other d a b → ActAlike other d design c b a
acts_back design other c d a b alike = record {
  sets = λ path x y at at' same t row. sym (alike.sets path y x at' at (same_below-sym other design x y same) t row);
  done = λ path x y at at' same t. sym (alike.done path y x at' at (same_below-sym other design x y same) t);
}

bare_acts : (design other : Design) (c d : Component) → ActAlike design c other d bare bare
bare_acts design other c d = record {
  sets = λ path x y at at' same t row. (same_itself design other x y same).sets;
  done = λ path x y at at' same t. refl;
}

scheduled_acts : (design other : Design) (c d : Component) (acts : Path → Actor → ℕ → Bool) (is_done : Path → ℕ → Bool) → ActAlike design c other d (scheduled design acts is_done) (scheduled other acts is_done)
scheduled_acts design other c d acts is_done = record {
  sets = λ path x y at at' same t row.
      ap₂ (λ (sets : List Assignment) (actors : List ActorGroup). sets ++ flat_map (sets_of_actor (λ actor. acts path actor t)) actors) (same_itself design other x y same).sets (actors_same design other x y same);
  done = λ path x y at at' same t. refl;
}

-- ---- runs

module _ (design other : Design) (c d : Component) (same : IsSameBelow design c other d) (a b : Activity) (alike : ActAlike design c other d a b) where
  there : IsWithin (cal_circuit design c a) (cal_circuit other d b)
  there = within design other c d same a b alike

  back : IsWithin (cal_circuit other d b) (cal_circuit design c a)
  back = within other design d c (same_below-sym design other c d same) b a (acts_back design other c d a b alike)

  runs_alike : (asked : ℕ) (inputs : Trace) (loads : Text → List ℕ) (height : ℕ) (trace : Trace) (stop : Option Text)
      → IsStoppedRun (cal_circuit design c a) asked inputs loads height trace stop → IsStoppedRun (cal_circuit other d b) asked inputs loads height trace stop
  runs_alike asked inputs loads height trace stop r = record {
    run = (same_runs (cal_circuit design c a) (cal_circuit other d b) there back asked inputs loads height trace).0 r.run;
    stops = same_stops (cal_circuit design c a) (cal_circuit other d b) (same_conflicts (cal_circuit design c a) (cal_circuit other d b) there back) height trace stop r.stops;
  }

-- ---- control

view_same : (design other : Design) (x y : Component) → IsSameBelow design x other y → (path : Path) (height : ℕ) (trace : Trace) → view_at design path x height trace ≡ view_at other path y height trace
view_same design other x y same path height trace =
    ap (λ (found : Actor → Option GroupDef). record {
      done = λ actor t. is_group_done path (trace t) (found actor);
      reads = (view_at design path x height trace).reads;
      rows = height;
    }) (fun_ext (λ (actor : Actor). ap (λ (actors : List ActorGroup). option_map (λ (a : ActorGroup). a.group) (find (λ (a : ActorGroup). same_actor a.actor actor) actors)) (actors_same design other x y same)))

control_same : (design other : Design) (x y : Component) → IsSameBelow design x other y → (acts : Actor → ℕ → Bool) (is_done : ℕ → Bool) (path : Path) (height : ℕ) (trace : Trace)
    → FollowsControl design acts is_done path x height trace → FollowsControl other acts is_done path y height trace
control_same design other x y same acts is_done path height trace follows =
    let view = view_same design other x y same path height trace in
    let plan = plans_same x y (same_itself design other x y same) in
    record {
      acting = λ actor t less.
          subst (λ (v : View). (acts actor t ≡ true) ↔ IsActing v (go_at path trace) (plan_of y) actor t) view
          (subst (λ p. (acts actor t ≡ true) ↔ IsActing (view_at design path x height trace) (go_at path trace) p actor t) plan (follows.acting actor t less));
      done = λ t less.
          subst (λ (v : View). (is_done t ≡ true) ↔ IsDoneRow v (go_at path trace) (plan_of y) t) view
          (subst (λ p. (is_done t ≡ true) ↔ IsDoneRow (view_at design path x height trace) (go_at path trace) p t) plan (follows.done t less));
    }

follows_same : (design other : Design) (c d : Component) → IsSameBelow design c other d → (acts : Path → Actor → ℕ → Bool) (is_done : Path → ℕ → Bool) (height : ℕ) (trace : Trace)
    → Follows design c acts is_done height trace → Follows other d acts is_done height trace
follows_same design other c d same acts is_done height trace follows = record {
  control = λ path y at control.
      let i = same_place other design d c (same_below-sym design other c d same) path y at in
      let back = same_below-sym other design y i.y i.same in
      control_same design other i.y y back (acts path) (is_done path) path height trace
      (follows.control path i.y i.at (same_bare i.y y (same_itself design other i.y y back) ∙ control));
  bare = λ path y at is_bare'.
      let i = same_place other design d c (same_below-sym design other c d same) path y at in
      let back = same_below-sym other design y i.y i.same in
      follows.bare path i.y i.at (same_bare i.y y (same_itself design other i.y y back) ∙ is_bare');
}

scheduled_runs : (design other : Design) (c d : Component) → IsSameBelow design c other d → KeepsRuns (Run design c) (Run other d)
scheduled_runs design other c d same asked inputs loads height trace stop r = record {
  acts = r.acts;
  is_done = r.is_done;
  follows = follows_same design other c d same r.acts r.is_done height trace r.follows;
  run = runs_alike design other c d same (scheduled design r.acts r.is_done) (scheduled other r.acts r.is_done) (scheduled_acts design other c d r.acts r.is_done) asked inputs loads height trace stop r.run;
}

pub same_below : SameBelow
same_below design other c d same =
    let turned = same_below-sym design other c d same in
    let forth = there design other c d same bare bare (bare_acts design other c d) in
    let back' = back design other c d same bare bare (bare_acts design other c d) in
    record {
      bare_runs = λ asked inputs loads height trace. same_runs (cal_circuit design c bare) (cal_circuit other d bare) forth back' asked inputs loads height trace;
      bare_conflicts = λ t row port. same_conflicts (cal_circuit design c bare) (cal_circuit other d bare) forth back' t row port;
      bare_stops = λ asked inputs loads height trace stop. (
        runs_alike design other c d same bare bare (bare_acts design other c d) asked inputs loads height trace stop,
        runs_alike other design d c turned bare bare (bare_acts other design d c) asked inputs loads height trace stop,
      );
      runs = λ asked inputs loads height trace stop. (
        scheduled_runs design other c d same asked inputs loads height trace stop,
        scheduled_runs other design d c turned asked inputs loads height trace stop,
      );
    }
