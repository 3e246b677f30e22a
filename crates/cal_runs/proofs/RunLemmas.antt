-- Two runs of a design from the same inputs and words have the same rows and states, as far as both go.
use Rattle.std.proofs.Common.{◌≡◌, ◌↔◌, inl, inr, ℕ, zero, suc, ◌<◌, ◌≤◌, ◌==◌, List, [], ◌∷◌, length, Bool, true, false, Option, Some, None, refl, sym, ap, ap₂, ◌∙◌, arith}
use Rattle.std.specs.Prelude.{Contains, codes}
use Rattle.std.proofs.lemmas.List.Elements.{All-contains}
use Rattle.hw_names.specs.Name.{Text, Path, dotted, full_name}
use Rattle.hw_prims.specs.Meaning.{next_state}
use Rattle.hw_prims.specs.Row.{Row, Trace, values_at}
use Rattle.hw_prims.specs.Table.{pin_names, inputs_of}
use Rattle.hw_prims.specs.declared.prim.Primitive.{Primitive}
use Rattle.net_core.specs.Circuit.{states_before, HasConflict}
use Rattle.cal_ast.proofs.InstanceLemmas.{component_at-design}
use Rattle.cal_ast.proofs.ItemLemmas.{statement_item, statement_names_known}
use Rattle.cal_ast.proofs.LineLemmas.{done_line}
use Rattle.cal_ast.proofs.ListLemmas.{place_of, Contains-here, Contains-there}
use Rattle.cal_ast.specs.Actors.{Actor, group_of}
use Rattle.cal_ast.specs.CalRun.{cal_circuit}
use Rattle.cal_ast.specs.Instances.{component_at, port_name, IsPrimitiveCell}
use Rattle.cal_ast.specs.Items.{items_before_control}
use Rattle.cal_ast.specs.Naming.{IsKnownPort, Unreserved}
use Rattle.cal_ast.specs.Plain.{HasPlainTree}
use Rattle.cal_ast.specs.Plan.{Plan, plan_of}
use Rattle.cal_ast.specs.Ports.{is_bare}
use Rattle.cal_ast.specs.Rules.{CalRules}
use Rattle.cal_ast.specs.Schedule.{Run, IsPortOf, view_at, go_at, is_group_done, scheduled}
use Rattle.cal_ast.specs.Sides.{IsSource}
use Rattle.cal_ast.specs.Tree.{PortName, own, GroupDef, Component, Design}
use Rattle.cal_ast.specs.Wires.{done_ports}
use Rattle.cal_walk.proofs.StageLemmas.{walking_is_the_schedule}
use Rattle.cal_walk.specs.Left.{sight_at}
use Rattle.cal_walk.specs.Stages.{Progress, next_progress, progress_at, acts_now, is_done_now}
use Rattle.cal_runs.proofs.ActorLemmas.{group_of-is}
use Rattle.cal_runs.proofs.RoleLemmas.{go_source}
use Rattle.cal_runs.proofs.RowLemmas.{IsTold, SeesAlike, source_port, input_port, row_agrees, conflict_too}
use Rattle.cal_runs.proofs.SightLemmas.{Tests, ProgressTests, IsAlike, section_tests, next_tests, next_same}
use Rattle.cal_runs.proofs.ValueLemmas.{dones_agree}

-- tests that are true exactly where one thing holds are one
same_truth : (x y : Bool) (P : Type 0) → (x ≡ true) ↔ P → (y ≡ true) ↔ P → x ≡ y
same_truth true true P is is' = refl
same_truth false false P is is' = refl
same_truth true false P is is' = sym (is'.1 (is.0 refl))
same_truth false true P is is' = is.1 (is'.0 refl)

-- rows that agree at the pins of a cell agree in its values
values_alike : (row row' : Row) (cell : Text) (pins : List Text) → ((pin : Text) → Contains pins pin → row (dotted cell pin) ≡ row' (dotted cell pin)) → values_at row (dotted cell) pins ≡ values_at row' (dotted cell) pins
values_alike row row' cell [] same = refl
values_alike row row' cell (pin ∷ pins) same = ap₂ ◌∷◌ (same pin (Contains-here pin pins)) (values_alike row row' cell pins (λ other has. same other (Contains-there pin pins other has)))

module _ (design : Design) (top : Component) (plain : HasPlainTree design) (rules : CalRules design) (in_design : Contains design top) (asked other : ℕ) (inputs : Trace) (loads : Text → List ℕ)
    (height height' : ℕ) (trace trace' : Trace) (stop stop' : Option Text) (a : Run design top asked inputs loads height trace stop) (b : Run design top other inputs loads height' trace' stop') where
  abbrev pub AgreeIn : ℕ → Type 0
  AgreeIn t = (name : Text) → IsPortOf design top name → trace t name ≡ trace' t name

  abbrev pub AgreeBefore : ℕ → Type 0
  AgreeBefore t = (u : ℕ) → u < t → AgreeIn u

  -- states that come of rows that agree
  pub states_alike : (t : ℕ) → AgreeBefore t → (cell : Text) (prim : Primitive) → IsPrimitiveCell design top cell prim → states_before t trace loads cell prim ≡ states_before t trace' loads cell prim
  states_alike zero before cell prim is = refl
  states_alike (suc t) before cell prim is =
      ap₂ (next_state prim) (states_alike t (λ u less. before u (omega (arith, less))) cell prim is)
      (values_alike (trace t) (trace' t) cell (pin_names (inputs_of prim)) (λ input has. before t (omega arith) (dotted cell input) (input_port design top rules in_design cell prim input is has)))

  module _ (path : Path) (c : Component) (at : component_at design top path ≡ Some c) where
    here : Contains design c
    here = component_at-design design top path c in_design at

    -- an actor is done alike in rows that agree
    done_alike : (u : ℕ) → AgreeIn u → (actor : Actor) → is_group_done path (trace u) (group_of design c actor) ≡ is_group_done path (trace' u) (group_of design c actor)
    done_alike u agree actor = by (group_of design c actor) refl
      where
        by : (o : Option GroupDef) → group_of design c actor ≡ o → is_group_done path (trace u) o ≡ is_group_done path (trace' u) o
        by None is = refl
        by (Some g) is =
            let n = place_of design c here in
            dones_agree path (trace u) (trace' u) g.dones (λ d has p reads.
            agree (port_name path p) (source_port design top rules in_design path c p at
            (All-contains (IsSource design c) (done_ports d) p (done_line Unreserved design rules.keeps n.0 c n.1 g d (group_of-is design c actor g is) has) reads)))

    module _ (control : is_bare c ≡ false) where
      abbrev Known : PortName → Type 0
      Known = IsKnownPort design c

      go_alike : (u : ℕ) → AgreeIn u → go_at path trace u ≡ go_at path trace' u
      go_alike u agree = ap (λ (v : ℕ). v == 1) (agree (full_name path (codes "go")) (source_port design top rules in_design path c (own (codes "go")) at (go_source design c control)))

      sight_alike : (u : ℕ) → AgreeIn u → IsAlike Known (sight_at (view_at design path c height trace) u) (sight_at (view_at design path c height' trace') u)
      sight_alike u agree = record {
        done = λ actor. done_alike u agree actor;
        reads = λ port known. ap (λ (v : ℕ). v == 1) (agree (port_name path port) (record { path = path; c = c; at = at; p = port; known = known; named = refl }));
      }

      whole : Tests Known (plan_of c)
      whole =
          let n = place_of design c here in
          section_tests Known (length (items_before_control c)) c.control (λ x has. (statement_names_known Unreserved design rules.keeps n.0 c n.1 x (statement_item c x has)).condition)

      -- what is left to do tests ports that are known
      progress_tests : (t : ℕ) → ProgressTests Known (progress_at (view_at design path c height trace) (go_at path trace) (plan_of c) t)
      progress_tests zero = tt
      progress_tests (suc t) =
          let v = view_at design path c height trace in
          next_tests Known (sight_at v t) (plan_of c) (go_at path trace t) (progress_at v (go_at path trace) (plan_of c) t) whole (progress_tests t)

      -- control has come as far in rows that agree
      progress_alike : (t : ℕ) → AgreeBefore t
          → progress_at (view_at design path c height trace) (go_at path trace) (plan_of c) t ≡ progress_at (view_at design path c height' trace') (go_at path trace') (plan_of c) t
      progress_alike zero before = refl
      progress_alike (suc t) before =
          let v = view_at design path c height trace in
          let v' = view_at design path c height' trace' in
          let now = before t (omega arith) in
          next_same Known (sight_at v t) (sight_at v' t) (sight_alike t now) (plan_of c) (go_at path trace t) (go_at path trace' t) (progress_at v (go_at path trace) (plan_of c) t) whole (progress_tests t) (go_alike t now)
          ∙ ap (next_progress (plan_of c) (sight_at v' t) (go_at path trace' t)) (progress_alike t (λ u less. before u (omega (arith, less))))

      module _ (t : ℕ) (in_a : t < height) (in_b : t < height') (before : AgreeBefore t) where
        -- whether an actor acts is what control that is walked says
        acts_alike : (actor : Actor) → SeesAlike design path c actor (trace t) (trace' t) → a.acts path actor t ≡ b.acts path actor t
        acts_alike actor sees =
            let v = view_at design path c height trace in
            let v' = view_at design path c height' trace' in
            let plan : Plan = plan_of c in
            let go = go_at path trace in
            let go' = go_at path trace' in
            let one = same_truth (a.acts path actor t) (acts_now plan (progress_at v go plan t) actor (go t) (v.done actor t)) _ ((a.follows.control path c at control).acting actor t in_a) ((walking_is_the_schedule v go plan t in_a).0 actor) in
            let other = same_truth (b.acts path actor t) (acts_now plan (progress_at v' go' plan t) actor (go' t) (v'.done actor t)) _ ((b.follows.control path c at control).acting actor t in_b) ((walking_is_the_schedule v' go' plan t in_b).0 actor) in
            one
            ∙ ap (λ (x : Progress). acts_now plan x actor (go t) (v.done actor t)) (progress_alike t before)
            ∙ ap₂ (λ (g d : Bool). acts_now plan (progress_at v' go' plan t) actor g d) (ap (λ (n : ℕ). n == 1) sees.go) sees.done
            ∙ sym other

        ends_alike : a.is_done path t ≡ b.is_done path t
        ends_alike =
            let v = view_at design path c height trace in
            let v' = view_at design path c height' trace' in
            let plan : Plan = plan_of c in
            let go = go_at path trace in
            let go' = go_at path trace' in
            let one = same_truth (a.is_done path t) (is_done_now (progress_at v go plan t)) _ ((a.follows.control path c at control).done t in_a) (walking_is_the_schedule v go plan t in_a).1 in
            let other = same_truth (b.is_done path t) (is_done_now (progress_at v' go' plan t)) _ ((b.follows.control path c at control).done t in_b) (walking_is_the_schedule v' go' plan t in_b).1 in
            one ∙ ap is_done_now (progress_alike t before) ∙ sym other

    told : (t : ℕ) → t < height → t < height' → AgreeBefore t → IsTold design path c t a.acts b.acts a.is_done b.is_done (trace t) (trace' t)
    told t in_a in_b before = by (is_bare c) refl
      where
        by : (bare : Bool) → is_bare c ≡ bare → IsTold design path c t a.acts b.acts a.is_done b.is_done (trace t) (trace' t)
        by true bare =
            let idle = a.follows.bare path c at bare in
            let idle' = b.follows.bare path c at bare in
            record { done = idle.done t ∙ sym (idle'.done t); acting = λ actor sees. idle.acting actor t ∙ sym (idle'.acting actor t) }
        by false control = record { done = ends_alike control t in_a in_b before; acting = λ actor sees. acts_alike control t in_a in_b before actor (sees control) }

  agree_within : (n t : ℕ) → t < n → t < height → t < height' → AgreeIn t
  agree_within zero t within in_a in_b = absurd (omega (arith, within))
  agree_within (suc n) t within in_a in_b =
      let before : AgreeBefore t = λ u less. agree_within n u (omega (arith, less, within)) (omega (arith, less, in_a)) (omega (arith, less, in_b)) in
      row_agrees design top rules in_design plain t (inputs t) (states_before t trace loads) (states_before t trace' loads) a.acts b.acts a.is_done b.is_done (trace t) (trace' t)
      (a.run.run.rows t in_a) (b.run.run.rows t in_b) (states_alike t before) (λ path c at. told path c at t in_a in_b before)

  -- rows that both runs have agree
  pub rows_agree : (t : ℕ) → t < height → t < height' → AgreeIn t
  rows_agree t in_a in_b = agree_within (suc t) t (omega arith) in_a in_b

  pub rows_before : (t : ℕ) → t ≤ height → t ≤ height' → AgreeBefore t
  rows_before t in_a in_b u less = rows_agree u (omega (arith, less, in_a)) (omega (arith, less, in_b))

  -- and the same actors act in them
  pub same_actors_act : (path : Path) (c : Component) → component_at design top path ≡ Some c → (actor : Actor) (t : ℕ) → t < height → t < height' → a.acts path actor t ≡ b.acts path actor t
  same_actors_act path c at actor t in_a in_b =
      let agree : AgreeIn t = rows_agree t in_a in_b in
      let before : AgreeBefore t = rows_before t (omega (arith, in_a)) (omega (arith, in_b)) in
      (told path c at t in_a in_b before).acting actor (λ control. record {
        go = agree (full_name path (codes "go")) (source_port design top rules in_design path c (own (codes "go")) at (go_source design c control));
        done = done_alike path c at t agree actor;
      })

  -- a Conflict of the one is one of the other
  pub conflicts_agree : (t : ℕ) → t < height → t < height' → (port : Text) → HasConflict (cal_circuit design top (scheduled design a.acts a.is_done)) t (trace t) port
      → HasConflict (cal_circuit design top (scheduled design b.acts b.is_done)) t (trace' t) port
  conflicts_agree t in_a in_b port conflict =
      let before : AgreeBefore t = rows_before t (omega (arith, in_a)) (omega (arith, in_b)) in
      conflict_too design top rules in_design plain t (inputs t) (states_before t trace loads) (states_before t trace' loads) a.acts b.acts a.is_done b.is_done (trace t) (trace' t)
      (a.run.run.rows t in_a) (b.run.run.rows t in_b) (states_alike t before) (λ path c at. told path c at t in_a in_b before) port conflict

  -- so the one doesn't end before the other, where both are asked for as many rows
  pub not_shorter : asked ≡ other → height < height' → ⊥
  not_shorter as_many less = elim a.run.run.ends [
    | inl all ↦ elim b.run.run.ends [
      | inl all' ↦ omega (arith, less, all, all', as_many)
      | inr (few, last) ↦ omega (arith, less, all, few, as_many)
    ]
    | inr (few, (t, last, port, conflict)) ↦
        b.run.run.goes_on t (omega (arith, less, last)) port (conflicts_agree t (omega (arith, last)) (omega (arith, less, last)) port conflict)
  ]
