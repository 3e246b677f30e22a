-- A component by itself keeps its promise where its instances keep theirs and its wires do what its body says.
use Rattle.std.proofs.Common.{◌≡◌, ◌↔◌, ℕ, zero, suc, ◌<◌, Bool, true, List, [], ◌∷◌, ◌++◌, length, map, flat_map, take, slice_get, All, Contains, Option, Some, refl, sym, ap, subst, ◌∙◌, inl, inr, arith}
use Rattle.std.specs.Option.{option_map_or}
use Rattle.std.specs.Prelude.{AllPairs}
use Rattle.std.proofs.lemmas.List.Elements.{All-contains}
use Rattle.std.proofs.lemmas.Option.{slice_get_within}
use Rattle.hw_names.specs.Name.{Path, Text, full_name}
use Rattle.hw_prims.specs.Filament.{behaviour_of}
use Rattle.hw_prims.specs.Row.{Trace}
use Rattle.hw_prims.specs.Timed.{AreLegalTransactions, Behaviour, CarriesInputs, IsTimed, TimedEvent, TimedPort, Transaction}
use Rattle.hw_prims.proofs.FilamentLemmas as primitives
use Rattle.fil_ast.specs.Behaviours.{component_behaviour, inner_transactions, timed_port}
use Rattle.fil_ast.specs.Connections.{connected_at}
use Rattle.fil_ast.specs.Items.{TheEnd}
use Rattle.fil_ast.specs.Rules.{F1, FilRules}
use Rattle.fil_ast.specs.Scope.{Scope, Instance, Invocation, instance_named}
use Rattle.fil_ast.specs.Signature.{sig_port}
use Rattle.fil_ast.specs.Tree.{Component, DataPort, Design, ValueTree, Connect}
use Rattle.fil_ast.specs.Wires.{whole_scope}
use Rattle.fil_share.proofs.ListLemmas.{Contains-at, two_of}
use Rattle.fil_share.proofs.OwnLemmas.{names_of}
use Rattle.fil_lower.specs.Separate.{IsSeparate}
use Rattle.fil_lower.specs.Wires.{ComponentRun, Drives, HasWires, IsWiredDesign, Stands, Within, component_run}
use Rattle.fil_lower.specs.inside.Laws.{AreTimed}
use Rattle.fil_lower.specs.inside.Lowered.{LoweredRun, drives, source_in}
use Rattle.fil_lower.specs.inside.Plan.{Literal, Plan, Use}
use Rattle.fil_lower.specs.inside.PlanOf.{Resolved, callee_of, plan_of, resolved_calls, source_of}
use Rattle.fil_lower.specs.inside.PlanRules.{IsEvent, given_transactions}
use Rattle.fil_lower.proofs.AlikeLemmas.{alike_inputs, alike_legal, alike_outputs}
use Rattle.fil_lower.proofs.DesignLemmas.{call_kind, component_promises, components_separate, primitive_promises, primitive_separate}
use Rattle.fil_lower.proofs.DriveLemmas.{Acts, Excludes}
use Rattle.fil_lower.proofs.FeedLemmas.{always_fed, fed_rows, feeds_of}
use Rattle.fil_lower.proofs.GivenLemmas.{given_legal}
use Rattle.fil_lower.proofs.NameLemmas.{from_map}
use Rattle.fil_lower.proofs.OverlapLemmas.{acts_carry, acts_timed}
use Rattle.fil_lower.proofs.PlanLemmas.{connected_where, plans_give, plans_promise}
use Rattle.fil_lower.proofs.SlotLemmas.{zip_pairs}
use Rattle.fil_lower.proofs.SourceLemmas.{known_stays}
use Rattle.fil_lower.proofs.TimedInstances.{of_event}
use Rattle.fil_lower.proofs.TimingLemmas.{filament_is_timed}
use Rattle.fil_lower.proofs.WellLemmas.{connected_some, plans_well_timed}
use Rattle.fil_laws.proofs.AlikeGivenLemmas.{flipped}
use Rattle.fil_lower.proofs.WireLemmas.{AreFed, IsPair, IsStarted, all_pairs, drives_where, given_where, pair_for, pairs_unmap, plan_rows, starts_planned, starts_told, value_planned}
use Rattle.fil_laws.specs.Alone.{CarriesGiven, ComponentsKeepPromises, InstancesCarryTheirs, IsPromiseOf, OfPrimitive, OfComponent, KeepsInside, WiredDesignsKeepPromises}

module _ (comps : Design) (rules : FilRules comps) (n : ℕ) (c : Component) (here : slice_get comps n ≡ Some c) (run : ComponentRun) where
  abbrev earlier : Design
  earlier = take n comps

  abbrev scope : Scope
  scope = whole_scope earlier c

  abbrev plan : Plan
  plan = plan_of earlier c

  -- ---- from the text to the plan

  module _ (wires : HasWires scope run) where
    abbrev feeds : Use → Text → ℕ → Bool
    feeds = feeds_of plan (λ go u. run.trace u (run.own go))

    abbrev pub rows : LoweredRun
    rows = plan_rows comps rules n c here run feeds

    are : AreFed comps rules n c here run feeds
    are = record {
      fed = λ r below. fed_rows comps rules n c here run.own run.cell run.height run.trace r;
      always = λ r below. always_fed comps rules n c here run.own run.cell run.height run.trace r;
    }

    module _ (r : ℕ) (below : r < run.height) where
      -- no two invocations give a port a value
      abbrev DrivesSome : Text → Text → Invocation → Type 0
      DrivesSome inst port v = (value : ValueTree) × Drives scope run inst port r v value

      abbrev Apart : Text → Text → Invocation → Invocation → Type 0
      Apart inst port v w = DrivesSome inst port v → DrivesSome inst port w → ⊥

      apart_by : (inst port : Text) → AllPairs (Excludes (drives rows inst port r)) plan.uses → AllPairs (Apart inst port) scope.invocations
      apart_by inst port pairs =
          let test = drives rows inst port r in
          zip_pairs (λ (x : Resolved) (v : Invocation). IsPair comps rules n c here run feeds v x) (λ (x u : Resolved). Excludes test x.call u.call) (Apart inst port) (resolved_calls earlier c) scope.invocations
          (flipped (IsPair comps rules n c here run feeds) (λ (x : Resolved) (v : Invocation). IsPair comps rules n c here run feeds v x) scope.invocations (resolved_calls earlier c) (λ v x pair. pair) (all_pairs comps rules n c here run feeds))
          (pairs_unmap (Excludes test) (λ (x : Resolved). x.call) (resolved_calls earlier c) pairs)
          (λ x u v w pair_v pair_w excludes g h. excludes (drives_where comps rules n c here run feeds are r below v x pair_v inst port g.0 g.1) (drives_where comps rules n c here run feeds are r below w u pair_w inst port h.0 h.1))

      driven_by : (v : Invocation) (x : Resolved) → IsPair comps rules n c here run feeds v x → (p : TimedPort) → Contains (plan.callee x.call.inst).sig.ins p → feeds x.call p.name r ≡ true →
          AllPairs (Excludes (drives rows x.call.inst p.name r)) plan.uses → run.trace r (run.cell x.call.inst p.name) ≡ source_in rows (run.trace r) (x.call.args p.name)
      driven_by v x pair p has fed pairs =
          let inst = x.call.inst in
          let of_inst : v.inst ≡ inst = ap (λ (y : Resolved). y.call.inst) pair.made.is in
          let has_v : Contains (callee_of earlier c v.inst).sig.ins p = subst (λ (name : Text). Contains (callee_of earlier c name).sig.ins p) (sym of_inst) has in
          let g = given_where comps rules n c here run feeds are r below v x pair p has_v fed inst of_inst in
          wires.arguments r below inst p.name v g.0
          (record {
            drives = g.1;
            alone = λ w other h.
                elim (two_of (Apart inst p.name) scope.invocations w v (apart_by inst p.name pairs) h.invoked pair.has_v) [
                  | inl one ↦ one
                  | inr (inl apart) ↦ absurd (apart (other, h) (g.0, g.1))
                  | inr (inr apart) ↦ absurd (apart (g.0, g.1) (other, h))
                ];
          })
          ∙ g.2 (run.trace r)

      driven : (call : Use) → Contains plan.uses call → (p : TimedPort) → Contains (plan.callee call.inst).sig.ins p → feeds call p.name r ≡ true →
          AllPairs (Excludes (drives rows call.inst p.name r)) plan.uses → run.trace r (run.cell call.inst p.name) ≡ source_in rows (run.trace r) (call.args p.name)
      driven call has =
          let m = pair_for comps rules n c here run feeds call has in
          subst (λ (call : Use). (p : TimedPort) → Contains (plan.callee call.inst).sig.ins p → feeds call p.name r ≡ true → AllPairs (Excludes (drives rows call.inst p.name r)) plan.uses →
          run.trace r (run.cell call.inst p.name) ≡ source_in rows (run.trace r) (call.args p.name)) m.3 (driven_by m.0 m.1 m.2)

      started : (inst : Text) (k : ℕ) (event : TimedEvent) (go : Text) → IsEvent (plan.callee inst).sig k event → event.go ≡ Some go →
          (run.trace r (run.cell inst go) ≡ 1) ↔ IsStarted comps rules n c here run feeds inst k r
      started inst k event go at is_go =
          let is = of_event comps rules n c here inst k event at in
          let e = is.is_timed.event_is k event at in
          let w = wires.starts r below inst k go (record { signature = is.sig; signed = is.signed; event = e.0; at = e.1; has = e.2 ∙ is_go }) in
          (λ on. starts_planned comps rules n c here run feeds inst k r (w.0 on), λ s. w.1 (starts_told comps rules n c here run feeds inst k r s))

      connected : (p : TimedPort) → Contains plan.sig.outs p → run.trace r (run.own p.name) ≡ source_in rows (run.trace r) (plan.outputs p.name)
      connected p has =
          let m = from_map timed_port (map (sig_port c.events) c.outs) p has in
          let d = from_map (sig_port c.events) c.outs m.0 m.1 in
          let is_name : d.0.name ≡ p.name = ap (λ (x : TimedPort). x.name) (ap timed_port d.2 ∙ m.2) in
          let ends : All (λ (x : DataPort). Contains (flat_map connected_at c.body) x.name) c.outs = rules.keeps n c here (suc (length c.body)) TheEnd (inr (refl, refl)) 8 F1 (omega arith) in
          let arg = connected_some comps rules n c here c.body d.0.name (All-contains (λ (x : DataPort). Contains (flat_map connected_at c.body) x.name) c.outs d.0 ends d.1) in
          let w = connected_where c.body d.0.name arg.0 arg.1 in
          let within = slice_get_within c.body w.k (Connect d.0.name arg.0) w.at in
          let known = (names_of comps rules n c here).known_names w.k (Connect d.0.name arg.0) w.at in
          ap (λ (x : Text). run.trace r (run.own x)) (sym is_name)
          ∙ wires.outputs r below d.0.name arg.0 (Contains-at c.body w.k (Connect d.0.name arg.0) w.at)
          ∙ value_planned comps rules n c here run feeds w.k (omega (arith, within)) (resolved_calls earlier c) (known_stays comps rules n c here w.k) arg.0 known.1 (run.trace r)
          ∙ sym (ap (λ (o : Option ValueTree). source_in rows (run.trace r) (option_map_or (source_of (resolved_calls earlier c)) o (Literal 0))) arg.1)
          ∙ ap (λ (x : Text). source_in rows (run.trace r) (plan.outputs x)) is_name

    pub acts : Acts plan rows
    acts = record {
      driven = driven;
      fed = are.fed;
      always = are.always;
      started = started;
      connected = connected;
    }

  -- ---- promises

  abbrev KeptBy : Text → Behaviour → Type 0
  KeptBy inst b = IsTimed b (run.cell inst) run.height run.trace

  promised : (inst : Text) (i : Instance) (b : Behaviour) → instance_named scope.instances inst ≡ Some i → IsPromiseOf comps n i b → (callee_of earlier c inst ≡ b) × IsSeparate b
  promised inst i b found (OfPrimitive prim is) = (primitive_promises comps rules n c here inst i prim found is, primitive_separate prim)
  promised inst i b found (OfComponent m d none below at named) = (component_promises comps rules n c here inst i m d found none below at named, components_separate comps rules m d at)

  module _ (inside : KeepsInside comps n c run) where
    abbrev inside_rows : LoweredRun
    inside_rows = rows inside.wires

    are_timed : AreTimed plan inside_rows
    are_timed call has =
        elim (call_kind comps rules n c here call has).0 [
          | inl p ↦ subst (KeptBy call.inst) (sym p.promises) (inside.instances call.inst p.i (behaviour_of p.prim) p.found (OfPrimitive p.prim p.is))
          | inr d ↦ subst (KeptBy call.inst) (sym d.promises) (inside.instances call.inst d.i (component_behaviour (take d.m comps) d.d) d.found (OfComponent d.m d.d d.none d.below d.at d.is_named))
        ]

    pub keeps_promise : IsTimed (component_behaviour earlier c) run.own run.height run.trace
    keeps_promise =
        subst (λ (b : Behaviour). IsTimed b run.own run.height run.trace) (plans_promise comps rules n c here)
        (acts_timed plan (plans_well_timed comps rules n c here) inside_rows (acts inside.wires) are_timed)

    pub instance_carries : (txs : List Transaction) → AreLegalTransactions plan.sig txs → ((r : ℕ) → r < run.height → CarriesInputs plan.sig run.own (run.trace r) txs r) →
        (inst : Text) (i : Instance) (b : Behaviour) → instance_named scope.instances inst ≡ Some i → IsPromiseOf comps n i b → CarriesGiven b run inst (inner_transactions earlier c txs inst)
    instance_carries txs legal ins inst i b found promises =
        let is = promised inst i b found promises in
        let own = callee_of earlier c inst in
        let well = plans_well_timed comps rules n c here in
        let carry = acts_carry plan well inside_rows (acts inside.wires) are_timed txs legal ins inst in
        let given = given_transactions plan txs inst in
        let inner = inner_transactions earlier c txs inst in
        let zip = plans_give comps rules n c here txs inst in
        subst (λ (x : Behaviour). CarriesGiven x run inst inner) is.0 (record {
          legal = alike_legal own given inner zip (given_legal plan well txs legal inst);
          inputs = λ r below. alike_inputs own given inner zip (run.cell inst) (run.trace r) r (carry r below).0;
          outputs = λ r below. alike_outputs own given inner zip (subst IsSeparate (sym is.0) is.1) (run.cell inst) (run.trace r) r (carry r below).1;
        })

pub components_keep_promises : ComponentsKeepPromises
components_keep_promises comps n c run rules here inside = keeps_promise comps rules n c here run inside

pub instances_carry_theirs : InstancesCarryTheirs
instances_carry_theirs comps n c run rules here inside = instance_carries comps rules n c here run inside

-- ---- designs

module _ (comps : Design) (top height : ℕ) (trace : Trace) (rules : FilRules comps) (wired : IsWiredDesign comps top height trace) where
  timed_below : (bound n : ℕ) (path : Path) (c : Component) → n < bound → Stands comps top n path → slice_get comps n ≡ Some c → IsTimed (component_behaviour (take n comps) c) (full_name path) height trace
  timed_below zero n path c below stands here = absurd (omega (arith, below))
  timed_below (suc bound) n path c below stands here =
      components_keep_promises comps n c (component_run path height trace) rules here
      (record { wires = wired.wires n path c stands here; instances = λ inst i b found promises. made inst i b found promises (λ m deeper d less. timed_below bound m deeper d (omega (arith, below, less))) })
    where
      made : (inst : Text) (i : Instance) (b : Behaviour) → instance_named (whole_scope (take n comps) c).instances inst ≡ Some i → IsPromiseOf comps n i b →
          ((m : ℕ) (deeper : Path) (d : Component) → m < n → Stands comps top m deeper → slice_get comps m ≡ Some d → IsTimed (component_behaviour (take m comps) d) (full_name deeper) height trace) →
          IsTimed b (full_name (path ++ inst ∷ [])) height trace
      made inst i b found (OfPrimitive prim is) before =
          primitives.timed prim (filament_is_timed i.made i.params prim is) (full_name (path ++ inst ∷ [])) height trace (wired.primitives n path c inst i prim stands here found is)
      made inst i b found (OfComponent m d none less at named) before = before m (path ++ inst ∷ []) d less (Within n m path c d inst i stands here found none less at named) at

pub wired_designs_keep_promises : WiredDesignsKeepPromises
wired_designs_keep_promises comps top height trace rules wired n path c stands here = timed_below comps top height trace rules wired (suc n) n path c (omega arith) stands here
