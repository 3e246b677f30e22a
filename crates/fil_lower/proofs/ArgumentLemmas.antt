-- What drives an input of an instance: over a component's lowered invocations, the arguments that the plan says.
use Rattle.std.proofs.Common.{◌≡◌, ℕ, ◌+◌, ◌-◌, ◌<◌, Bool, true, false, List, [], ◌∷◌, ◌++◌, map, flat_map, take, slice_get, Option, Some, option_map, refl, sym, ap, ap₂, subst, ◌∙◌, arith}
use Rattle.std.specs.List.{AllZip}
use Rattle.std.specs.Option.{option_map_or}
use Rattle.std.specs.Prelude.{◌&&◌, Contains, bytes_eq, if◌then◌else◌}
use Rattle.std.proofs.lemmas.List.Elements.{All-contains, All-weaker}
use Rattle.std.proofs.lemmas.Option.{slice_get-map, slice_get_within}
use Rattle.std.proofs.lemmas.Slice.Eq.{bytes_eq-Decides}
use Rattle.hw_names.specs.Name.{Text, full_name}
use Rattle.hw_prims.specs.Timed.{TimedEvent, TimedPort, end_of}
use Rattle.net_core.specs.Guard.{guard_holds, source_value}
use Rattle.cal_ast.specs.CalRun.{look}
use Rattle.cal_ast.specs.Laws.{local_values}
use Rattle.cal_ast.specs.Tree.{port_of}
use Rattle.fil_ast.proofs.HoldLemmas.{use_listed}
use Rattle.fil_ast.specs.Behaviours.{timed_event, timed_port}
use Rattle.fil_ast.specs.Holds.{uses_of}
use Rattle.fil_ast.specs.Items.{scope_after}
use Rattle.fil_ast.specs.Naming.{IsKnownValue}
use Rattle.fil_ast.specs.Scope.{Invocation, invocations_at}
use Rattle.fil_ast.specs.Signature.{SigPort, Signature, event_number, sig_event}
use Rattle.fil_ast.specs.Timeline as timeline
use Rattle.fil_ast.specs.Timeline.{interval_between}
use Rattle.fil_ast.specs.Tree.{Design, Event, Statement}
use Rattle.fil_ast.specs.Wires.{whole_scope}
use Rattle.fil_share.proofs.ListLemmas.{Contains-at, Contains-here, Contains-there}
use Rattle.fil_lower.specs.inside.Lowered.{LoweredRun, drives, source_in, values_where}
use Rattle.fil_lower.specs.inside.LoweredDesign.{run_at}
use Rattle.fil_lower.specs.inside.Lowering.{Lowering, argument_set, argument_sets, go_of, inputs_of_callee, invocation_sets, lowered_value, lowering_with}
use Rattle.fil_lower.specs.inside.Plan.{Plan, Slot, Use}
use Rattle.fil_lower.specs.inside.PlanOf.{Resolved, callee_of, plan_of, resolved, resolved_calls, slot_of}
use Rattle.fil_lower.proofs.BitLemmas.{was_on_in}
use Rattle.fil_lower.proofs.CallLemmas.{IsCalled, all_called}
use Rattle.fil_lower.proofs.CellLemmas.{DrivesCell, argument_cells, elsewhere_by}
use Rattle.fil_lower.proofs.FeedLemmas.{argument_at, feeds_is, feeds_of}
use Rattle.fil_lower.proofs.GuardLemmas.{guard_is_open}
use Rattle.fil_lower.proofs.InvocationLemmas.{IsArgument, args_known, argument_of, argument_source}
use Rattle.fil_lower.proofs.LoweredParts.{LoweredComp, StandingComp}
use Rattle.fil_lower.proofs.SourceLemmas.{IsMadeAt, all_made, known_before, reads_same}
use Rattle.fil_lower.proofs.TimedAsLemmas.{contains_map}
use Rattle.fil_lower.proofs.ValueLemmas.{IsElsewhere, flat_values, no_values}
use Rattle.fil_lower.proofs.WellLemmas.{timed}

module _ (comp : LoweredComp) (standing : StandingComp comp) where
  open comp use {pair, pair.{comps, rules, plain, design, lowered}, n, c, here, registers, enough, new}
  open standing use {below_top, below_top.{top, asked, inputs, loads, height, trace, run}, path, at, plain_sets}

  abbrev earlier : Design
  earlier = take n comps

  abbrev l : Lowering
  l = lowering_with (take n comps) c registers

  abbrev plan : Plan
  plan = plan_of (take n comps) c

  -- the values of interface ports, row by row
  abbrev seen : Text → ℕ → ℕ
  seen go u = trace u (full_name path go)

  abbrev pub rows : LoweredRun
  rows = run_at path (feeds_of plan seen) height trace

  callee_inputs : (v : Invocation) (f : IsCalled earlier c v) → inputs_of_callee l v.inst ≡ f.sig.ins
  callee_inputs v f = ap (λ (o : Option Signature). option_map_or (λ (x : Signature). x.ins) o []) f.signed

  module _ (r : ℕ) (below : r < height) where
    -- an interval on an event, by the slot of a use of it
    opens : (call : Use) → Contains plan.uses call → (u : timeline.Use) → Contains call.slots (slot_of c u) → (q : SigPort) → Contains (plan.callee call.inst).sig.ins (timed_port q) → u.event ≡ q.from.event →
        (e : Event) → slice_get c.events (event_number c.events u.at.event) ≡ Some e →
        feeds_of plan seen call q.name r ≡ option_map_or (λ go. was_on_in (seen go) r (u.at.plus + q.from.plus) (u.at.plus + q.to.plus - (u.at.plus + q.from.plus))) (go_of l e.name) true
    opens call has u has_slot q has_q on e at_e =
        let event : slice_get plan.sig.events (event_number c.events u.at.event) ≡ Some (timed_event (sig_event c.interfaces e)) =
        slice_get-map timed_event (map (sig_event c.interfaces) c.events) (event_number c.events u.at.event)
        ∙ ap (option_map timed_event) (slice_get-map (sig_event c.interfaces) c.events (event_number c.events u.at.event) ∙ ap (option_map (sig_event c.interfaces)) at_e) in
        let last : u.at.plus + (q.to.plus + 0) ≡ u.at.plus + q.to.plus = omega arith in
        feeds_is comps rules n c here seen call has (timed_port q) has_q (slot_of c u) has_slot on r
        ∙ ap (λ (o : Option TimedEvent). option_map_or (λ (x : TimedEvent). option_map_or (λ go. was_on_in (seen go) r (u.at.plus + q.from.plus) (u.at.plus + end_of (timed_port q) u.hold - (u.at.plus + q.from.plus))) x.go true) o true) event
        ∙ ap (λ (end : ℕ). option_map_or (λ go. was_on_in (seen go) r (u.at.plus + q.from.plus) (end - (u.at.plus + q.from.plus))) (go_of l e.name) true) last

    -- the guard of the argument says when it drives
    guard_feeds : (v : Invocation) → Contains l.scope.invocations v → (call : Use) → Contains plan.uses call → v.inst ≡ call.inst → map (slot_of c) (uses_of (whole_scope earlier c) v) ≡ call.slots →
        (f : IsCalled earlier c v) (p : TimedPort) → Contains (callee_of earlier c v.inst).sig.ins p → (a : IsArgument comps rules n c here v f p) → guard_holds (look path (trace r)) (argument_set l v a.q a.arg).guard ≡ feeds_of plan seen call a.q.name r
    guard_feeds v has_v call has inst slots f p has_p a =
        let u = a.use_at in
        let has_q : Contains (inputs_of_callee l v.inst) a.q = subst (λ (ps : List SigPort). Contains ps a.q) (sym (callee_inputs v f)) (Contains-at f.sig.ins a.k a.q a.at_q) in
        let in_slots : Contains call.slots (slot_of c u) =
        subst (λ (ss : List Slot). Contains ss (slot_of c u)) slots (contains_map (slot_of c) (uses_of (whole_scope earlier c) v) u (use_listed (whole_scope earlier c) v u (f.sig, f.signed, a.used))) in
        let in_callee : Contains (plan.callee call.inst).sig.ins (timed_port a.q) =
        subst (λ (x : Text). Contains (plan.callee x).sig.ins (timed_port a.q)) inst (subst (λ (x : TimedPort). Contains (callee_of earlier c v.inst).sig.ins x) (sym a.is) has_p) in
        guard_is_open comp standing (event_number c.events u.at.event) a.event a.at_event v has_v a.q has_q (interval_between u.at u.at a.q) a.between (sym a.event_named) r below
        ∙ sym (opens call has u in_slots a.q in_callee a.number a.event a.at_event)

    -- and its value is what the plan reads
    argument_value : (v : Invocation) (f : IsCalled earlier c v) (k : ℕ) (s : Statement) → slice_get c.body k ≡ Some s → invocations_at s ≡ v ∷ [] → (call : Use) → (resolved earlier c (known_before comps rules n c here k) v).call ≡ call →
        (p : TimedPort) (a : IsArgument comps rules n c here v f p) → source_value (look path (trace r)) (lowered_value l a.arg) ≡ source_in rows (trace r) (call.args a.q.name)
    argument_value v f k s at_k only call is p a =
        let known = known_before comps rules n c here k in
        let within = slice_get_within c.body k s at_k in
        reads_same comps rules n c here registers path (feeds_of plan seen) height trace (trace r) k (omega (arith, within)) known (λ name call is. is) a.arg
        (All-contains (IsKnownValue (scope_after earlier c (take k c.body))) v.gives.args a.arg (args_known comps rules n c here k s at_k v only) (Contains-at v.gives.args a.k a.arg a.at_arg))
        ∙ ap (source_in rows (trace r)) (sym (argument_source comps rules n c here v f k call is p a))

    -- of an invocation's arguments that of the port, where it drives
    own_values : (v : Invocation) → Contains l.scope.invocations v → (k : ℕ) (s : Statement) → slice_get c.body k ≡ Some s → invocations_at s ≡ v ∷ [] →
        (call : Use) → (resolved earlier c (known_before comps rules n c here k) v).call ≡ call → Contains plan.uses call → (p : TimedPort) → Contains (callee_of earlier c v.inst).sig.ins p →
        local_values (look path (trace r)) (port_of v.inst p.name) (invocation_sets l v) ≡ (if feeds_of plan seen call p.name r then source_in rows (trace r) (call.args p.name) ∷ [] else [])
    own_values v has_v k s at_k only call is has p has_p =
        let f : IsCalled earlier c v = All-contains (IsCalled earlier c) l.scope.invocations v (all_called comps rules n c here) has_v in
        let a = argument_of comps rules n c here v f p has_p in
        let ports = callee_inputs v f in
        let distinct = (timed comps rules n c here v f).distinct in
        let is_name : a.q.name ≡ p.name = ap (λ (x : TimedPort). x.name) a.is in
        ap (λ (name : Text). local_values (look path (trace r)) (port_of v.inst name) (invocation_sets l v)) (sym is_name)
        ∙ ap (λ (ps : List SigPort). local_values (look path (trace r)) (port_of v.inst a.q.name) (argument_sets l v ps v.gives.args)) ports
        ∙ argument_at (look path (trace r)) l v f.sig.ins v.gives.args a.k a.q a.arg distinct a.at_q a.at_arg
        ∙ ap₂ (λ (b : Bool) (x : ℕ). if b then x ∷ [] else []) (guard_feeds v has_v call has (ap (λ (x : Use). x.inst) is) (ap (λ (x : Use). x.slots) is) f p has_p a) (argument_value v f k s at_k only call is p a)
        ∙ ap (λ (name : Text). if feeds_of plan seen call name r then source_in rows (trace r) (call.args name) ∷ [] else []) is_name

    module _ (inst : Text) (p : TimedPort) (has_p : Contains (callee_of earlier c inst).sig.ins p) where
      abbrev value : Use → ℕ
      value call = source_in rows (trace r) (call.args p.name)

      -- of an invocation, of whatever instance
      values_of : (v : Invocation) → Contains l.scope.invocations v → (x : Resolved) → IsMadeAt comps rules n c here v x → Contains plan.uses x.call →
          local_values (look path (trace r)) (port_of inst p.name) (invocation_sets l v) ≡ (if drives rows inst p.name r x.call then value x.call ∷ [] else [])
      values_of v has_v x m has =
          let of_inst : v.inst ≡ x.call.inst = ap (λ (y : Resolved). y.call.inst) m.is in
          by (bytes_eq v.inst inst) refl ∙ ap (λ (name : Text). if bytes_eq name inst && feeds_of plan seen x.call p.name r then value x.call ∷ [] else []) of_inst
        where
          by : (b : Bool) → bytes_eq v.inst inst ≡ b → local_values (look path (trace r)) (port_of inst p.name) (invocation_sets l v) ≡ (if bytes_eq v.inst inst && feeds_of plan seen x.call p.name r then value x.call ∷ [] else [])
          by true same =
              let is : v.inst ≡ inst = (bytes_eq-Decides v.inst inst).0 same in
              ap (λ (name : Text). local_values (look path (trace r)) (port_of name p.name) (invocation_sets l v)) (sym is)
              ∙ own_values v has_v m.k m.s m.at m.only x.call (ap (λ (y : Resolved). y.call) m.is) has p (subst (λ (name : Text). Contains (callee_of earlier c name).sig.ins p) (sym is) has_p)
              ∙ sym (ap (λ (b : Bool). if b && feeds_of plan seen x.call p.name r then value x.call ∷ [] else []) same)
          by false other =
              no_values (look path (trace r)) (port_of inst p.name) (invocation_sets l v)
              (All-weaker (DrivesCell (Some v.inst)) (IsElsewhere (look path (trace r)) (port_of inst p.name)) (elsewhere_by (look path (trace r)) (port_of inst p.name) (Some v.inst) other) (invocation_sets l v)
              (argument_cells l v (inputs_of_callee l v.inst) v.gives.args))
              ∙ sym (ap (λ (b : Bool). if b && feeds_of plan seen x.call p.name r then value x.call ∷ [] else []) other)

      joined : (b : Bool) (x : ℕ) (rest : List ℕ) → (if b then x ∷ [] else []) ++ rest ≡ (if b then x ∷ rest else rest)
      joined true x rest = refl
      joined false x rest = refl

      values_along : (vs : List Invocation) (xs : List Resolved) → AllZip (IsMadeAt comps rules n c here) vs xs → ((v : Invocation) → Contains vs v → Contains l.scope.invocations v) → ((x : Resolved) → Contains xs x → Contains plan.uses x.call) →
          flat_map (λ v. local_values (look path (trace r)) (port_of inst p.name) (invocation_sets l v)) vs ≡ values_where (drives rows inst p.name r) value (map (λ (x : Resolved). x.call) xs)
      values_along [] [] zip in_v in_x = refl
      values_along [] (x ∷ xs) zip in_v in_x = absurd zip
      values_along (v ∷ vs) [] zip in_v in_x = absurd zip
      values_along (v ∷ vs) (x ∷ xs) zip in_v in_x =
          ap₂ ◌++◌ (values_of v (in_v v (Contains-here v vs)) x zip.0 (in_x x (Contains-here x xs)))
          (values_along vs xs zip.1 (λ w has. in_v w (Contains-there v vs w has)) (λ y has. in_x y (Contains-there x xs y has)))
          ∙ joined (drives rows inst p.name r x.call) (value x.call) (values_where (drives rows inst p.name r) value (map (λ (y : Resolved). y.call) xs))

      -- over all invocations
      pub arguments_are : local_values (look path (trace r)) (port_of inst p.name) (flat_map (invocation_sets l) l.scope.invocations) ≡ values_where (drives rows inst p.name r) value plan.uses
      arguments_are =
          flat_values (look path (trace r)) (port_of inst p.name) (invocation_sets l) l.scope.invocations
          ∙ values_along l.scope.invocations (resolved_calls earlier c) (all_made comps rules n c here) (λ v has. has) (λ x has. contains_map (λ (y : Resolved). y.call) (resolved_calls earlier c) x has)
