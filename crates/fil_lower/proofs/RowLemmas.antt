-- The rows of a lowered component show what its plan says, at each path at which it stands.
use Rattle.std.proofs.Common.{◌≡◌, ◌↔◌, ℕ, suc, ◌+◌, ◌-◌, ◌<◌, Bool, true, false, [], ◌∷◌, ◌++◌, length, map, flat_map, take, slice_get, All, Option, Some, None, option_map, refl, sym, ap, subst, ◌∙◌, inr, arith}
use Rattle.std.specs.Option.{option_map_or}
use Rattle.std.specs.Prelude.{◌==◌, Contains, if◌then◌else◌}
use Rattle.std.proofs.lemmas.Bool.Decides.{Decides-eqb}
use Rattle.std.proofs.lemmas.List.Elements.{All-contains}
use Rattle.std.proofs.lemmas.Option.{none-some, same_Some, slice_get-map, slice_get_within}
use Rattle.hw_names.specs.Name.{Text, IsPlain, full_name, port_at}
use Rattle.hw_names.proofs.NameLemmas.{full_name-append}
use Rattle.hw_prims.specs.Table.{Pin}
use Rattle.hw_prims.specs.Timed.{TimedEvent, TimedPort}
use Rattle.net_core.specs.Circuit.{settled}
use Rattle.net_core.specs.Guard.{source_value}
use Rattle.cal_ast.proofs.SideLemmas.{cell_input_destination}
use Rattle.cal_ast.specs.CalRun.{look}
use Rattle.cal_ast.specs.Plain.{IsPlainPort}
use Rattle.cal_ast.specs.Tree as calyx
use Rattle.cal_ast.specs.Tree.{PortName, own, port_of}
use Rattle.fil_ast.proofs.UseLemmas.{parts_of}
use Rattle.fil_ast.specs.Behaviours.{timed_event, timed_port}
use Rattle.fil_ast.specs.Connections.{connected_at}
use Rattle.fil_ast.specs.Holds.{uses_of}
use Rattle.fil_ast.specs.Items.{TheEnd}
use Rattle.fil_ast.specs.Naming.{NamesEvent}
use Rattle.fil_ast.specs.Plain as fil_names
use Rattle.fil_ast.specs.Plain.{IsPlainComponent}
use Rattle.fil_ast.specs.Rules.{F1}
use Rattle.fil_ast.specs.Scope.{Instance, Invocation, instance_named}
use Rattle.fil_ast.specs.Signature.{event_number, sig_event, sig_port}
use Rattle.fil_ast.specs.Timeline as timeline
use Rattle.fil_ast.specs.Timeline.{IsUse}
use Rattle.fil_ast.specs.Tree.{DataPort, Design, Connect, TimeAt, ValueTree}
use Rattle.fil_ast.specs.Wires.{whole_scope}
use Rattle.fil_promise.specs.Refines as wires
use Rattle.fil_share.proofs.ListLemmas.{Contains-at}
use Rattle.fil_share.proofs.OwnLemmas.{names_of}
use Rattle.fil_lower.specs.inside.Lowered.{IsLowered, LoweredRun, StartsIn, drives, source_in, values_where}
use Rattle.fil_lower.specs.inside.Lowering.{Lowering, bit_at, go_of, lowered_component, lowered_value, lowering_with, starting_bits}
use Rattle.fil_lower.specs.inside.Plan.{Literal, Plan, Slot, Use}
use Rattle.fil_lower.specs.inside.PlanOf.{behaviour_made, nothing_promised, plan_of, resolved_calls, slot_of, source_of}
use Rattle.fil_lower.specs.inside.PlanRules.{IsEvent}
use Rattle.fil_lower.proofs.ArgumentLemmas.{arguments_are, rows}
use Rattle.fil_lower.proofs.BitLemmas.{among_on, on_among, some_on, was_on, was_on_from, was_on_parts}
use Rattle.fil_lower.proofs.CallLemmas.{IsCalled, all_called, signature_is}
use Rattle.fil_lower.proofs.FeedLemmas.{always_fed, fed_rows}
use Rattle.fil_lower.proofs.FoundPortLemmas.{own_driven, own_ports}
use Rattle.fil_lower.proofs.GuardLemmas.{bit_was_on, use_wants}
use Rattle.fil_lower.proofs.InvocationLemmas.{IsSlotUse, call_of_use, use_of_slot}
use Rattle.fil_lower.proofs.ListLemmas.{contains_none}
use Rattle.fil_lower.proofs.LoweredParts.{LoweredComp, StandingComp}
use Rattle.fil_lower.proofs.NameLemmas.{from_map}
use Rattle.fil_lower.proofs.PlanLemmas.{connected_where}
use Rattle.fil_lower.proofs.PortLemmas.{IsInstance, data_values, go_values, own_values, pins, plain_name, port_has}
use Rattle.fil_lower.proofs.SourceLemmas.{known_stays, reads_same}
use Rattle.fil_lower.proofs.TimedAsLemmas.{contains_map, number_of}
use Rattle.fil_lower.proofs.UseLemmas.{all_uses}
use Rattle.fil_lower.proofs.UseBitLemmas.{IsUseBit, bit_of_use, use_of_bit}
use Rattle.fil_lower.proofs.WellLemmas.{connected_some, plans_well_timed}

-- ---- rows

one_if : (b : Bool) → settled (if b then 1 ∷ [] else []) ≡ 1 → b ≡ true
one_if true is = refl
one_if false is = absurd (cc)

module _ (comp : LoweredComp) (standing : StandingComp comp) where
  open comp use {pair, pair.{comps, rules, plain, design, lowered}, n, c, here, registers, enough, new}
  open standing use {below_top, below_top.{top, asked, inputs, loads, height, trace, run}, path, at, plain_sets}

  abbrev earlier : Design
  earlier = take n comps

  abbrev l : Lowering
  l = lowering_with (take n comps) c registers

  abbrev plan : Plan
  plan = plan_of (take n comps) c

  abbrev low : calyx.Component
  low = lowered_component l

  abbrev seen : Text → ℕ → ℕ
  seen go u = trace u (full_name path go)

  abbrev pub shown : LoweredRun
  shown = rows comp standing

  -- an instance that promises something
  instance_by : (inst : Text) → ((o : Option Instance) → instance_named (whole_scope earlier c).instances inst ≡ o → o ≡ None → ⊥) → IsInstance comp inst
  instance_by inst some = by (instance_named (whole_scope earlier c).instances inst) refl
    where
      by : (o : Option Instance) → instance_named (whole_scope earlier c).instances inst ≡ o → IsInstance comp inst
      by None none = absurd (some None none refl)
      by (Some i) found = let s = signature_is comps rules n c here inst i found in record { i = i; found = found; sig = s.0; signed = s.1 }

  pub of_input : (inst : Text) (p : TimedPort) → Contains (plan.callee inst).sig.ins p → IsInstance comp inst
  of_input inst p has =
      instance_by inst (λ o is none.
      contains_none p (subst (λ (o : Option Instance). Contains (option_map_or (behaviour_made earlier) o nothing_promised).sig.ins p) (is ∙ none) has))

  pub of_event : (inst : Text) (k : ℕ) (event : TimedEvent) → slice_get (plan.callee inst).sig.events k ≡ Some event → IsInstance comp inst
  of_event inst k event at_k =
      instance_by inst (λ o is none.
      none-some event (subst (λ (o : Option Instance). slice_get (option_map_or (behaviour_made earlier) o nothing_promised).sig.events k ≡ Some event) (is ∙ none) at_k))

  -- the port of an instance, by its full name
  cell_name : (inst pin : Text) → full_name (path ++ inst ∷ []) pin ≡ port_at path (Some inst) pin
  cell_name inst pin = full_name-append path inst pin

  module _ (r : ℕ) (below : r < height) where
    -- ---- arguments

    driven : (inst : Text) (p : TimedPort) → (has : Contains (plan.callee inst).sig.ins p) →
        trace r (full_name (path ++ inst ∷ []) p.name) ≡ settled (values_where (drives shown inst p.name r) (λ (call : Use). source_in shown (trace r) (call.args p.name)) plan.uses)
    driven inst p has =
        let is = of_input inst p has in
        let h = pins comp inst is in
        let there = h.data_pin p has in
        let plain_port : IsPlainPort (port_of inst p.name) = (plain_name comp inst is, All-contains IsPlain _ p.name h.plain there) in
        ap (trace r) (cell_name inst p.name)
        ∙ port_has comp standing (Some inst) p.name (cell_input_destination design low inst p.name there) plain_port r below
        ∙ ap settled (data_values comp inst is (look path (trace r)) p has
        ∙ arguments_are comp standing r below inst p has)

    -- ---- starts

    -- the bit at which a use starts an event of its instance
    use_bit : (v : Invocation) → Contains l.scope.invocations v → (u : timeline.Use) → Contains (uses_of l.scope v) u → (event : TimedEvent) → IsEvent plan.sig (event_number c.events u.at.event) event → (go : Text) → event.go ≡ Some go →
        (look path (trace r) (bit_at l u.at.event u.at.plus) == 1) ≡ was_on (seen go) r u.at.plus
    use_bit v has_v u has_u event is go is_go =
        let f : IsCalled earlier c v = All-contains (IsCalled earlier c) l.scope.invocations v (all_called comps rules n c here) has_v in
        let used : IsUse f.sig v.inst v.gives.times u = All-contains (IsUse f.sig v.inst v.gives.times) (uses_of l.scope v) u (all_uses l.scope v f.sig f.signed) has_u in
        let k = event_number c.events u.at.event in
        let e = number_of c.events u.at.event (All-contains (λ (t : TimeAt). NamesEvent c t.event) v.gives.times u.at f.times (Contains-at v.gives.times u.event u.at (parts_of used).time)) in
        let own_event : slice_get plan.sig.events k ≡ Some (timed_event (sig_event c.interfaces e.0)) =
        slice_get-map timed_event (map (sig_event c.interfaces) c.events) k ∙ ap (option_map timed_event) (slice_get-map (sig_event c.interfaces) c.events k ∙ ap (option_map (sig_event c.interfaces)) e.1) in
        let same : timed_event (sig_event c.interfaces e.0) ≡ event = same_Some (timed_event (sig_event c.interfaces e.0)) event (sym own_event ∙ is) in
        let interface : go_of l e.0.name ≡ Some go = ap (λ (x : TimedEvent). x.go) same ∙ is_go in
        let most = use_wants l e.0.name go interface v has_v u has_u (sym e.2) in
        ap (λ (name : Text). look path (trace r) (bit_at l name u.at.plus) == 1) (sym e.2)
        ∙ bit_was_on comp standing k e.0 e.1 go interface u.at.plus most r below

    abbrev IsStarted : Text → ℕ → Type 0
    IsStarted inst k = (call : Use) × Contains plan.uses call × (call.inst ≡ inst) × (slot : Slot) × Contains call.slots slot × (slot.target ≡ k) × (u : ℕ) × (u + slot.plus ≡ r) × StartsIn plan shown slot.event u

    module _ (inst : Text) (k : ℕ) (event : TimedEvent) (go : Text) (is : IsEvent (plan.callee inst).sig k event) (is_go : event.go ≡ Some go) where
      -- a bit that is 1 is a start
      bit_starts : (bit : PortName) → IsUseBit comp inst k bit → look path (trace r) bit ≡ 1 → IsStarted inst k
      bit_starts bit b on =
          let u = b.use_at in
          let x = call_of_use comps rules n c here b.v b.has_v u b.has_use in
          let of_inst : x.call.inst ≡ inst = x.inst ∙ b.of_inst in
          let t = (plans_well_timed comps rules n c here).triggered x.call x.has_call (slot_of c u) x.has_slot in
          let theirs : event ≡ t.theirs =
          same_Some event t.theirs (sym is ∙ ap (slice_get (plan.callee inst).sig.events) (sym b.target) ∙ ap (λ (y : Text). slice_get (plan.callee y).sig.events u.event) (sym of_inst) ∙ t.is_theirs) in
          let ours = t.go go (ap (λ (e : TimedEvent). e.go) (sym theirs) ∙ is_go) in
          let shows = use_bit b.v b.has_v u b.has_use t.own t.is_own ours.0 ours.1 in
          let on_bit : (look path (trace r) (bit_at l u.at.event u.at.plus) == 1) ≡ true = (Decides-eqb (look path (trace r) (bit_at l u.at.event u.at.plus)) 1).1 (ap (look path (trace r)) b.is ∙ on) in
          let p = was_on_parts (seen ours.0) r u.at.plus (sym shows ∙ on_bit) in
          (x.call, x.has_call, of_inst, slot_of c u, x.has_slot, b.target, r - u.at.plus, omega (arith, p.0), record { event = t.own; is = t.is_own; go = ours.0; has = ours.1; on = p.1 })

      -- and a start a bit that is 1
      start_on : (call : Use) (slot : Slot) → IsSlotUse comps rules n c here call slot → call.inst ≡ inst → slot.target ≡ k → (u : ℕ) → u + slot.plus ≡ r → StartsIn plan shown slot.event u → some_on (look path (trace r)) (starting_bits l inst k) ≡ true
      start_on call slot s of_inst target u sum start =
          let x = s.use_at in
          let number : event_number c.events x.at.event ≡ slot.event = ap (λ (y : Slot). y.event) s.is in
          let plus : x.at.plus ≡ slot.plus = ap (λ (y : Slot). y.plus) s.is in
          let there = bit_of_use comp inst k s.v s.has_v x s.has_use (s.inst ∙ of_inst) (ap (λ (y : Slot). y.target) s.is ∙ target) in
          let shows = use_bit s.v s.has_v x s.has_use start.event (ap (slice_get plan.sig.events) number ∙ start.is) start.go start.has in
          let on = was_on_from (seen start.go) r x.at.plus u (omega (arith, plus, sum)) start.on in
          among_on (look path (trace r)) (starting_bits l inst k) (bit_at l x.at.event x.at.plus) there ((Decides-eqb (look path (trace r) (bit_at l x.at.event x.at.plus)) 1).0 (shows ∙ on))

      started : (trace r (full_name (path ++ inst ∷ []) go) ≡ 1) ↔ IsStarted inst k
      started =
          let instance = of_event inst k event is in
          let h = pins comp inst instance in
          let there = h.go_pin k event go is is_go in
          let plain_port : IsPlainPort (port_of inst go) = (plain_name comp inst instance, All-contains IsPlain _ go h.plain there) in
          let value : trace r (full_name (path ++ inst ∷ []) go) ≡ settled (if some_on (look path (trace r)) (starting_bits l inst k) then 1 ∷ [] else []) =
          ap (trace r) (cell_name inst go)
          ∙ port_has comp standing (Some inst) go (cell_input_destination design low inst go there) plain_port r below
          ∙ ap settled (go_values comp inst instance (look path (trace r)) k event go is is_go) in (
            (λ one. let on = on_among (look path (trace r)) (starting_bits l inst k) (one_if (some_on (look path (trace r)) (starting_bits l inst k)) (sym value ∙ one)) in bit_starts on.0 (use_of_bit comp inst k on.0 on.1) on.2),
            λ s. value ∙ ap (λ (b : Bool). settled (if b then 1 ∷ [] else [])) (start_on s.0 s.3 (use_of_slot comps rules n c here s.0 s.1 s.3 s.4) s.2 s.5 s.6 s.7 s.8),
          )

    -- ---- outputs

    connected : (p : TimedPort) → Contains plan.sig.outs p → trace r (full_name path p.name) ≡ source_in shown (trace r) (plan.outputs p.name)
    connected p has =
        let m = from_map timed_port (map (sig_port c.events) c.outs) p has in
        let d = from_map (sig_port c.events) c.outs m.0 m.1 in
        let is_name : d.0.name ≡ p.name = ap (λ (x : TimedPort). x.name) (ap timed_port d.2 ∙ m.2) in
        let ends : All (λ (x : DataPort). Contains (flat_map connected_at c.body) x.name) c.outs = rules.keeps n c here (suc (length c.body)) TheEnd (inr (refl, refl)) 8 F1 (omega arith) in
        let arg = connected_some comps rules n c here c.body d.0.name (All-contains (λ (x : DataPort). Contains (flat_map connected_at c.body) x.name) c.outs d.0 ends d.1) in
        let w = connected_where c.body d.0.name arg.0 arg.1 in
        let within = slice_get_within c.body w.k (Connect d.0.name arg.0) w.at in
        let known = (names_of comps rules n c here).known_names w.k (Connect d.0.name arg.0) w.at in
        let out_pin : DataPort → Pin = λ x. record { name = x.name; width = x.width } in
        let is_driven = own_driven design low (wires.inputs_of c) (wires.outputs_of c) refl (own_ports comps rules design lowered n c here registers new) (out_pin d.0) (contains_map out_pin c.outs d.0 d.1) in
        let p_plain : IsPlainComponent c = All-contains IsPlainComponent comps c plain (Contains-at comps n c here) in
        let plain_pin : IsPlain d.0.name = All-contains fil_names.IsPlainPort c.outs d.0 p_plain.outs d.1 in
        let value : source_value (look path (trace r)) (lowered_value l arg.0) ≡ source_in shown (trace r) (source_of (resolved_calls earlier c) arg.0) =
        reads_same comps rules n c here registers path shown.feeds height trace (trace r) w.k (omega (arith, within)) (resolved_calls earlier c) (known_stays comps rules n c here w.k) arg.0 known.1 in
        ap (λ (x : Text). trace r (full_name path x)) (sym is_name)
        ∙ port_has comp standing None d.0.name is_driven.destination (tt, plain_pin) r below
        ∙ ap settled (own_values comp (look path (trace r)) d.0.name arg.0 w.k w.at)
        ∙ value
        ∙ sym (ap (λ (o : Option ValueTree). source_in shown (trace r) (option_map_or (source_of (resolved_calls earlier c)) o (Literal 0))) arg.1)
        ∙ ap (λ (x : Text). source_in shown (trace r) (plan.outputs x)) is_name

  pub is_lowered : IsLowered plan shown
  is_lowered = record {
    driven = driven;
    fed = λ r below. fed_rows comps rules n c here shown.own shown.cell height trace r;
    always = λ r below. always_fed comps rules n c here shown.own shown.cell height trace r;
    started = started;
    connected = connected;
  }
