-- What a component's wires do as its text says it, and as its plan does: the same.
use Rattle.std.proofs.Common.{◌≡◌, ◌↔◌, ℕ, ◌+◌, ◌<◌, ◌≤◌, Bool, true, List, [], ◌∷◌, length, map, take, get_or, slice_get, Contains, Option, Some, None, option_map, refl, sym, ap, subst, ◌∙◌, inl, inr, arith}
use Rattle.std.specs.List.{AllZip}
use Rattle.std.specs.Prelude.{AllPairs, bytes_eq}
use Rattle.std.proofs.lemmas.Bool.{and_from, and_parts}
use Rattle.std.proofs.lemmas.List.{get_or-map, length-map}
use Rattle.std.proofs.lemmas.List.Elements.{All-contains}
use Rattle.std.proofs.lemmas.Option.{none-some, same_Some, slice_get-map, slice_get_within}
use Rattle.std.proofs.lemmas.Slice.Eq.{bytes_eq-Decides}
use Rattle.hw_names.specs.Name.{Text}
use Rattle.hw_names.proofs.NameLemmas.{same_number}
use Rattle.hw_prims.specs.Row.{Row}
use Rattle.hw_prims.specs.Timed.{TimedEvent, TimedPort, end_of}
use Rattle.fil_ast.proofs.HoldLemmas.{use_listed, uses_by_call}
use Rattle.fil_ast.proofs.UseLemmas.{parts_of}
use Rattle.fil_ast.specs.Behaviours.{timed_event, timed_port}
use Rattle.fil_ast.specs.Holds.{uses_of}
use Rattle.fil_ast.specs.Items.{scope_after}
use Rattle.fil_ast.specs.Naming.{IsKnownValue, NamesEvent}
use Rattle.fil_ast.specs.Rules.{FilRules}
use Rattle.fil_ast.specs.Scope.{Scope, Invocation, instance_signature}
use Rattle.fil_ast.specs.Sharing.{IsUseOf}
use Rattle.fil_ast.specs.Signature.{SigPort, Signature, event_number, interface_of, sig_event}
use Rattle.fil_ast.specs.Timeline as timeline
use Rattle.fil_ast.specs.Timeline.{interval_at, interval_between}
use Rattle.fil_ast.specs.Tree as tree
use Rattle.fil_ast.specs.Tree.{Component, Design, Event, TimeAt, ValueTree, InputValue, OutputValue}
use Rattle.fil_ast.specs.Wires.{whole_scope}
use Rattle.fil_share.proofs.ListLemmas.{Contains-at, Contains-here, Contains-there}
use Rattle.fil_lower.specs.Wires as wires
use Rattle.fil_lower.specs.Wires.{ComponentRun, Drives, IsDuring, Starts, value_seen}
use Rattle.fil_lower.specs.inside.Lowered.{LoweredRun, StartsIn, drives, source_in}
use Rattle.fil_lower.specs.inside.Plan.{Plan, Slot, Use}
use Rattle.fil_lower.specs.inside.PlanOf.{Resolved, call_named, callee_of, output_of_call, plan_of, resolved_calls, slot_of, source_of}
use Rattle.fil_lower.specs.inside.PlanRules.{IsEvent}
use Rattle.fil_lower.proofs.CallLemmas.{IsCalled, all_called}
use Rattle.fil_lower.proofs.InvocationLemmas.{IsArgument, args_known, argument_of, argument_source, call_of_use, use_of_slot, zip_left, zip_right}
use Rattle.fil_lower.proofs.NameLemmas.{from_map, sig_names}
use Rattle.fil_lower.proofs.SourceLemmas.{IsMadeAt, all_made, known_before, named_call}
use Rattle.fil_lower.proofs.TimedAsLemmas.{contains_map, number_of}
use Rattle.fil_lower.proofs.WellLemmas.{timed}

pub pairs_unmap : {X Y : Type 0} (R : Y → Y → Type 0) (f : X → Y) (xs : List X) → AllPairs R (map f xs) → AllPairs (λ (a b : X). R (f a) (f b)) xs
pairs_unmap {X} {Y} R f xs pairs i j d less within =
    let j_in : j < length (map f xs) = omega (arith, within, length-map xs f) in
    subst (λ (a : Y). R a (f (get_or xs j d))) (get_or-map f xs i d (f d) (omega (arith, less, within)))
    (subst (λ (b : Y). R (get_or (map f xs) i (f d)) b) (get_or-map f xs j d (f d) within) (pairs i j (f d) less j_in))

module _ (comps : Design) (rules : FilRules comps) (n : ℕ) (c : Component) (here : slice_get comps n ≡ Some c) (run : ComponentRun) (feeds : Use → Text → ℕ → Bool) where
  abbrev earlier : Design
  earlier = take n comps

  abbrev scope : Scope
  scope = whole_scope earlier c

  abbrev plan : Plan
  plan = plan_of earlier c

  abbrev pub plan_rows : LoweredRun
  plan_rows = record { own = run.own; cell = run.cell; feeds = feeds; height = run.height; trace = run.trace }

  -- ---- starts of the component's events

  own_at : (name : Text) (e : Event) → slice_get c.events (event_number c.events name) ≡ Some e → IsEvent plan.sig (event_number c.events name) (timed_event (sig_event c.interfaces e))
  own_at name e at =
      let k = event_number c.events name in
      slice_get-map timed_event (map (sig_event c.interfaces) c.events) k ∙ ap (option_map timed_event) (slice_get-map (sig_event c.interfaces) c.events k ∙ ap (option_map (sig_event c.interfaces)) at)

  start_planned : (name : Text) (t : ℕ) → NamesEvent c name → wires.StartsIn c run name t → StartsIn plan plan_rows (event_number c.events name) t
  start_planned name t names s =
      let e = number_of c.events name names in
      record { event = timed_event (sig_event c.interfaces e.0); is = own_at name e.0 e.1; go = s.go; has = ap (interface_of c.interfaces) e.2 ∙ s.has; on = s.on }

  start_told : (name : Text) (t : ℕ) → NamesEvent c name → StartsIn plan plan_rows (event_number c.events name) t → wires.StartsIn c run name t
  start_told name t names s =
      let e = number_of c.events name names in
      let same : timed_event (sig_event c.interfaces e.0) ≡ s.event = same_Some (timed_event (sig_event c.interfaces e.0)) s.event (sym (own_at name e.0 e.1) ∙ s.is) in
      record { go = s.go; has = ap (interface_of c.interfaces) (sym e.2) ∙ ap (λ (x : TimedEvent). x.go) same ∙ s.has; on = s.on }

  -- ---- invocations

  called : (v : Invocation) → Contains scope.invocations v → IsCalled earlier c v
  called v has = All-contains (IsCalled earlier c) scope.invocations v (all_called comps rules n c here) has

  -- a time of an invocation names an event
  time_named : (v : Invocation) → IsCalled earlier c v → (k : ℕ) (t : TimeAt) → slice_get v.gives.times k ≡ Some t → NamesEvent c t.event
  time_named v f k t at = All-contains (λ (t : TimeAt). NamesEvent c t.event) v.gives.times t f.times (Contains-at v.gives.times k t at)

  use_named : (v : Invocation) → Contains scope.invocations v → (u : timeline.Use) → IsUseOf scope v u → NamesEvent c u.at.event
  use_named v has u uses = time_named v (called v has) u.event u.at (parts_of uses.2).time

  -- an invocation, and what it is in the plan
  pub record IsPair (v : Invocation) (x : Resolved) : Type 0 where
    pub has_v : Contains scope.invocations v
    pub has_call : Contains plan.uses x.call
    pub made : IsMadeAt comps rules n c here v x

  pair_inst : (v : Invocation) (x : Resolved) → IsPair v x → v.inst ≡ x.call.inst
  pair_inst v x pair = ap (λ (y : Resolved). y.call.inst) pair.made.is

  pub pair_of : (v : Invocation) → Contains scope.invocations v → (x : Resolved) × IsPair v x
  pair_of v has =
      let z = zip_left (IsMadeAt comps rules n c here) scope.invocations (resolved_calls earlier c) v (all_made comps rules n c here) has in
      (z.0, record { has_v = has; has_call = contains_map (λ (x : Resolved). x.call) (resolved_calls earlier c) z.0 z.1; made = z.2 })

  pub pair_for : (call : Use) → Contains plan.uses call → (v : Invocation) × (x : Resolved) × IsPair v x × (x.call ≡ call)
  pair_for call has =
      let x = from_map (λ (y : Resolved). y.call) (resolved_calls earlier c) call has in
      let z = zip_right (IsMadeAt comps rules n c here) scope.invocations (resolved_calls earlier c) x.0 (all_made comps rules n c here) x.1 in
      (z.0, x.0, record { has_v = z.1; has_call = contains_map (λ (y : Resolved). y.call) (resolved_calls earlier c) x.0 x.1; made = z.2 }, x.2)

  -- all of them, place by place
  paired : (vs : List Invocation) (xs : List Resolved) → AllZip (IsMadeAt comps rules n c here) vs xs → ((v : Invocation) → Contains vs v → Contains scope.invocations v) → ((x : Resolved) → Contains xs x → Contains plan.uses x.call) →
      AllZip IsPair vs xs
  paired [] [] zip in_v in_x = tt
  paired [] (x ∷ xs) zip in_v in_x = absurd zip
  paired (v ∷ vs) [] zip in_v in_x = absurd zip
  paired (v ∷ vs) (x ∷ xs) zip in_v in_x = (
    record { has_v = in_v v (Contains-here v vs); has_call = in_x x (Contains-here x xs); made = zip.0 },
    paired vs xs zip.1 (λ w has. in_v w (Contains-there v vs w has)) (λ y has. in_x y (Contains-there x xs y has)),
  )

  pub all_pairs : AllZip IsPair scope.invocations (resolved_calls earlier c)
  all_pairs =
      paired scope.invocations (resolved_calls earlier c) (all_made comps rules n c here) (λ v has. has)
      (λ x has. contains_map (λ (y : Resolved). y.call) (resolved_calls earlier c) x has)

  -- ---- values

  -- a value that is known before a statement, as a row has it
  pub value_planned : (k : ℕ) → k ≤ length c.body → (rs : List Resolved) → ((name : Text) (call : Use) → call_named (known_before comps rules n c here k) name ≡ Some call → call_named rs name ≡ Some call) →
      (value : ValueTree) → IsKnownValue (scope_after earlier c (take k c.body)) value → (row : Row) → value_seen scope run row value ≡ source_in plan_rows row (source_of rs value)
  value_planned k within rs extends (InputValue name) known row = refl
  value_planned k within rs extends (tree.Literal width value) known row = refl
  value_planned k within rs extends (OutputValue invocation port) known row =
      let m = named_call comps rules n c here k within rs extends invocation port known in
      ap (λ (inst : Text). row (run.cell inst port)) m.2 ∙ sym (ap (λ (o : Option Use). source_in plan_rows row (output_of_call o port)) m.1)

  argument_planned : (v : Invocation) (x : Resolved) (pair : IsPair v x) (p : TimedPort) (a : IsArgument comps rules n c here v (called v pair.has_v) p) (row : Row) →
      value_seen scope run row a.arg ≡ source_in plan_rows row (x.call.args a.q.name)
  argument_planned v x pair p a row =
      let m = pair.made in
      let within = slice_get_within c.body m.k m.s m.at in
      value_planned m.k (omega (arith, within)) (known_before comps rules n c here m.k) (λ name call is. is) a.arg
      (All-contains (IsKnownValue (scope_after earlier c (take m.k c.body))) v.gives.args a.arg (args_known comps rules n c here m.k m.s m.at v m.only) (Contains-at v.gives.args a.k a.arg a.at_arg)) row
      ∙ ap (source_in plan_rows row) (sym (argument_source comps rules n c here v (called v pair.has_v) m.k x.call (ap (λ (y : Resolved). y.call) m.is) p a))

  -- ---- when arguments drive

  -- as in a lowered component
  pub record AreFed : Type 0 where
    pub fed : (r : ℕ) → r < run.height → (call : Use) → Contains plan.uses call → (slot : Slot) → Contains call.slots slot → (p : TimedPort) → Contains (plan.callee call.inst).sig.ins p → p.event ≡ slot.target →
        (event : TimedEvent) (go : Text) → IsEvent plan.sig slot.event event → event.go ≡ Some go →
        (feeds call p.name r ≡ true) ↔ ((u : ℕ) × StartsIn plan plan_rows slot.event u × (u + slot.plus + p.from ≤ r) × (r < u + slot.plus + end_of p slot.hold))
    pub always : (r : ℕ) → r < run.height → (call : Use) → Contains plan.uses call → (slot : Slot) → Contains call.slots slot → (p : TimedPort) → Contains (plan.callee call.inst).sig.ins p → p.event ≡ slot.target →
        (event : TimedEvent) → IsEvent plan.sig slot.event event → event.go ≡ None → feeds call p.name r ≡ true

  module _ (are : AreFed) (r : ℕ) (below : r < run.height) where
    module _ (v : Invocation) (x : Resolved) (pair : IsPair v x) where
      -- the argument of an input
      abbrev Argument : TimedPort → Type 0
      Argument p = IsArgument comps rules n c here v (called v pair.has_v) p

      -- it drives where the row is in its need
      during : (p : TimedPort) (a : Argument p) → Contains (plan.callee x.call.inst).sig.ins (timed_port a.q) → (feeds x.call a.q.name r ≡ true) ↔ IsDuring c run (interval_between a.use_at.at a.use_at.at a.q) r
      during p a has_q = by (interface_of c.interfaces a.event.name) refl
        where
          names : NamesEvent c a.use_at.at.event
          names = use_named v pair.has_v a.use_at ((called v pair.has_v).sig, (called v pair.has_v).signed, a.used)

          has_slot : Contains x.call.slots (slot_of c a.use_at)
          has_slot =
              subst (λ (y : Resolved). Contains y.call.slots (slot_of c a.use_at)) pair.made.is
              (contains_map (slot_of c) (uses_of scope v) a.use_at (use_listed scope v a.use_at ((called v pair.has_v).sig, (called v pair.has_v).signed, a.used)))

          by : (o : Option Text) → interface_of c.interfaces a.event.name ≡ o → (feeds x.call a.q.name r ≡ true) ↔ IsDuring c run (interval_between a.use_at.at a.use_at.at a.q) r
          by None none = (
            λ fed. inr (ap (interface_of c.interfaces) (sym a.event_named) ∙ none),
            λ now. are.always r below x.call pair.has_call (slot_of c a.use_at) has_slot (timed_port a.q) has_q (sym a.number) (timed_event (sig_event c.interfaces a.event)) (own_at a.use_at.at.event a.event a.at_event) none,
          )
          by (Some go) some =
              let w = are.fed r below x.call pair.has_call (slot_of c a.use_at) has_slot (timed_port a.q) has_q (sym a.number) (timed_event (sig_event c.interfaces a.event)) go (own_at a.use_at.at.event a.event a.at_event) some in (
                (λ fed.
                    let m = w.0 fed in
                    inl (record { start = m.0; started = start_told a.use_at.at.event m.0 names m.1; from = omega (arith, m.2); to = omega (arith, m.3) })),
                λ now. elim now [
                  | inl s ↦ w.1 (s.start, start_planned a.use_at.at.event s.start names s.started, omega (arith, s.from), omega (arith, s.to))
                  | inr none ↦ absurd (none-some go (sym none ∙ ap (interface_of c.interfaces) (sym a.event_named) ∙ some))
                ],
              )

      in_call : (q : SigPort) → Contains (callee_of earlier c v.inst).sig.ins (timed_port q) → Contains (plan.callee x.call.inst).sig.ins (timed_port q)
      in_call q has = subst (λ (inst : Text). Contains (callee_of earlier c inst).sig.ins (timed_port q)) (pair_inst v x pair) has

      -- its value in a row
      argument_seen : (p : TimedPort) (has : Contains (callee_of earlier c v.inst).sig.ins p) (row : Row) →
          value_seen scope run row (argument_of comps rules n c here v (called v pair.has_v) p has).arg ≡ source_in plan_rows row (x.call.args p.name)
      argument_seen p has row =
          let a = argument_of comps rules n c here v (called v pair.has_v) p has in
          argument_planned v x pair p a row ∙ ap (λ (name : Text). source_in plan_rows row (x.call.args name)) (ap (λ (y : TimedPort). y.name) a.is)

      -- where it drives, the invocation gives its value
      pub given_where : (p : TimedPort) (has : Contains (callee_of earlier c v.inst).sig.ins p) → feeds x.call p.name r ≡ true → (inst : Text) → v.inst ≡ inst →
          (value : ValueTree) × Drives scope run inst p.name r v value × ((row : Row) → value_seen scope run row value ≡ source_in plan_rows row (x.call.args p.name))
      given_where p has fed inst of_inst =
          let f = called v pair.has_v in
          let a = argument_of comps rules n c here v (called v pair.has_v) p has in
          let is_name : a.q.name ≡ p.name = ap (λ (y : TimedPort). y.name) a.is in
          let has_q = in_call a.q (subst (λ (y : TimedPort). Contains (callee_of earlier c v.inst).sig.ins y) (sym a.is) has) in (
            a.arg,
            record {
              invoked = pair.has_v;
              of_inst = of_inst;
              signature = f.sig;
              signed = ap (instance_signature scope) (sym of_inst) ∙ f.signed;
              place = a.k;
              input = a.q;
              taken = a.at_q;
              is_port = is_name;
              given = a.at_arg;
              need = interval_between a.use_at.at a.use_at.at a.q;
              needed = a.between;
              now = (during p a has_q).0 (ap (λ (name : Text). feeds x.call name r) is_name ∙ fed);
            },
            argument_seen p has,
          )

      -- and where the invocation gives a value, its argument drives
      pub record IsFedBy (port : Text) (value : ValueTree) : Type 0 where
        pub p : TimedPort
        pub has : Contains (callee_of earlier c v.inst).sig.ins p
        pub is_name : p.name ≡ port
        pub fed : feeds x.call port r ≡ true
        pub seen : (row : Row) → value_seen scope run row value ≡ source_in plan_rows row (x.call.args p.name)

      pub fed_where : (inst port : Text) (value : ValueTree) → Drives scope run inst port r v value → IsFedBy port value
      fed_where inst port value g =
          let f = called v pair.has_v in
          let t = timed comps rules n c here v f in
          let name_of : SigPort → Text = λ q. q.name in
          let signed : g.signature ≡ f.sig = same_Some g.signature f.sig (sym g.signed ∙ ap (instance_signature scope) (sym g.of_inst) ∙ f.signed) in
          let taken : slice_get f.sig.ins g.place ≡ Some g.input = ap (λ (s : Signature). slice_get s.ins g.place) (sym signed) ∙ g.taken in
          let has : Contains (callee_of earlier c v.inst).sig.ins (timed_port g.input) =
          subst (λ (ps : List TimedPort). Contains ps (timed_port g.input)) (sym t.ins_are) (contains_map timed_port f.sig.ins g.input (Contains-at f.sig.ins g.place g.input taken)) in
          let a = argument_of comps rules n c here v (called v pair.has_v) (timed_port g.input) has in
          let names : a.q.name ≡ g.input.name = ap (λ (y : TimedPort). y.name) a.is in
          let place : a.k ≡ g.place =
          same_number (sig_names f.sig.ins) a.k g.place g.input.name t.distinct (slice_get-map name_of f.sig.ins a.k ∙ ap (option_map name_of) a.at_q ∙ ap Some names) (slice_get-map name_of f.sig.ins g.place ∙ ap (option_map name_of) taken) in
          let input : a.q ≡ g.input = same_Some a.q g.input (sym a.at_q ∙ ap (slice_get f.sig.ins) place ∙ taken) in
          let need : interval_between a.use_at.at a.use_at.at a.q ≡ g.need =
          same_Some (interval_between a.use_at.at a.use_at.at a.q) g.need (sym a.between ∙ ap (interval_at v.gives.times) input ∙ g.needed) in
          let argument : a.arg ≡ value = same_Some a.arg value (sym a.at_arg ∙ ap (slice_get v.gives.args) place ∙ g.given) in
          let has_q = in_call a.q (subst (λ (y : TimedPort). Contains (callee_of earlier c v.inst).sig.ins y) (sym a.is) has) in
          record {
            p = timed_port g.input;
            has = has;
            is_name = g.is_port;
            fed =
                ap (λ (name : Text). feeds x.call name r) (sym g.is_port ∙ sym names)
                ∙ (during (timed_port g.input) a has_q).1 (subst (λ (i : timeline.Interval). IsDuring c run i r) (sym need) g.now);
            seen = λ row. ap (value_seen scope run row) (sym argument) ∙ argument_seen (timed_port g.input) has row;
          }

      -- the test of the plan
      pub drives_where : (inst port : Text) (value : ValueTree) → Drives scope run inst port r v value → drives plan_rows inst port r x.call ≡ true
      drives_where inst port value g =
          and_from (bytes_eq x.call.inst inst) (feeds x.call port r) ((bytes_eq-Decides x.call.inst inst).1 (sym (pair_inst v x pair) ∙ g.of_inst)) (fed_where inst port value g).fed

      pub given_by_test : (inst : Text) (p : TimedPort) → Contains (callee_of earlier c inst).sig.ins p → drives plan_rows inst p.name r x.call ≡ true → (value : ValueTree) × Drives scope run inst p.name r v value
      given_by_test inst p has is =
          let both = and_parts (bytes_eq x.call.inst inst) (feeds x.call p.name r) is in
          let of_inst : v.inst ≡ inst = pair_inst v x pair ∙ (bytes_eq-Decides x.call.inst inst).0 both.0 in
          let has_v = subst (λ (name : Text). Contains (callee_of earlier c name).sig.ins p) (sym of_inst) has in
          let g = given_where p has_v both.1 inst of_inst in (g.0, g.1)

  -- ---- starts of an instance's events

  abbrev pub IsStarted : Text → ℕ → ℕ → Type 0
  IsStarted inst k r = (call : Use) × Contains plan.uses call × (call.inst ≡ inst) × (slot : Slot) × Contains call.slots slot × (slot.target ≡ k) × (u : ℕ) × (u + slot.plus ≡ r) × StartsIn plan plan_rows slot.event u

  pub starts_planned : (inst : Text) (k r : ℕ) → Starts scope run inst k r → IsStarted inst k r
  starts_planned inst k r s =
      let u = s.use_at in
      let x = call_of_use comps rules n c here s.invocation s.invoked u (use_listed scope s.invocation u s.uses) in
      (x.call, x.has_call, x.inst ∙ s.of_inst, slot_of c u, x.has_slot, s.of_event, s.start, s.now, start_planned u.at.event s.start (use_named s.invocation s.invoked u s.uses) s.started)

  pub starts_told : (inst : Text) (k r : ℕ) → IsStarted inst k r → Starts scope run inst k r
  starts_told inst k r (call, has, of_inst, slot, has_slot, target, t, sum, start) =
      let y = use_of_slot comps rules n c here call has slot has_slot in
      let u = y.use_at in
      let uses : IsUseOf scope y.v u = All-contains (IsUseOf scope y.v) (uses_of scope y.v) u (uses_by_call scope y.v).0 y.has_use in
      let plus : u.at.plus ≡ slot.plus = ap (λ (z : Slot). z.plus) y.is in
      record {
        invocation = y.v;
        invoked = y.has_v;
        use_at = u;
        uses = uses;
        of_inst = y.inst ∙ of_inst;
        of_event = ap (λ (z : Slot). z.target) y.is ∙ target;
        start = t;
        started = start_told u.at.event t (use_named y.v y.has_v u uses) (subst (λ (k : ℕ). StartsIn plan plan_rows k t) (sym (ap (λ (z : Slot). z.event) y.is)) start);
        now = omega (arith, plus, sum);
      }
