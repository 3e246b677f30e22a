-- The plan of a component that keeps the rules keeps Filament's rules of time.
use Rattle.std.proofs.Common.{◌≡◌, ◌≢◌, ℕ, zero, suc, ◌+◌, ◌<◌, ◌≤◌, Bool, true, false, List, [], ◌∷◌, ◌++◌, length, map, flat_map, take, drop, get_or, slice_get, All, Option, Some, None, option_map, refl, sym, ap, subst, ◌∙◌, inl, inr, add-one, arith}
use Rattle.std.specs.List.{AllZip}
use Rattle.std.specs.Option.{IfSome, option_and_then, option_map_or}
use Rattle.std.specs.Prelude.{AllPairs, Contains, bytes_eq, if◌then◌else◌}
use Rattle.std.proofs.lemmas.Bool.{false≢true}
use Rattle.std.proofs.lemmas.List.{append-nil, map-append, take-append-drop}
use Rattle.std.proofs.lemmas.List.Concat.{flat_map-append}
use Rattle.std.proofs.lemmas.List.Elements.{All-contains, All-nil, All-push, Contains-append_left}
use Rattle.std.proofs.lemmas.Option.{option_and_then_some, slice_get-get_or, slice_get-map, slice_get_within}
use Rattle.std.proofs.lemmas.Simd.{map-map}
use Rattle.std.proofs.lemmas.Slice.Eq.{bytes_eq-Decides}
use Rattle.std.proofs.Math.Seq.{take-length}
use Rattle.hw_names.specs.Name.{Text, AreDistinct}
use Rattle.hw_prims.specs.Timed.{TimedPort, end_of}
use Rattle.fil_ast.proofs.UseLemmas.{parts_of}
use Rattle.fil_ast.specs.Behaviours.{inputs_of_callee, timed_port}
use Rattle.fil_ast.specs.Connections.{ConnectsOnce, connected_at}
use Rattle.fil_ast.specs.Flow.{connected_to}
use Rattle.fil_ast.specs.Holds.{uses_of}
use Rattle.fil_ast.specs.Items.{TheEnd, scope_after}
use Rattle.fil_ast.specs.Naming.{NamesEvent, component_names}
use Rattle.fil_ast.specs.Rules.{F1, FilRules}
use Rattle.fil_ast.specs.Scope.{Instance, Invocation, Scope, instance_named, invocations_at, output_of, signature_in}
use Rattle.fil_ast.specs.Signature.{SigPort, Signature, event_number, sig_port}
use Rattle.fil_ast.specs.Timeline as timeline
use Rattle.fil_ast.specs.Timeline.{IsUse}
use Rattle.fil_ast.specs.Tree as tree
use Rattle.fil_ast.specs.Tree.{Component, DataPort, Design, Event, Statement, TimeAt, New, Call, Both, Connect, ValueTree, InputValue, OutputValue}
use Rattle.fil_ast.specs.Typing.{IsInterval}
use Rattle.fil_ast.specs.Wires.{whole_scope}
use Rattle.fil_share.proofs.ListLemmas.{All-left, Contains-at}
use Rattle.fil_share.proofs.MakesLemmas.{at_statement, flat_next, names_differ}
use Rattle.fil_share.proofs.OwnLemmas.{names_of, some_there}
use Rattle.fil_lower.specs.inside.Plan.{Slot, Source, Literal, Use}
use Rattle.fil_lower.specs.inside.PlanLaws.{PlansAreWellTimed}
use Rattle.fil_lower.specs.inside.PlanOf.{Resolved, args_of, behaviour_made, call_named, callee_of, nothing_promised, output_of_call, plan_of, resolved, resolved_after, resolved_calls, slot_of, source_of}
use Rattle.fil_lower.specs.inside.PlanRules.{AreShared, IsAvailable, IsOfUse, IsShort, IsTriggered, IsWellTimed}
use Rattle.fil_lower.proofs.AvailableLemmas.{IsResolvedAs, args_at, available, call_among, found_passes, named_more, resolved_cut, resolved_more, zip_resolved}
use Rattle.fil_lower.proofs.CallLemmas.{IsCalled, ShareWell, all_called, both_callee, call_callee, found_among, share, sound_at, sound_before, timed_as}
use Rattle.fil_lower.proofs.ListLemmas.{contains_in_flat, contains_none, first_or_later}
use Rattle.fil_lower.proofs.NameLemmas.{from_map, same_element}
use Rattle.fil_lower.proofs.SlotLemmas.{pairs_map, shared_uses, slot_for_each, slot_triggered, slots_once, zip_pairs}
use Rattle.fil_lower.proofs.PlanLemmas.{connected_where, outputs_differ}
use Rattle.fil_lower.proofs.TimedAsLemmas.{IsSound, IsTimedAs, contains_map, number_of}
use Rattle.fil_lower.proofs.UseLemmas.{all_uses, some_at}

-- the component's own events, at offset 0
abbrev time_of : Event → TimeAt
time_of e = record { event = e.name; plus = 0 }

module _ (comps : Design) (rules : FilRules comps) (n : ℕ) (c : Component) (here : slice_get comps n ≡ Some c) where
  abbrev earlier : Design
  earlier = take n comps

  abbrev invocations : List Invocation
  invocations = (whole_scope earlier c).invocations

  abbrev called : ℕ → List Invocation
  called k = flat_map invocations_at (take k c.body)

  abbrev known : ℕ → List Resolved
  known k = resolved_after earlier c [] (called k)

  distinct : AreDistinct (component_names earlier)
  distinct = names_differ comps rules n (let below = slice_get_within comps n c here in omega (arith, below))

  all : All (IsCalled earlier c) invocations
  all = all_called comps rules n c here

  pub instance_timed : (inst : Text) (i : Instance) (sig : Signature) → instance_named (whole_scope earlier c).instances inst ≡ Some i → signature_in earlier i.made i.params ≡ Some sig → IsTimedAs (callee_of earlier c inst).sig sig
  instance_timed inst i sig found signed =
      subst (λ (o : Option Instance). IsTimedAs (option_map_or (behaviour_made earlier) o nothing_promised).sig sig) (sym found)
      (timed_as earlier distinct (sound_before comps rules n) i sig signed)

  pub timed : (v : Invocation) (f : IsCalled earlier c v) → IsTimedAs (callee_of earlier c v.inst).sig f.sig
  timed v f =
      option_and_then_some (λ (i : Instance). signature_in earlier i.made i.params) (instance_named (whole_scope earlier c).instances v.inst) f.sig f.signed (λ i found signed.
      instance_timed v.inst i f.sig found signed)

  -- where a resolved invocation comes from
  record IsCallAt (r : Resolved) : Type 0 where
    k : ℕ
    s : Statement
    at : slice_get c.body k ≡ Some s
    v : Invocation
    only : invocations_at s ≡ v ∷ []
    is : resolved earlier c (known k) v ≡ r

  next_call : (k : ℕ) (s : Statement) → slice_get c.body k ≡ Some s → All IsCallAt (known k) → All IsCallAt (resolved_after earlier c (known k) (invocations_at s))
  next_call k (New name made params) at calls = calls
  next_call k (Connect output value) at calls = calls
  next_call k (Call name inst gives) at calls =
      let v : Invocation = record { name = name; inst = inst; gives = gives } in
      All-push IsCallAt (known k) (resolved earlier c (known k) v) calls (record { k = k; s = Call name inst gives; at = at; v = v; only = refl; is = refl })
  next_call k (Both name made params gives) at calls =
      let v : Invocation = record { name = name; inst = name; gives = gives } in
      All-push IsCallAt (known k) (resolved earlier c (known k) v) calls (record { k = k; s = Both name made params gives; at = at; v = v; only = refl; is = refl })

  calls_to : (k : ℕ) → k ≤ length c.body → All IsCallAt (known k)
  calls_to zero within = All-nil IsCallAt
  calls_to (suc k) within =
      let s = get_or c.body k (New [] [] []) in
      let below : k < length c.body = omega (arith, within) in
      let at : slice_get c.body k ≡ Some s = slice_get-get_or c.body k (New [] [] []) below in
      let grown : called k ++ invocations_at s ≡ called (suc k) = sym (flat_next invocations_at c.body k s at) ∙ ap called (add-one k) in
      let cut : resolved_after earlier c (known k) (invocations_at s) ≡ known (suc k) = sym (resolved_cut earlier c [] (called k) (invocations_at s)) ∙ ap (resolved_after earlier c []) grown in
      subst (All IsCallAt) cut (next_call k s at (calls_to k (omega (arith, within))))

  all_calls : All IsCallAt (resolved_calls earlier c)
  all_calls = subst (λ (body : List Statement). All IsCallAt (resolved_after earlier c [] (flat_map invocations_at body))) (take-length c.body) (calls_to (length c.body) (omega arith))

  -- what is resolved before a statement stays
  known_cut : (k : ℕ) → (more : List Resolved) × (resolved_calls earlier c ≡ known k ++ more)
  known_cut k =
      let cut : invocations ≡ called k ++ flat_map invocations_at (drop k c.body) =
      sym (ap (flat_map invocations_at) (take-append-drop k c.body)) ∙ flat_map-append invocations_at (take k c.body) (drop k c.body) in
      let m = resolved_more earlier c (known k) (flat_map invocations_at (drop k c.body)) in
      (m.0, ap (resolved_after earlier c []) cut ∙ resolved_cut earlier c [] (called k) (flat_map invocations_at (drop k c.body)) ∙ m.1)

  scoped_call : (o : Option Use) (port : Text) → ((call : Use) → o ≡ Some call → Contains (plan_of earlier c).uses call) → IsOfUse (plan_of earlier c) (output_of_call o port)
  scoped_call None port among = tt
  scoped_call (Some call) port among = among call refl

  scoped_source : (more rs : List Resolved) → resolved_calls earlier c ≡ rs ++ more → (arg : ValueTree) → IsOfUse (plan_of earlier c) (source_of rs arg)
  scoped_source more rs cut (InputValue name) = tt
  scoped_source more rs cut (tree.Literal width value) = tt
  scoped_source more rs cut (OutputValue invocation port) =
      scoped_call (call_named rs invocation) port (λ call is.
      subst (λ (all : List Resolved). Contains (map (λ (r : Resolved). r.call) all) call) (sym cut)
      (subst (λ (calls : List Use). Contains calls call) (sym (map-append (λ (r : Resolved). r.call) rs more))
      (Contains-append_left (map (λ (r : Resolved). r.call) rs) (map (λ (r : Resolved). r.call) more) call (call_among rs invocation call is))))

  scoped_args : (k : ℕ) (ports : List SigPort) (args : List ValueTree) (port : Text) → IsOfUse (plan_of earlier c) (args_of (known k) ports args port)
  scoped_args k [] args port = tt
  scoped_args k (p ∷ ports) [] port = tt
  scoped_args k (p ∷ ports) (a ∷ args) port =
      let m = known_cut k in
      by (bytes_eq p.name port) (scoped_source m.0 (known k) m.1 a) (scoped_args k ports args port)
    where
      by : (b : Bool) → IsOfUse (plan_of earlier c) (source_of (known k) a) → IsOfUse (plan_of earlier c) (args_of (known k) ports args port) → IsOfUse (plan_of earlier c) (if b then source_of (known k) a else args_of (known k) ports args port)
      by true here rest = here
      by false here rest = rest

  -- ---- arguments are there where they are needed

  only_one : (x y : Invocation) → ◌≡◌ {A = List Invocation} (x ∷ []) (y ∷ []) → x ≡ y
  only_one x y same = ap (λ (l : List Invocation). get_or l 0 x) same

  abbrev ReadsAt : ℕ → Invocation → Type 0
  ReadsAt k v = (f : IsCalled earlier c v) → timeline.ReadsAvailable (scope_after earlier c (take k c.body)) f.sig v.gives

  reads_at : (k : ℕ) (s : Statement) → slice_get c.body k ≡ Some s → (v : Invocation) → invocations_at s ≡ v ∷ [] → ReadsAt k v
  reads_at k (New name made params) at v only = absurd (cc)
  reads_at k (Connect output value) at v only = absurd (cc)
  reads_at k (Call name inst gives) at v only =
      subst (ReadsAt k) (only_one (record { name = name; inst = inst; gives = gives }) v only)
      (λ f. subst (λ (o : Option Signature). IfSome o (λ sig. timeline.ReadsAvailable (scope_after earlier c (take k c.body)) sig gives)) ((call_callee comps rules n c here k name inst gives at).same ∙ f.signed)
      (at_statement comps rules n c here k (Call name inst gives) at 7 F1 (omega arith)))
  reads_at k (Both name made params gives) at v only =
      subst (ReadsAt k) (only_one (record { name = name; inst = name; gives = gives }) v only)
      (λ f. subst (λ (o : Option Signature). IfSome o (λ sig. timeline.ReadsAvailable (scope_after earlier c (take k c.body)) sig gives)) ((both_callee comps rules n c here k name made params gives at).same ∙ f.signed)
      (at_statement comps rules n c here k (Both name made params gives) at 7 F1 (omega arith)))

  zip_to : (k : ℕ) → AllZip (IsResolvedAs earlier c) (called k) (known k)
  zip_to k =
      let cut : invocations ≡ called k ++ flat_map invocations_at (drop k c.body) =
      sym (ap (flat_map invocations_at) (take-append-drop k c.body)) ∙ flat_map-append invocations_at (take k c.body) (drop k c.body) in
      zip_resolved earlier c (called k) (All-left (IsCalled earlier c) (called k) (flat_map invocations_at (drop k c.body)) (subst (All (IsCalled earlier c)) cut all))

  needs_at : (k : ℕ) (s : Statement) → slice_get c.body k ≡ Some s → (v : Invocation) → invocations_at s ≡ v ∷ [] → (f : IsCalled earlier c v) →
      (slot : Slot) → Contains (map (slot_of c) (uses_of (whole_scope earlier c) v)) slot → (p : TimedPort) → Contains (callee_of earlier c v.inst).sig.ins p → p.event ≡ slot.target →
      (i : ℕ) → slot.plus + p.from ≤ i → i < slot.plus + end_of p slot.hold → IsAvailable (plan_of earlier c) (args_of (known k) (inputs_of_callee earlier c v.inst) v.gives.args p.name) slot.event i
  needs_at k s at v only f slot has_slot p has_p event i low high =
      let m = from_map (slot_of c) (uses_of (whole_scope earlier c) v) slot has_slot in
      let u = m.0 in
      let used : IsUse f.sig v.inst v.gives.times u = All-contains (IsUse f.sig v.inst v.gives.times) (uses_of (whole_scope earlier c) v) u (all_uses (whole_scope earlier c) v f.sig f.signed) m.1 in
      let t = timed v f in
      let input = t.ins p has_p in
      let q = input.1 in
      let within = slice_get_within f.sig.ins input.0 q input.2 in
      let arg = some_at v.gives.args input.0 (omega (arith, within, f.each.args)) in
      let is_named : q.name ≡ p.name = ap (λ (x : TimedPort). x.name) input.3 in
      let ports : inputs_of_callee earlier c v.inst ≡ f.sig.ins = ap (λ (o : Option Signature). option_map_or (λ (x : Signature). x.ins) o []) f.signed in
      let source : args_of (known k) (inputs_of_callee earlier c v.inst) v.gives.args p.name ≡ source_of (known k) arg.0 =
      ap (λ (ps : List SigPort). args_of (known k) ps v.gives.args p.name) ports
      ∙ ap (args_of (known k) f.sig.ins v.gives.args) (sym is_named)
      ∙ args_at (known k) f.sig.ins v.gives.args input.0 q arg.0 t.distinct input.2 arg.1 in
      let number : q.from.event ≡ u.event = ap (λ (x : TimedPort). x.event) input.3 ∙ event ∙ sym (ap (λ (x : Slot). x.target) m.2) in
      let start : slice_get v.gives.times q.from.event ≡ Some u.at = ap (slice_get v.gives.times) number ∙ (parts_of used).time in
      let between : timeline.interval_at v.gives.times q ≡ Some (timeline.interval_between u.at u.at q) =
      ap (option_and_then (λ s. option_map (λ t. timeline.interval_between s t q) (slice_get v.gives.times q.to.event))) start
      ∙ ap (option_map (λ t. timeline.interval_between u.at t q)) (ap (slice_get v.gives.times) input.4 ∙ start) in
      let covers : timeline.Covers (scope_after earlier c (take k c.body)) arg.0 (timeline.interval_between u.at u.at q) =
      subst (λ (o : Option timeline.Interval). IfSome o (timeline.Covers (scope_after earlier c (take k c.body)) arg.0)) between (reads_at k s at v only f input.0 arg.0 q arg.1 input.2) in
      let plus : u.at.plus ≡ slot.plus = ap (λ (x : Slot). x.plus) m.2 in
      let from : q.from.plus ≡ p.from = ap (λ (x : TimedPort). x.from) input.3 in
      let to : q.to.plus ≡ p.to = ap (λ (x : TimedPort). x.to) input.3 in
      let last : end_of p slot.hold ≡ p.to = ap (λ b. p.to + (if b then slot.hold else 0)) (sym (ap (λ (x : TimedPort). x.stays) input.3)) ∙ omega arith in
      let there = available earlier c (names_of comps rules n c here) timed k s at (zip_to k) (known k) (λ name call is. is) arg.0 u.at.event i (covers i (omega (arith, plus, from, low)) (omega (arith, plus, to, last, high))) in
      subst (λ (x : Source). IsAvailable (plan_of earlier c) x slot.event i) (sym source)
      (subst (λ (e : ℕ). IsAvailable (plan_of earlier c) (source_of (known k) arg.0) e i) (ap (λ (x : Slot). x.event) m.2) there)

  -- ---- and so is what outputs are connected to

  pub connected_some : (body : List Statement) (output : Text) → Contains (flat_map connected_at body) output → (arg : ValueTree) × (connected_to body output ≡ Some arg)
  connected_some [] output has = absurd (contains_none output has)
  connected_some (New name made params ∷ body) output has = connected_some body output has
  connected_some (Call name inst gives ∷ body) output has = connected_some body output has
  connected_some (Both name made params gives ∷ body) output has = connected_some body output has
  connected_some (Connect name value ∷ body) output has = by (bytes_eq name output) refl (connected_some body output)
    where
      by : (b : Bool) → bytes_eq name output ≡ b → (Contains (flat_map connected_at body) output → (arg : ValueTree) × (connected_to body output ≡ Some arg)) → (arg : ValueTree) × ((if b then Some value else connected_to body output) ≡ Some arg)
      by true same rest = (value, refl)
      by false other rest = rest (elim (first_or_later name (flat_map connected_at body) output has) [ inl same ↦ absurd (false≢true (sym other ∙ (bytes_eq-Decides name output).1 same)) | inr later ↦ later ])

  sound : IsSound c
  sound = sound_at comps rules n c here

  -- an output's own interval, as a statement sees it
  record HasOwnInterval (scope : Scope) (d : DataPort) (output : Text) : Type 0 where
    event : Event
    is_named : event.name ≡ d.from.event
    interval : timeline.own_interval scope (output_of scope output) ≡ Some (timeline.interval_between (time_of event) (time_of event) (sig_port c.events d))

  own_between : (before : List Statement) (d : DataPort) → Contains c.outs d → (output : Text) → d.name ≡ output → (o : SigPort) → output_of (scope_after earlier c before) output ≡ Some o → HasOwnInterval (scope_after earlier c before) d output
  own_between before d in_outs output is_named o is_o =
      let outs = map (sig_port c.events) c.outs in
      let q = sig_port c.events d in
      let test = λ (x : SigPort). bytes_eq x.name output in
      let D : List Text → Type 0 = AreDistinct in
      let names : AreDistinct (map (λ (x : SigPort). x.name) outs) = subst D (sym (map-map (λ (x : SigPort). x.name) (sig_port c.events) c.outs)) (outputs_differ comps rules n c here) in
      let o_named : o.name ≡ output = (bytes_eq-Decides o.name output).0 (found_passes test outs o is_o) in
      let same : o ≡ q = same_element (λ (x : SigPort). x.name) outs o q names (found_among test outs o is_o) (contains_map (sig_port c.events) c.outs d in_outs) (o_named ∙ sym is_named) in
      let shape = All-contains IsInterval c.outs d sound.shape.outs in_outs in
      let names_event = (All-contains (λ (x : DataPort). NamesEvent c x.from.event × NamesEvent c x.to.event) c.outs d sound.names.outs in_outs).0 in
      let e = number_of c.events d.from.event names_event in
      let to_number : q.to.event ≡ q.from.event = ap (event_number c.events) (sym shape.0) in
      let start : slice_get (timeline.own_times c) q.from.event ≡ Some (time_of e.0) = slice_get-map time_of c.events q.from.event ∙ ap (option_map time_of) e.1 in
      let ends : slice_get (timeline.own_times c) q.to.event ≡ Some (time_of e.0) = ap (slice_get (timeline.own_times c)) to_number ∙ start in
      let found : timeline.own_interval (scope_after earlier c before) (output_of (scope_after earlier c before) output) ≡ timeline.interval_at (timeline.own_times c) q =
      ap (option_and_then (timeline.interval_at (timeline.own_times c))) is_o ∙ ap (timeline.interval_at (timeline.own_times c)) same in
      let begun : timeline.interval_at (timeline.own_times c) q ≡ option_map (λ t. timeline.interval_between (time_of e.0) t q) (slice_get (timeline.own_times c) q.to.event) =
      ap (option_and_then (λ s. option_map (λ t. timeline.interval_between s t q) (slice_get (timeline.own_times c) q.to.event))) start in
      record { event = e.0; is_named = e.2; interval = found ∙ begun ∙ ap (option_map (λ t. timeline.interval_between (time_of e.0) t q)) ends }

  -- where an output is connected, what it is connected to is there
  connected_there : (d : DataPort) → Contains c.outs d → (arg : ValueTree) → connected_to c.body d.name ≡ Some arg → (i : ℕ) → d.from.plus ≤ i → i < d.to.plus →
      IsAvailable (plan_of earlier c) (source_of (resolved_calls earlier c) arg) (event_number c.events d.from.event) i
  connected_there d in_outs arg is i low high =
      let w = connected_where c.body d.name arg is in
      let scope = scope_after earlier c (take w.k c.body) in
      let s = Connect d.name arg in
      let o = some_there (output_of scope d.name) ((names_of comps rules n c here).known_names w.k s w.at).0 in
      let own = own_between (take w.k c.body) d in_outs d.name refl o.0 o.1 in
      let i_own : timeline.Interval = timeline.interval_between (time_of own.event) (time_of own.event) (sig_port c.events d) in
      let once : ConnectsOnce scope (take w.k c.body) s = at_statement comps rules n c here w.k s w.at 8 F1 (omega arith) in
      let covers : timeline.Covers scope arg i_own = subst (λ (x : Option timeline.Interval). IfSome x (timeline.Covers scope arg)) own.interval once.1 in
      let cut = known_cut w.k in
      let value = available earlier c (names_of comps rules n c here) timed w.k s w.at (zip_to w.k) (resolved_calls earlier c)
      (λ name call found. subst (λ (rs : List Resolved). call_named rs name ≡ Some call) (sym cut.1) (named_more (known w.k) cut.0 name call found))
      arg own.event.name i (covers i (omega (arith, low)) (omega (arith, high))) in
      subst (λ (e : Text). IsAvailable (plan_of earlier c) (source_of (resolved_calls earlier c) arg) (event_number c.events e) i) own.is_named value

  connected_at_all : (p : TimedPort) → Contains (plan_of earlier c).sig.outs p → (i : ℕ) → p.from ≤ i → i < p.to → IsAvailable (plan_of earlier c) ((plan_of earlier c).outputs p.name) p.event i
  connected_at_all p has =
      let m = from_map timed_port (map (sig_port c.events) c.outs) p has in
      let d = from_map (sig_port c.events) c.outs m.0 m.1 in
      let is : timed_port (sig_port c.events d.0) ≡ p = ap timed_port d.2 ∙ m.2 in
      let ends : All (λ (x : DataPort). Contains (flat_map connected_at c.body) x.name) c.outs = rules.keeps n c here (suc (length c.body)) TheEnd (inr (refl, refl)) 8 F1 (omega arith) in
      let there = All-contains (λ (x : DataPort). Contains (flat_map connected_at c.body) x.name) c.outs d.0 ends d.1 in
      let arg = connected_some c.body d.0.name there in
      subst (λ (x : TimedPort). (i : ℕ) → x.from ≤ i → i < x.to → IsAvailable (plan_of earlier c) ((plan_of earlier c).outputs x.name) x.event i) is
      (λ i low high.
      subst (λ (x : Option ValueTree). IsAvailable (plan_of earlier c) (option_map_or (source_of (resolved_calls earlier c)) x (Literal 0)) (event_number c.events d.0.from.event) i) (sym arg.1)
      (connected_there d.0 d.1 arg.0 arg.1 i low high))

  -- ---- all together

  pub record IsCallOf (call : Use) : Type 0 where
    pub k : ℕ
    pub s : Statement
    pub at : slice_get c.body k ≡ Some s
    pub v : Invocation
    pub only : invocations_at s ≡ v ∷ []
    pub is_called : IsCalled earlier c v
    pub is : (resolved earlier c (known k) v).call ≡ call

  pub call_of : (call : Use) → Contains (plan_of earlier c).uses call → IsCallOf call
  call_of call has =
      let m = from_map (λ (r : Resolved). r.call) (resolved_calls earlier c) call has in
      let a = All-contains IsCallAt (resolved_calls earlier c) m.0 all_calls m.1 in
      let in_s : Contains (invocations_at a.s) a.v = subst (λ (vs : List Invocation). Contains vs a.v) (sym a.only) (0, omega arith, refl) in
      let in_all : Contains invocations a.v = contains_in_flat invocations_at c.body a.s a.v (Contains-at c.body a.k a.s a.at) in_s in
      record { k = a.k; s = a.s; at = a.at; v = a.v; only = a.only; is_called = All-contains (IsCalled earlier c) invocations a.v all in_all; is = ap (λ (r : Resolved). r.call) a.is ∙ m.2 }

  shared : AllPairs (AreShared (plan_of earlier c)) (plan_of earlier c).uses
  shared =
      pairs_map (AreShared (plan_of earlier c)) (λ (r : Resolved). r.call) (resolved_calls earlier c)
      (zip_pairs (IsResolvedAs earlier c) (ShareWell comps rules n c here) (λ (r t : Resolved). AreShared (plan_of earlier c) r.call t.call) invocations (resolved_calls earlier c)
      (zip_resolved earlier c invocations all) (share comps rules n c here)
      (λ v w r t is_r is_t well inst x y has_x has_y target.
      shared_uses earlier c v w is_r.called is_t.called well (sym is_r.inst ∙ inst ∙ is_t.inst) x y
      (subst (λ (slots : List Slot). Contains slots x) is_r.slots has_x) (subst (λ (slots : List Slot). Contains slots y) is_t.slots has_y) target))

  outputs_scoped : (o : Option ValueTree) → IsOfUse (plan_of earlier c) (option_map_or (source_of (resolved_calls earlier c)) o (Literal 0))
  outputs_scoped None = tt
  outputs_scoped (Some arg) = scoped_source [] (resolved_calls earlier c) (sym (append-nil (resolved_calls earlier c))) arg

  well_timed : IsWellTimed (plan_of earlier c)
  well_timed = record {
    fixed_ins = λ p has. sym (ap (λ (x : TimedPort). x.stays) (from_map timed_port (map (sig_port c.events) c.ins) p has).2);
    fixed_outs = λ p has. sym (ap (λ (x : TimedPort). x.stays) (from_map timed_port (map (sig_port c.events) c.outs) p has).2);
    short = λ call has. let a = call_of call has in subst (λ (u : Use). IsShort (callee_of earlier c u.inst).sig) a.is (timed a.v a.is_called).short;
    triggered = λ call has. let a = call_of call has in
        subst (λ (u : Use). (slot : Slot) → Contains u.slots slot → IsTriggered (plan_of earlier c) (callee_of earlier c u.inst).sig slot) a.is (slot_triggered earlier c a.v a.is_called (timed a.v a.is_called));
    each = λ call has. let a = call_of call has in
        subst (λ (u : Use). (p : TimedPort) → Contains (callee_of earlier c u.inst).sig.ins p → (slot : Slot) × Contains u.slots slot × (slot.target ≡ p.event)) a.is (slot_for_each earlier c a.v a.is_called (timed a.v a.is_called));
    once = λ call has. let a = call_of call has in
        subst (λ (u : Use). AllPairs (λ (s t : Slot). s.target ≢ t.target) u.slots) a.is (slots_once earlier c a.v a.is_called (timed a.v a.is_called));
    shared = shared;
    scoped = λ call has. let a = call_of call has in
        subst (λ (u : Use). (port : Text) → IsOfUse (plan_of earlier c) (u.args port)) a.is (scoped_args a.k (inputs_of_callee earlier c a.v.inst) a.v.gives.args);
    needs = λ call has. let a = call_of call has in
        subst (λ (u : Use). (slot : Slot) → Contains u.slots slot → (p : TimedPort) → Contains (callee_of earlier c u.inst).sig.ins p → p.event ≡ slot.target →
        (i : ℕ) → slot.plus + p.from ≤ i → i < slot.plus + end_of p slot.hold → IsAvailable (plan_of earlier c) (u.args p.name) slot.event i) a.is
        (needs_at a.k a.s a.at a.v a.only a.is_called);
    outputs_scoped = λ port. outputs_scoped (connected_to c.body port);
    connected = connected_at_all;
  }

pub plans_well_timed : PlansAreWellTimed
plans_well_timed comps rules n c here = well_timed comps rules n c here
