-- A value that the text has available is available to the plan.
use Rattle.std.proofs.Common.{◌≡◌, ℕ, zero, suc, ◌+◌, ◌<◌, ◌≤◌, Bool, true, false, cond, List, [], ◌∷◌, ◌++◌, map, flat_map, take, drop, slice_get, All, Option, Some, None, option_map, refl, sym, ap, subst, ◌∙◌, append_assoc, arith}
use Rattle.std.specs.List.{AllZip, find}
use Rattle.std.specs.Option.{option_and_then}
use Rattle.std.specs.Prelude.{Contains, bytes_eq, if◌then◌else◌}
use Rattle.std.proofs.lemmas.List.{append-nil}
use Rattle.std.proofs.lemmas.List.Elements.{All-head, All-tail}
use Rattle.std.proofs.lemmas.Option.{get_or_from_slice_get, none-some, option_and_then_some, same_Some, slice_get-map, slice_get_within}
use Rattle.std.proofs.lemmas.Slice.Eq.{bytes_eq-Decides}
use Rattle.std.proofs.lemmas.Slice.Zip.{all_zipped_more}
use Rattle.hw_names.specs.Name.{Text, AreDistinct}
use Rattle.hw_prims.specs.Timed.{TimedPort, end_of}
use Rattle.fil_ast.proofs.HoldLemmas.{use_listed}
use Rattle.fil_ast.specs.Behaviours.{timed_port}
use Rattle.fil_ast.specs.Holds.{uses_of}
use Rattle.fil_ast.specs.Items.{scope_after}
use Rattle.fil_ast.specs.Scope.{Invocation, Result, Scope, input_of, instance_named, instance_signature, instances_at, invocation_named, invocations_at, result_at, sig_port_named}
use Rattle.fil_ast.specs.Signature.{SigPort, Signature, event_number, sig_port}
use Rattle.fil_ast.specs.Timeline as timeline
use Rattle.fil_ast.specs.Timeline.{Interval, interval_at, interval_between, own_times}
use Rattle.fil_ast.specs.Tree as tree
use Rattle.fil_ast.specs.Tree.{Component, Design, Event, Statement, TimeAt, ValueTree, InputValue, OutputValue}
use Rattle.fil_ast.specs.Wires.{whole_scope}
use Rattle.fil_share.specs.Instances.{signature_of}
use Rattle.fil_share.proofs.OwnLemmas.{KeepsNames, cut_before, same_meaning}
use Rattle.fil_lower.specs.inside.Plan.{Slot, Use}
use Rattle.fil_lower.specs.inside.PlanOf.{Resolved, args_of, call_named, callee_of, output_of_call, plan_of, resolved, resolved_after, slot_of, source_of}
use Rattle.fil_lower.specs.inside.PlanRules.{IsAvailable}
use Rattle.fil_lower.proofs.CallLemmas.{IsCalled, found_among}
use Rattle.fil_lower.proofs.NameLemmas.{first_differs, from_map, later_distinct, other_name, same_name, sig_names}
use Rattle.fil_lower.proofs.TimedAsLemmas.{IsTimedAs, contains_map, named_at_number}

pub found_passes : {X : Type 0} (test : X → Bool) (xs : List X) (x : X) → find test xs ≡ Some x → test x ≡ true
found_passes test [] x is = absurd (none-some x is)
found_passes test (y ∷ xs) x is = by (test y) refl is (found_passes test xs x)
  where
    by : (b : Bool) → test y ≡ b → cond b (Some y) (find test xs) ≡ Some x → (find test xs ≡ Some x → test x ≡ true) → test x ≡ true
    by true passes e later = ap test (sym (same_Some y x e)) ∙ passes
    by false fails e later = later e

pub mapped_from : {X Y P : Type 0} (f : X → Y) (o : Option X) (y : Y) → option_map f o ≡ Some y → ((x : X) → o ≡ Some x → f x ≡ y → P) → P
mapped_from f None y is go = absurd (none-some y is)
mapped_from f (Some x) y is go = go x refl (same_Some (f x) y is)

-- the argument at the place of a port is what stands for it by name
pub args_at : (known : List Resolved) (ports : List SigPort) (args : List ValueTree) (k : ℕ) (q : SigPort) (arg : ValueTree) → AreDistinct (sig_names ports) → slice_get ports k ≡ Some q → slice_get args k ≡ Some arg →
    args_of known ports args q.name ≡ source_of known arg
args_at known [] args k q arg distinct at_q at_arg = absurd (none-some q at_q)
args_at known (p ∷ ports) [] k q arg distinct at_q at_arg = absurd (none-some arg at_arg)
args_at known (p ∷ ports) (a ∷ args) zero q arg distinct at_q at_arg =
    ap (λ (b : Bool). if b then source_of known a else args_of known ports args q.name) (same_name p.name q.name (ap (λ (x : SigPort). x.name) (same_Some p q at_q)))
    ∙ ap (source_of known) (same_Some a arg at_arg)
args_at known (p ∷ ports) (a ∷ args) (suc k) q arg distinct at_q at_arg =
    let has : Contains (sig_names ports) q.name = contains_map (λ (x : SigPort). x.name) ports q (k, slice_get_within ports k q at_q, get_or_from_slice_get ports k q q at_q) in
    ap (λ (b : Bool). if b then source_of known a else args_of known ports args q.name) (other_name p.name q.name (first_differs p.name (sig_names ports) q.name distinct has))
    ∙ args_at known ports args k q arg (later_distinct p.name (sig_names ports) distinct) at_q at_arg

-- ---- resolved invocations

pub named_more : (known more : List Resolved) (name : Text) (call : Use) → call_named known name ≡ Some call → call_named (known ++ more) name ≡ Some call
named_more [] more name call is = absurd (none-some call is)
named_more (r ∷ known) more name call is = by (bytes_eq r.name name) is (named_more known more name call)
  where
    by : (b : Bool) → (if b then Some r.call else call_named known name) ≡ Some call → (call_named known name ≡ Some call → call_named (known ++ more) name ≡ Some call) → (if b then Some r.call else call_named (known ++ more) name) ≡ Some call
    by true e later = e
    by false e later = later e

pub call_among : (known : List Resolved) (name : Text) (call : Use) → call_named known name ≡ Some call → Contains (map (λ (r : Resolved). r.call) known) call
call_among [] name call is = absurd (none-some call is)
call_among (r ∷ known) name call is = by (bytes_eq r.name name) is (call_among known name call)
  where
    by : (b : Bool) → (if b then Some r.call else call_named known name) ≡ Some call → (call_named known name ≡ Some call → Contains (map (λ (r : Resolved). r.call) known) call) → Contains (map (λ (r : Resolved). r.call) (r ∷ known)) call
    by true e later = (zero, omega arith, same_Some r.call call e)
    by false e later = let m = later e in (suc m.0, omega (arith, m.1), m.2)

module _ (earlier : Design) (c : Component) where
  pub resolved_more : (known : List Resolved) (vs : List Invocation) → (more : List Resolved) × (resolved_after earlier c known vs ≡ known ++ more)
  resolved_more known [] = ([], sym (append-nil known))
  resolved_more known (v ∷ vs) =
      let r = resolved earlier c known v in
      let m = resolved_more (known ++ r ∷ []) vs in
      (r ∷ m.0, m.1 ∙ append_assoc known (r ∷ []) m.0)

  pub resolved_cut : (known : List Resolved) (vs ws : List Invocation) → resolved_after earlier c known (vs ++ ws) ≡ resolved_after earlier c (resolved_after earlier c known vs) ws
  resolved_cut known [] ws = refl
  resolved_cut known (v ∷ vs) ws = resolved_cut (known ++ resolved earlier c known v ∷ []) vs ws

  -- an invocation, and its resolved form
  pub record IsResolvedAs (v : Invocation) (r : Resolved) : Type 0 where
    pub name : r.name ≡ v.name
    pub inst : r.call.inst ≡ v.inst
    pub slots : r.call.slots ≡ map (slot_of c) (uses_of (whole_scope earlier c) v)
    pub called : IsCalled earlier c v

  zip_from : (vs done : List Invocation) (known : List Resolved) → AllZip IsResolvedAs done known → All (IsCalled earlier c) vs → AllZip IsResolvedAs (done ++ vs) (resolved_after earlier c known vs)
  zip_from [] done known zip all = subst (λ (xs : List Invocation). AllZip IsResolvedAs xs known) (sym (append-nil done)) zip
  zip_from (v ∷ vs) done known zip all =
      let r = resolved earlier c known v in
      subst (λ (xs : List Invocation). AllZip IsResolvedAs xs (resolved_after earlier c (known ++ r ∷ []) vs)) (append_assoc done (v ∷ []) vs)
      (zip_from vs (done ++ v ∷ []) (known ++ r ∷ [])
      (all_zipped_more IsResolvedAs done known v r zip (record { name = refl; inst = refl; slots = refl; called = All-head (IsCalled earlier c) v vs all }))
      (All-tail (IsCalled earlier c) v vs all))

  pub zip_resolved : (vs : List Invocation) → All (IsCalled earlier c) vs → AllZip IsResolvedAs vs (resolved_after earlier c [] vs)
  zip_resolved vs all = zip_from vs [] [] tt all

  record IsNamed (known : List Resolved) (name : Text) (v : Invocation) : Type 0 where
    call : Use
    found : call_named known name ≡ Some call
    inst : call.inst ≡ v.inst
    slots : call.slots ≡ map (slot_of c) (uses_of (whole_scope earlier c) v)
    called : IsCalled earlier c v

  find_named : (vs : List Invocation) (known : List Resolved) (name : Text) (v : Invocation) → AllZip IsResolvedAs vs known → invocation_named vs name ≡ Some v → IsNamed known name v
  find_named [] known name v zip is = absurd (none-some v is)
  find_named (w ∷ vs) [] name v zip is = absurd zip
  find_named (w ∷ vs) (r ∷ known) name v zip is = by (bytes_eq w.name name) refl is (find_named vs known name v zip.1)
    where
      by : (b : Bool) → bytes_eq w.name name ≡ b → cond b (Some w) (invocation_named vs name) ≡ Some v → (invocation_named vs name ≡ Some v → IsNamed known name v) → IsNamed (r ∷ known) name v
      by true here e later =
          let test : bytes_eq r.name name ≡ true = ap (λ n. bytes_eq n name) zip.0.name ∙ here in
          subst (λ (u : Invocation). IsNamed (r ∷ known) name u) (same_Some w v e)
          (record { call = r.call; found = ap (λ (b : Bool). if b then Some r.call else call_named known name) test; inst = zip.0.inst; slots = zip.0.slots; called = zip.0.called })
      by false there e later =
          let m = later e in
          let test : bytes_eq r.name name ≡ false = ap (λ n. bytes_eq n name) zip.0.name ∙ there in
          record { call = m.call; found = ap (λ (b : Bool). if b then Some r.call else call_named known name) test ∙ m.found; inst = m.inst; slots = m.slots; called = m.called }

  module _ (named : KeepsNames earlier c) (timed : (v : Invocation) (f : IsCalled earlier c v) → IsTimedAs (callee_of earlier c v.inst).sig f.sig) (k : ℕ) (s : Statement) (at : slice_get c.body k ≡ Some s)
      (zip : AllZip IsResolvedAs (flat_map invocations_at (take k c.body)) (resolved_after earlier c [] (flat_map invocations_at (take k c.body))))
      (rs : List Resolved) (extends : (name : Text) (call : Use) → call_named (resolved_after earlier c [] (flat_map invocations_at (take k c.body))) name ≡ Some call → call_named rs name ≡ Some call) where
    abbrev scope : Scope
    scope = scope_after earlier c (take k c.body)

    -- the text has the value available, by an interval on this event
    input_available : (name event : Text) (offset : ℕ) (q : SigPort) (i : Interval) → input_of scope name ≡ Some q → interval_at (own_times c) q ≡ Some i → timeline.IsIn i event offset →
        (p : TimedPort) × Contains (plan_of earlier c).sig.ins p × (p.name ≡ name) × (p.event ≡ event_number c.events event) × (p.from ≤ offset) × (offset < p.to)
    input_available name event offset q i found at_i inside =
        let test = λ (p : SigPort). bytes_eq p.name name in
        let ins = map (sig_port c.events) c.ins in
        let has : Contains ins q = found_among test ins q found in
        let is_name : q.name ≡ name = (bytes_eq-Decides q.name name).0 (found_passes test ins q found) in
        let n = from_map (sig_port c.events) c.ins q has in
        let time : Event → TimeAt = λ e. record { event = e.name; plus = 0 } in
        option_and_then_some (λ s. option_map (λ t. interval_between s t q) (slice_get (own_times c) q.to.event)) (slice_get (own_times c) q.from.event) i at_i (λ s s_at rest.
        mapped_from (λ t. interval_between s t q) (slice_get (own_times c) q.to.event) i rest (λ t t_at same.
        mapped_from time (slice_get c.events q.from.event) s (sym (slice_get-map time c.events q.from.event) ∙ s_at) (λ e e_at e_is.
        mapped_from time (slice_get c.events q.to.event) t (sym (slice_get-map time c.events q.to.event) ∙ t_at) (λ d d_at d_is.
        let number : event_number c.events n.0.from.event ≡ q.from.event = ap (λ (x : SigPort). x.from.event) n.2 in
        let own : e.name ≡ n.0.from.event = named_at_number c.events n.0.from.event e (ap (slice_get c.events) number ∙ e_at) in
        let on : n.0.from.event ≡ event = sym own ∙ ap (λ (x : TimeAt). x.event) e_is ∙ ap (λ (x : Interval). x.event) same ∙ inside.0 in
        let from_zero : 0 ≡ s.plus = ap (λ (x : TimeAt). x.plus) e_is in
        let to_zero : 0 ≡ t.plus = ap (λ (x : TimeAt). x.plus) d_is in
        let begins : s.plus + q.from.plus ≡ i.from = ap (λ (x : Interval). x.from) same in
        let ends : t.plus + q.to.plus ≡ i.to = ap (λ (x : Interval). x.to) same in
        let low : i.from ≤ offset = inside.1 in
        let high : offset < i.to = inside.2 in
        (timed_port q, contains_map timed_port ins q has, is_name, sym number ∙ ap (event_number c.events) on, omega (arith, from_zero, begins, low), omega (arith, to_zero, ends, high))))))

    output_available : (invocation port event : Text) (offset : ℕ) (v : Invocation) (q : SigPort) (sig : Signature) (i : Interval) →
        invocation_named scope.invocations invocation ≡ Some v → instance_signature scope v.inst ≡ Some sig → sig_port_named sig.outs port ≡ Some q → interval_at v.gives.times q ≡ Some i → timeline.IsIn i event offset →
        IsAvailable (plan_of earlier c) (output_of_call (call_named rs invocation) port) (event_number c.events event) offset
    output_available invocation port event offset v q sig i is_v signed found at_i inside =
        let m = find_named (flat_map invocations_at (take k c.body)) (resolved_after earlier c [] (flat_map invocations_at (take k c.body))) invocation v zip is_v in
        let f = m.called in
        let test = λ (p : SigPort). bytes_eq p.name port in
        let same_sig : sig ≡ f.sig =
        option_and_then_some (signature_of earlier) (instance_named (flat_map instances_at (take k c.body)) v.inst) sig signed (λ j is_j signed_j.
        same_Some sig f.sig (sym signed ∙ same_meaning earlier c named (flat_map instances_at (take k c.body)) (flat_map instances_at (drop k c.body)) v.inst (cut_before earlier c named k s at) (j, is_j) ∙ f.signed)) in
        let has : Contains f.sig.outs q = subst (λ (x : Signature). Contains x.outs q) same_sig (found_among test sig.outs q found) in
        let is_name : q.name ≡ port = (bytes_eq-Decides q.name port).0 (found_passes test sig.outs q found) in
        let o = (timed v f).outs q has in
        let u = o.3 v.inst v.gives.times i f.holds f.each.times at_i in
        let in_outs : Contains (callee_of earlier c m.call.inst).sig.outs o.0 = subst (λ (n : Text). Contains (callee_of earlier c n).sig.outs o.0) (sym m.inst) o.1 in
        let in_slots : Contains m.call.slots (slot_of c u.0) =
        subst (λ (ss : List Slot). Contains ss (slot_of c u.0)) (sym m.slots) (contains_map (slot_of c) (uses_of (whole_scope earlier c) v) u.0 (use_listed (whole_scope earlier c) v u.0 (f.sig, f.signed, u.1))) in
        let low : i.from ≤ offset = inside.1 in
        let high : offset < i.to = inside.2 in
        let begins : i.from ≡ u.0.at.plus + o.0.from = u.4 in
        let ends : i.to ≡ u.0.at.plus + end_of o.0 u.0.hold = u.5 in
        let number : event_number c.events u.0.at.event ≡ event_number c.events event = ap (event_number c.events) (sym u.3 ∙ inside.0) in
        subst (λ (x : Option Use). IsAvailable (plan_of earlier c) (output_of_call x port) (event_number c.events event) offset) (sym (extends invocation m.call m.found))
        (o.0, in_outs, o.2 ∙ is_name, slot_of c u.0, in_slots, u.2, number, omega (arith, low, begins), omega (arith, high, ends))

    pub available : (arg : ValueTree) (event : Text) (offset : ℕ) → timeline.IsAvailable scope arg event offset →
        IsAvailable (plan_of earlier c) (source_of rs arg) (event_number c.events event) offset
    available (tree.Literal width n) event offset is = tt
    available (InputValue name) event offset (i, is, inside) =
        option_and_then_some (interval_at (own_times c)) (input_of scope name) i is (λ q found at_i. input_available name event offset q i found at_i inside)
    available (OutputValue invocation port) event offset (r, is_r, i, at_i, inside) =
        option_and_then_some (λ (v : Invocation). result_at scope v port) (invocation_named scope.invocations invocation) r is_r (λ v named_v at_v.
        mapped_from (λ (p : SigPort). record { invocation = v; port = p }) (option_and_then (λ (x : Signature). sig_port_named x.outs port) (instance_signature scope v.inst)) r at_v (λ q is_q made.
        option_and_then_some (λ (x : Signature). sig_port_named x.outs port) (instance_signature scope v.inst) q is_q (λ sig signed found.
        output_available invocation port event offset v q sig i named_v signed found (subst (λ (x : Result). interval_at x.invocation.gives.times x.port ≡ Some i) (sym made) at_i) inside)))
