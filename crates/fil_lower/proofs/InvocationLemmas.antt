-- A component's invocations as its text has them, and as its plan does: their uses of events, and their arguments.
use Rattle.std.proofs.Common.{◌≡◌, ℕ, List, [], ◌∷◌, take, get_or, slice_get, All, Option, Some, option_map, sym, ap, subst, ◌∙◌, inl, inr, arith}
use Rattle.std.specs.List.{AllZip}
use Rattle.std.specs.Option.{option_and_then, option_map_or}
use Rattle.std.specs.Prelude.{Contains}
use Rattle.std.proofs.lemmas.List.Elements.{All-contains}
use Rattle.std.proofs.lemmas.Option.{slice_get_within}
use Rattle.hw_prims.specs.Timed.{TimedPort}
use Rattle.fil_ast.proofs.UseLemmas.{parts_of}
use Rattle.fil_ast.specs.Behaviours.{inputs_of_callee, timed_port}
use Rattle.fil_ast.specs.Holds.{uses_of}
use Rattle.fil_ast.specs.Items.{scope_after}
use Rattle.fil_ast.specs.Naming.{IsKnownValue, NamesEvent}
use Rattle.fil_ast.specs.Rules.{FilRules}
use Rattle.fil_ast.specs.Scope.{Invocation, Scope, invocations_at}
use Rattle.fil_ast.specs.Signature.{SigPort, Signature, event_number}
use Rattle.fil_ast.specs.Timeline as timeline
use Rattle.fil_ast.specs.Timeline.{IsUse, interval_at, interval_between}
use Rattle.fil_ast.specs.Tree.{Component, Design, Event, Statement, TimeAt, ValueTree, New, Call, Both, Connect}
use Rattle.fil_ast.specs.Wires.{whole_scope}
use Rattle.fil_share.proofs.ListLemmas.{Contains-at, Contains-here, Contains-there}
use Rattle.fil_share.proofs.OwnLemmas.{names_of}
use Rattle.fil_lower.specs.inside.Plan.{Plan, Slot, Use}
use Rattle.fil_lower.specs.inside.PlanOf.{Resolved, args_of, callee_of, plan_of, resolved, resolved_calls, slot_of, source_of}
use Rattle.fil_lower.proofs.AvailableLemmas.{args_at}
use Rattle.fil_lower.proofs.CallLemmas.{IsCalled, all_called}
use Rattle.fil_lower.proofs.ListLemmas.{contains_none, first_or_later}
use Rattle.fil_lower.proofs.NameLemmas.{from_map}
use Rattle.fil_lower.proofs.SourceLemmas.{IsMadeAt, all_made, known_before}
use Rattle.fil_lower.proofs.TimedAsLemmas.{contains_map, number_of}
use Rattle.fil_lower.proofs.UseLemmas.{all_uses, some_at}
use Rattle.fil_lower.proofs.WellLemmas.{timed}

-- ---- lists that agree

pub zip_left : {X Y : Type 0} (R : X → Y → Type 0) (xs : List X) (ys : List Y) (x : X) → AllZip R xs ys → Contains xs x → (y : Y) × Contains ys y × R x y
zip_left R [] ys x zip has = absurd (contains_none x has)
zip_left R (z ∷ xs) [] x zip has = absurd zip
zip_left R (z ∷ xs) (y ∷ ys) x zip has =
    elim (first_or_later z xs x has) [
      | inl same ↦ (y, Contains-here y ys, subst (λ a. R a y) same zip.0)
      | inr later ↦ let m = zip_left R xs ys x zip.1 later in (m.0, Contains-there y ys m.0 m.1, m.2)
    ]

pub zip_right : {X Y : Type 0} (R : X → Y → Type 0) (xs : List X) (ys : List Y) (y : Y) → AllZip R xs ys → Contains ys y → (x : X) × Contains xs x × R x y
zip_right R xs [] y zip has = absurd (contains_none y has)
zip_right R [] (z ∷ ys) y zip has = absurd zip
zip_right R (x ∷ xs) (z ∷ ys) y zip has =
    elim (first_or_later z ys y has) [
      | inl same ↦ (x, Contains-here x xs, subst (λ a. R x a) same zip.0)
      | inr later ↦ let m = zip_right R xs ys y zip.1 later in (m.0, Contains-there x xs m.0 m.1, m.2)
    ]

only_one : (x y : Invocation) → ◌≡◌ {A = List Invocation} (x ∷ []) (y ∷ []) → x ≡ y
only_one x y same = ap (λ (l : List Invocation). get_or l 0 x) same

module _ (comps : Design) (rules : FilRules comps) (n : ℕ) (c : Component) (here : slice_get comps n ≡ Some c) where
  abbrev earlier : Design
  earlier = take n comps

  abbrev scope : Scope
  scope = whole_scope earlier c

  abbrev plan : Plan
  plan = plan_of earlier c

  -- a use is of its invocation's instance
  used_inst : (v : Invocation) → Contains scope.invocations v → (u : timeline.Use) → Contains (uses_of scope v) u → u.inst ≡ v.inst
  used_inst v has_v u has_u =
      let f : IsCalled earlier c v = All-contains (IsCalled earlier c) scope.invocations v (all_called comps rules n c here) has_v in
      let used : IsUse f.sig v.inst v.gives.times u = All-contains (IsUse f.sig v.inst v.gives.times) (uses_of scope v) u (all_uses scope v f.sig f.signed) has_u in
      (parts_of used).named

  -- ---- the plan's slots

  -- the plan's invocation of a use
  pub record IsCallFor (u : timeline.Use) : Type 0 where
    pub call : Use
    pub has_call : Contains plan.uses call
    pub inst : call.inst ≡ u.inst
    pub has_slot : Contains call.slots (slot_of c u)

  pub call_of_use : (v : Invocation) → Contains scope.invocations v → (u : timeline.Use) → Contains (uses_of scope v) u → IsCallFor u
  call_of_use v has_v u has_u =
      let z = zip_left (IsMadeAt comps rules n c here) scope.invocations (resolved_calls earlier c) v (all_made comps rules n c here) has_v in
      record {
        call = z.0.call;
        has_call = contains_map (λ (x : Resolved). x.call) (resolved_calls earlier c) z.0 z.1;
        inst = sym (ap (λ (x : Resolved). x.call.inst) z.2.is) ∙ sym (used_inst v has_v u has_u);
        has_slot = subst (λ (x : Resolved). Contains x.call.slots (slot_of c u)) z.2.is (contains_map (slot_of c) (uses_of scope v) u has_u);
      }

  -- the use of a slot
  pub record IsSlotUse (call : Use) (slot : Slot) : Type 0 where
    pub v : Invocation
    pub has_v : Contains scope.invocations v
    pub use_at : timeline.Use
    pub has_use : Contains (uses_of scope v) use_at
    pub inst : use_at.inst ≡ call.inst
    pub is : slot_of c use_at ≡ slot

  pub use_of_slot : (call : Use) → Contains plan.uses call → (slot : Slot) → Contains call.slots slot → IsSlotUse call slot
  use_of_slot call has slot has_slot =
      let x = from_map (λ (y : Resolved). y.call) (resolved_calls earlier c) call has in
      let z = zip_right (IsMadeAt comps rules n c here) scope.invocations (resolved_calls earlier c) x.0 (all_made comps rules n c here) x.1 in
      let is_call : (resolved earlier c (known_before comps rules n c here z.2.k) z.0).call ≡ call = ap (λ (y : Resolved). y.call) z.2.is ∙ x.2 in
      let m = from_map (slot_of c) (uses_of scope z.0) slot (subst (λ (y : Use). Contains y.slots slot) (sym is_call) has_slot) in
      record { v = z.0; has_v = z.1; use_at = m.0; has_use = m.1; inst = used_inst z.0 z.1 m.0 m.1 ∙ ap (λ (y : Use). y.inst) is_call; is = m.2 }

  -- ---- arguments

  -- an argument is known before its statement
  pub args_known : (k : ℕ) (s : Statement) → slice_get c.body k ≡ Some s → (v : Invocation) → invocations_at s ≡ v ∷ [] → All (IsKnownValue (scope_after earlier c (take k c.body))) v.gives.args
  args_known k (New name made params) at_k v only = absurd (cc)
  args_known k (Connect output value) at_k v only = absurd (cc)
  args_known k (Call name inst gives) at_k v only =
      subst (λ (w : Invocation). All (IsKnownValue (scope_after earlier c (take k c.body))) w.gives.args) (only_one (record { name = name; inst = inst; gives = gives }) v only)
      ((names_of comps rules n c here).known_names k (Call name inst gives) at_k).1.args
  args_known k (Both name made params gives) at_k v only =
      subst (λ (w : Invocation). All (IsKnownValue (scope_after earlier c (take k c.body))) w.gives.args) (only_one (record { name = name; inst = name; gives = gives }) v only)
      ((names_of comps rules n c here).known_names k (Both name made params gives) at_k).1.args

  -- the argument of an invocation for an input of its callee, and the use of the input's event
  pub record IsArgument (v : Invocation) (f : IsCalled earlier c v) (p : TimedPort) : Type 0 where
    pub k : ℕ
    pub q : SigPort
    pub at_q : slice_get f.sig.ins k ≡ Some q
    pub is : timed_port q ≡ p
    pub arg : ValueTree
    pub at_arg : slice_get v.gives.args k ≡ Some arg
    pub use_at : timeline.Use
    pub used : IsUse f.sig v.inst v.gives.times use_at
    pub number : use_at.event ≡ q.from.event
    pub between : interval_at v.gives.times q ≡ Some (interval_between use_at.at use_at.at q)
    pub event : Event
    pub at_event : slice_get c.events (event_number c.events use_at.at.event) ≡ Some event
    pub event_named : event.name ≡ use_at.at.event

  pub argument_of : (v : Invocation) (f : IsCalled earlier c v) (p : TimedPort) → Contains (callee_of earlier c v.inst).sig.ins p → IsArgument v f p
  argument_of v f p has_p =
      let t = timed comps rules n c here v f in
      let input = t.ins p has_p in
      let q = input.1 in
      let within = slice_get_within f.sig.ins input.0 q input.2 in
      let arg = some_at v.gives.args input.0 (omega (arith, within, f.each.args)) in
      let s = t.starts p has_p v.inst v.gives.times f.each.times in
      let number : s.0.event ≡ q.from.event = s.2 ∙ sym (ap (λ (x : TimedPort). x.event) input.3) in
      let start : slice_get v.gives.times q.from.event ≡ Some s.0.at = ap (slice_get v.gives.times) (sym number) ∙ (parts_of s.1).time in
      let e = number_of c.events s.0.at.event (All-contains (λ (t : TimeAt). NamesEvent c t.event) v.gives.times s.0.at f.times (Contains-at v.gives.times s.0.event s.0.at (parts_of s.1).time)) in
      record {
        k = input.0;
        q = q;
        at_q = input.2;
        is = input.3;
        arg = arg.0;
        at_arg = arg.1;
        use_at = s.0;
        used = s.1;
        number = number;
        between =
            ap (option_and_then (λ s. option_map (λ t. interval_between s t q) (slice_get v.gives.times q.to.event))) start
            ∙ ap (option_map (λ t. interval_between s.0.at t q)) (ap (slice_get v.gives.times) input.4 ∙ start);
        event = e.0;
        at_event = e.1;
        event_named = e.2;
      }

  -- what the plan reads in its place
  pub argument_source : (v : Invocation) (f : IsCalled earlier c v) (k : ℕ) (call : Use) → (resolved earlier c (known_before comps rules n c here k) v).call ≡ call → (p : TimedPort) (a : IsArgument v f p) →
      call.args a.q.name ≡ source_of (known_before comps rules n c here k) a.arg
  argument_source v f k call is p a =
      let known = known_before comps rules n c here k in
      let ports : inputs_of_callee earlier c v.inst ≡ f.sig.ins = ap (λ (o : Option Signature). option_map_or (λ (x : Signature). x.ins) o []) f.signed in
      sym (ap (λ (x : Use). x.args a.q.name) is)
      ∙ ap (λ (ps : List SigPort). args_of known ps v.gives.args a.q.name) ports
      ∙ args_at known f.sig.ins v.gives.args a.k a.q a.arg (timed comps rules n c here v f).distinct a.at_q a.at_arg
