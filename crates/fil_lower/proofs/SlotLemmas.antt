-- What an invocation's slots keep: each triggers an event of the callee, and two of one instance share it.
use Rattle.std.proofs.Common.{◌≡◌, ◌≢◌, ℕ, suc, ◌+◌, ◌<◌, ◌≤◌, Bool, true, false, List, [], ◌∷◌, length, map, get_or, slice_get, All, Option, Some, None, option_map, refl, sym, ap, subst, ◌∙◌, inl, inr, is_some, arith}
use Rattle.std.specs.List.{AllZip}
use Rattle.std.specs.Prelude.{AllPairs, Contains, bytes_eq, if◌then◌else◌}
use Rattle.std.proofs.lemmas.Bool.{false≢true}
use Rattle.std.proofs.lemmas.List.{get_or-map, length-map}
use Rattle.std.proofs.lemmas.List.Elements.{All-cons, All-contains, All-head, All-nil, All-tail}
use Rattle.std.proofs.lemmas.List.Kept.{AllPairs-cons}
use Rattle.std.proofs.lemmas.Option.{none-some, same_Some, slice_get-map}
use Rattle.std.proofs.lemmas.Slice.Eq.{bytes_eq-Decides}
use Rattle.hw_names.specs.Name.{Text}
use Rattle.hw_prims.specs.Timed.{Fixed, HasDelay, TimedEvent, TimedPort}
use Rattle.fil_ast.proofs.HoldLemmas.{use_listed, uses_by_call}
use Rattle.fil_ast.proofs.UseLemmas.{parts_of}
use Rattle.fil_ast.specs.Behaviours.{timed_delay, timed_event}
use Rattle.fil_ast.specs.Holds.{uses_of}
use Rattle.fil_ast.specs.Naming.{NamesEvent}
use Rattle.fil_ast.specs.Scope.{Invocation}
use Rattle.fil_ast.specs.Sharing.{HasInterface, IsUseOf}
use Rattle.fil_ast.specs.Signature as signature
use Rattle.fil_ast.specs.Signature.{SigEvent, SigPort, Signature, event_number, interface_of, sig_event, sig_port}
use Rattle.fil_ast.specs.Timeline as timeline
use Rattle.fil_ast.specs.Timeline.{IsUse, hold_of, until}
use Rattle.fil_ast.specs.Tree.{Component, Design, Event, Interface, TimeAt}
use Rattle.fil_ast.specs.Wires.{whole_scope}
use Rattle.fil_share.proofs.ListLemmas.{Contains-at}
use Rattle.fil_lower.specs.inside.Plan.{Plan, Slot}
use Rattle.fil_lower.specs.inside.PlanOf.{callee_of, plan_of, slot_of}
use Rattle.fil_lower.specs.inside.PlanRules.{IsEvent, IsSharedBy, IsTriggered}
use Rattle.fil_lower.proofs.CallLemmas.{IsCalled, ShareUses}
use Rattle.fil_lower.proofs.ListLemmas.{contains_none, first_or_later}
use Rattle.fil_lower.proofs.NameLemmas.{from_map}
use Rattle.fil_lower.proofs.TimedAsLemmas.{IsTimedAs, contains_map, number_of}
use Rattle.fil_lower.proofs.UseLemmas.{all_uses}

-- ---- lists

pub pairs_map : {X Y : Type 0} (R : Y → Y → Type 0) (f : X → Y) (xs : List X) → AllPairs (λ (a b : X). R (f a) (f b)) xs → AllPairs R (map f xs)
pairs_map {X} {Y} R f [] pairs i j d less within = absurd (omega (arith, within))
pairs_map {X} {Y} R f (x ∷ xs) pairs i j d less within =
    let j_in : j < length (x ∷ xs) = omega (arith, within, length-map (x ∷ xs) f) in
    let i_in : i < length (x ∷ xs) = omega (arith, j_in, less) in
    subst (λ (a : Y). R a (get_or (map f (x ∷ xs)) j d)) (sym (get_or-map f (x ∷ xs) i x d i_in))
    (subst (λ (b : Y). R (f (get_or (x ∷ xs) i x)) b) (sym (get_or-map f (x ∷ xs) j x d j_in)) (pairs i j x less j_in))

module _ {X Y : Type 0} (Q : X → Y → Type 0) where
  zip_all : (P : X → Type 0) (S : Y → Type 0) (xs : List X) (ys : List Y) → AllZip Q xs ys → All P xs → ((x : X) (y : Y) → Q x y → P x → S y) → All S ys
  zip_all P S [] [] zip all then' = All-nil S
  zip_all P S [] (y ∷ ys) zip all then' = absurd zip
  zip_all P S (x ∷ xs) [] zip all then' = absurd zip
  zip_all P S (x ∷ xs) (y ∷ ys) zip all then' = All-cons S y ys (then' x y zip.0 (All-head P x xs all)) (zip_all P S xs ys zip.1 (All-tail P x xs all) then')

  pub zip_pairs : (R : X → X → Type 0) (S : Y → Y → Type 0) (xs : List X) (ys : List Y) → AllZip Q xs ys → AllPairs R xs → ((x u : X) (y v : Y) → Q x y → Q u v → R x u → S y v) → AllPairs S ys
  zip_pairs R S [] [] zip pairs then' = λ i j d less within. absurd (omega (arith, within))
  zip_pairs R S [] (y ∷ ys) zip pairs then' = absurd zip
  zip_pairs R S (x ∷ xs) [] zip pairs then' = absurd zip
  zip_pairs R S (x ∷ xs) (y ∷ ys) zip pairs then' =
      AllPairs-cons S y ys (zip_all (R x) (S y) xs ys zip.1 (λ k d within. pairs 0 (suc k) d (omega arith) (omega (arith, within))) (λ u v q r. then' x u y v zip.0 q r))
      (zip_pairs R S xs ys zip.1 (λ i j d less within. pairs (suc i) (suc j) d (omega (arith, less)) (omega (arith, within))) then')

-- ---- interface ports

interface_found : (interfaces : List Interface) (event : Text) → Contains (map (λ (g : Interface). g.event) interfaces) event → (h : Text) × (interface_of interfaces event ≡ Some h)
interface_found [] event has = absurd (contains_none event has)
interface_found (g ∷ interfaces) event has = by (bytes_eq g.event event) refl (interface_found interfaces event)
  where
    by : (b : Bool) → bytes_eq g.event event ≡ b → (Contains (map (λ (g : Interface). g.event) interfaces) event → (h : Text) × (interface_of interfaces event ≡ Some h))
        → (h : Text) × ((if b then Some g.name else interface_of interfaces event) ≡ Some h)
    by true same rest = (g.name, refl)
    by false other rest = rest (elim (first_or_later g.event (map (λ (g : Interface). g.event) interfaces) event has) [ inl same ↦ absurd (false≢true (sym other ∙ (bytes_eq-Decides g.event event).1 same)) | inr later ↦ later ])

fixed_rows : (a b : ℕ) → Fixed a ≡ Fixed b → a ≡ b
fixed_rows a b same = cc

module _ (earlier : Design) (c : Component) where
  abbrev plan : Plan
  plan = plan_of earlier c

  -- the component's own event of a name
  record IsOwn (name : Text) : Type 0 where
    event : Event
    has : Contains c.events event
    is_named : event.name ≡ name
    is : IsEvent plan.sig (event_number c.events name) (timed_event (sig_event c.interfaces event))

  own_event : (name : Text) → NamesEvent c name → IsOwn name
  own_event name names =
      let n = number_of c.events name names in
      record {
        event = n.0;
        has = Contains-at c.events (event_number c.events name) n.0 n.1;
        is_named = n.2;
        is =
            slice_get-map timed_event (map (sig_event c.interfaces) c.events) (event_number c.events name)
            ∙ ap (option_map timed_event) (slice_get-map (sig_event c.interfaces) c.events (event_number c.events name) ∙ ap (option_map (sig_event c.interfaces)) n.1);
      }

  own_interface : (name : Text) (own : IsOwn name) → HasInterface c name → (h : Text) × ((timed_event (sig_event c.interfaces own.event)).go ≡ Some h)
  own_interface name own has =
      let h = interface_found c.interfaces name has in
      (h.0, ap (interface_of c.interfaces) own.is_named ∙ h.1)

  -- ---- what one invocation gives its callee

  module _ (v : Invocation) (f : IsCalled earlier c v) (timed : IsTimedAs (callee_of earlier c v.inst).sig f.sig) where
    uses : (u : timeline.Use) → Contains (uses_of (whole_scope earlier c) v) u → IsUse f.sig v.inst v.gives.times u
    uses u has = All-contains (IsUse f.sig v.inst v.gives.times) (uses_of (whole_scope earlier c) v) u (all_uses (whole_scope earlier c) v f.sig f.signed) has

    use_names : (u : timeline.Use) → IsUse f.sig v.inst v.gives.times u → NamesEvent c u.at.event
    use_names u used = All-contains (λ (t : TimeAt). NamesEvent c t.event) v.gives.times u.at f.times (Contains-at v.gives.times u.event u.at (parts_of used).time)

    held_as : (u : timeline.Use) (used : IsUse f.sig v.inst v.gives.times u) (d : signature.Delay) → used.event.delay ≡ d → HasDelay (timed_delay d) u.hold
    held_as u used (signature.Fixed rows) is = same_Some u.hold rows (sym (parts_of used).held ∙ ap (λ d. hold_of d u.at (slice_get v.gives.times (u.event + 1))) is)
    held_as u used signature.End is = absurd (none-some u.hold (sym (ap (λ d. hold_of d u.at (slice_get v.gives.times (u.event + 1))) is) ∙ (parts_of used).held))
    held_as u used signature.Gap is = by (slice_get v.gives.times (u.event + 1)) refl
      where
        by : (o : Option TimeAt) → slice_get v.gives.times (u.event + 1) ≡ o → 1 ≤ u.hold
        by None none = absurd (none-some u.hold (sym (ap (λ d. hold_of d u.at (slice_get v.gives.times (u.event + 1))) is ∙ ap (option_map (until u.at)) none) ∙ (parts_of used).held))
        by (Some t) next =
            let hold : until u.at t ≡ u.hold = same_Some (until u.at t) u.hold (sym (ap (λ d. hold_of d u.at (slice_get v.gives.times (u.event + 1))) is ∙ ap (option_map (until u.at)) next) ∙ (parts_of used).held) in
            let gap : u.at.plus + 1 < t.plus = f.holds u.event used.event used.of is u.at t (parts_of used).time next in
            omega (arith, hold, gap)

    no_end : (u : timeline.Use) (used : IsUse f.sig v.inst v.gives.times u) → used.event.delay ≢ signature.End
    no_end u used is = none-some u.hold (sym (ap (λ d. hold_of d u.at (slice_get v.gives.times (u.event + 1))) is) ∙ (parts_of used).held)

    pub slot_triggered : (slot : Slot) → Contains (map (slot_of c) (uses_of (whole_scope earlier c) v)) slot → IsTriggered plan (callee_of earlier c v.inst).sig slot
    slot_triggered slot has =
        let m = from_map (slot_of c) (uses_of (whole_scope earlier c) v) slot has in
        let u = m.0 in
        let used = uses u m.1 in
        let own = own_event u.at.event (use_names u used) in
        subst (λ (s : Slot). IsTriggered plan (callee_of earlier c v.inst).sig s) m.2 (record {
          theirs = timed_event used.event;
          is_theirs = timed.events u.event used.event used.of (no_end u used);
          held = held_as u used used.event.delay refl;
          own = timed_event (sig_event c.interfaces own.event);
          is_own = own.is;
          delay = own.event.delay;
          fixed = refl;
          within = f.delays u used own.event own.has own.is_named;
          go = λ theirs_go is. own_interface u.at.event own (f.triggers u used (ap is_some ((parts_of used).go ∙ is)));
        })

    pub slot_for_each : (p : TimedPort) → Contains (callee_of earlier c v.inst).sig.ins p → (slot : Slot) × Contains (map (slot_of c) (uses_of (whole_scope earlier c) v)) slot × (slot.target ≡ p.event)
    slot_for_each p has =
        let s = timed.starts p has v.inst v.gives.times f.each.times in
        (slot_of c s.0, contains_map (slot_of c) (uses_of (whole_scope earlier c) v) s.0 (use_listed (whole_scope earlier c) v s.0 (f.sig, f.signed, s.1)), s.2)

    pub slots_once : AllPairs (λ (s t : Slot). s.target ≢ t.target) (map (slot_of c) (uses_of (whole_scope earlier c) v))
    slots_once =
        pairs_map (λ (s t : Slot). s.target ≢ t.target) (slot_of c) (uses_of (whole_scope earlier c) v)
        (λ i j d less within same. let rise = (uses_by_call (whole_scope earlier c) v).1 i j d less within in omega (arith, rise, same))

  -- two invocations of one instance share its events
  pub shared_uses : (v w : Invocation) → IsCalled earlier c v → IsCalled earlier c w → ((u x : timeline.Use) → IsUseOf (whole_scope earlier c) v u → IsUseOf (whole_scope earlier c) w x → u.inst ≡ x.inst → u.event ≡ x.event → ShareUses c u x) →
      v.inst ≡ w.inst → (s t : Slot) → Contains (map (slot_of c) (uses_of (whole_scope earlier c) v)) s → Contains (map (slot_of c) (uses_of (whole_scope earlier c) w)) t → s.target ≡ t.target → IsSharedBy plan s t
  shared_uses v w f g well inst s t has_s has_t target =
      let m = from_map (slot_of c) (uses_of (whole_scope earlier c) v) s has_s in
      let n = from_map (slot_of c) (uses_of (whole_scope earlier c) w) t has_t in
      let u = m.0 in
      let x = n.0 in
      let used_u : IsUse f.sig v.inst v.gives.times u = All-contains (IsUse f.sig v.inst v.gives.times) (uses_of (whole_scope earlier c) v) u (all_uses (whole_scope earlier c) v f.sig f.signed) m.1 in
      let used_x : IsUse g.sig w.inst w.gives.times x = All-contains (IsUse g.sig w.inst w.gives.times) (uses_of (whole_scope earlier c) w) x (all_uses (whole_scope earlier c) w g.sig g.signed) n.1 in
      let event : u.event ≡ x.event = ap (λ (y : Slot). y.target) m.2 ∙ target ∙ sym (ap (λ (y : Slot). y.target) n.2) in
      let h = well u x (f.sig, f.signed, used_u) (g.sig, g.signed, used_x) ((parts_of used_u).named ∙ inst ∙ sym (parts_of used_x).named) event in
      let names : NamesEvent c x.at.event = All-contains (λ (t : TimeAt). NamesEvent c t.event) w.gives.times x.at g.times (Contains-at w.gives.times x.event x.at (parts_of used_x).time) in
      let own = own_event x.at.event names in
      let number : event_number c.events u.at.event ≡ event_number c.events x.at.event = ap (event_number c.events) h.event in
      let is_own = λ (e : TimedEvent) (at : IsEvent plan.sig (event_number c.events u.at.event) e).
      let same : timed_event (sig_event c.interfaces own.event) ≡ e = same_Some (timed_event (sig_event c.interfaces own.event)) e (sym own.is ∙ ap (λ (k : ℕ). slice_get plan.sig.events k) (sym number) ∙ at) in same in
      let rows = λ (e : TimedEvent) (delay : ℕ) (at : IsEvent plan.sig (event_number c.events u.at.event) e) (fixed : e.delay ≡ Fixed delay).
      let same : own.event.delay ≡ delay = fixed_rows own.event.delay delay (ap (λ (y : TimedEvent). y.delay) (is_own e at) ∙ fixed) in same in
      let both = h.in_time own.event own.has own.is_named in
      subst (λ (y : Slot). IsSharedBy plan y t) m.2 (subst (λ (y : Slot). IsSharedBy plan (slot_of c u) y) n.2 (record {
        event = number;
        disjoint = h.disjoint;
        forth = λ e delay at fixed. let first = both.0 in let same = rows e delay at fixed in omega (arith, first, same);
        back = λ e delay at fixed. let last = both.1 in let same = rows e delay at fixed in omega (arith, last, same);
        go = λ e at. let i = own_interface x.at.event own h.interface in (i.0, ap (λ (y : TimedEvent). y.go) (sym (is_own e at)) ∙ i.1);
      }))
