-- F13, event by event.
use Rattle.std.proofs.Common.{◌≡◌, ℕ, ◌+◌, ◌<◌, ◌≤◌, ◌⊎◌, inl, inr, List, length, map, slice_get, get_or, Option, Some, None, refl, sym, ap, subst, ◌∙◌, arith}
use Rattle.std.specs.Prelude.{IsSome}
use Rattle.std.proofs.lemmas.Bool.{cases_lt}
use Rattle.std.proofs.lemmas.Option.{none-some, same_Some, slice_get-get_or, slice_get_within, get_or_from_slice_get}
use Rattle.hw_names.specs.Name.{Text, text_of}
use Rattle.fil_ast.proofs.UseLemmas.{by_parts, parts_of}
use Rattle.fil_ast.specs.Naming.{event_names}
use Rattle.fil_ast.specs.Scope.{Scope, Invocation}
use Rattle.fil_ast.specs.Sharing.{HasInterface, IsEarlierUse, IsUseOf, KeepsUsesApart, TriggersWithInterface}
use Rattle.fil_ast.specs.Signature.{Delay, Fixed, Gap, End, SigEvent, Signature}
use Rattle.fil_ast.specs.Timeline.{IsUse, Use, hold_of, until}
use Rattle.fil_ast.specs.Tree.{Component, Interface, TimeAt, component_tree, interface_tree}
use Rattle.fil_ast.specs.declared.tree.EventDef.{EventDef}
use Rattle.fil_ast.specs.declared.tree.FilComp.{FilComp}
use Rattle.fil_ast.specs.declared.tree.GoPort.{GoPort}
use Rattle.fil_rules.specs.inside.Shared.{IsInvoked}
use Rattle.fil_place.specs.Uses.{HasDelay, IsShownBy}
use Rattle.fil_rules.specs.inside.Sharing.{IsMarkedAt, IsUsedBefore}
use Rattle.fil_place.specs.Uses.{ShowsUse}
use Rattle.fil_place.specs.declared.tables.Tables.{Tables}
use Rattle.fil_place.specs.declared.times.Offset.{Offset}
use Rattle.fil_place.specs.declared.uses.Use as numbers
use Rattle.fil_place.proofs.EachLemmas.{EachBelow}
use Rattle.fil_place.proofs.GeneralLemmas.{mapped_at, unmapped}
use Rattle.fil_place.proofs.UseLemmas.{a_use, no_use, same_use}
use Rattle.fil_rules.proofs.SharingLemmas.{from_earlier, from_own, to_earlier, to_own}
use Rattle.fil_rules.proofs.HoldLemmas.{event_there, its_name}

-- the interface ports of an event
module _ (names : List Text) (comp : FilComp) (event : Text) where
  abbrev pub IsNoPort : ℕ → GoPort → Type 0
  IsNoPort k g = text_of names g.event ≡ event → ⊥

  pub port_there : (i : ℕ) (g : GoPort) → slice_get comp.gos.items i ≡ Some g → text_of names g.event ≡ event → HasInterface (component_tree names comp) event
  port_there i g here same =
      let all = map (λ (x : Interface). x.event) (map (interface_tree names) comp.gos.items) in
      let one = mapped_at (interface_tree names) comp.gos.items i g here in
      let two : slice_get all i ≡ Some event = mapped_at (λ (x : Interface). x.event) (map (interface_tree names) comp.gos.items) i (interface_tree names g) one ∙ ap Some same in
      (i, slice_get_within all i event two, get_or_from_slice_get all i event event two)

  pub no_port : (n : ℕ) → length comp.gos.items ≤ n → EachBelow IsNoPort comp.gos.items n → HasInterface (component_tree names comp) event → ⊥
  no_port n end none (k, within, found) =
      let all = map (λ (x : Interface). x.event) (map (interface_tree names) comp.gos.items) in
      let at : slice_get all k ≡ Some event = slice_get-get_or all k event within ∙ ap Some found in
      let one = unmapped (λ (x : Interface). x.event) (map (interface_tree names) comp.gos.items) k event at in
      let two = unmapped (interface_tree names) comp.gos.items k one.0 one.1 in
      let inside = slice_get_within comp.gos.items k two.0 two.1 in
      none k two.0 (omega arith) two.1 (ap (λ (x : Interface). x.event) two.2 ∙ one.2)

-- an event is triggered, or it isn't
module _ (sig : Signature) (inst : Text) (times : List TimeAt) (k : ℕ) where
  abbrev pub Triggers : Type 0
  Triggers = (u : Use) × IsUse sig inst times u × (u.event ≡ k)

  by_hold : (e : SigEvent) (s : TimeAt) → slice_get sig.events k ≡ Some e → slice_get times k ≡ Some s → (o : Option ℕ) → hold_of e.delay s (slice_get times (k + 1)) ≡ o → Triggers ⊎ (Triggers → ⊥)
  by_hold e s at_e at_s (Some hold) held =
      inl (
        record { inst = inst; event = k; go = e.go; at = s; hold = hold },
        by_parts e at_e (record { named = refl; go = refl; time = at_s; held = held }),
        refl,
      )
  by_hold e s at_e at_s None held = inr (λ (u, is, same).
      let event : is.event ≡ e = same_Some is.event e (sym is.of ∙ ap (slice_get sig.events) same ∙ at_e) in
      let time : u.at ≡ s = same_Some u.at s (sym (parts_of is).time ∙ ap (slice_get times) same ∙ at_s) in
      let told : Some u.hold ≡ None =
      sym (parts_of is).held ∙ ap (λ (x : SigEvent). hold_of x.delay u.at (slice_get times (u.event + 1))) event
      ∙ ap (λ (t : TimeAt). hold_of e.delay t (slice_get times (u.event + 1))) time
      ∙ ap (λ (n : ℕ). hold_of e.delay s (slice_get times (n + 1))) same ∙ held in
      none-some u.hold (sym told))

  by_time : (e : SigEvent) → slice_get sig.events k ≡ Some e → (o : Option TimeAt) → slice_get times k ≡ o → Triggers ⊎ (Triggers → ⊥)
  by_time e at_e (Some s) at_s = by_hold e s at_e at_s (hold_of e.delay s (slice_get times (k + 1))) refl
  by_time e at_e None at_s = inr (λ (u, is, same). none-some u.at (sym at_s ∙ ap (slice_get times) (sym same) ∙ (parts_of is).time))

  by_event : (o : Option SigEvent) → slice_get sig.events k ≡ o → Triggers ⊎ (Triggers → ⊥)
  by_event (Some e) at_e = by_time e at_e (slice_get times k) refl
  by_event None at_e = inr (λ (u, is, same). none-some is.event (sym at_e ∙ ap (slice_get sig.events) (sym same) ∙ is.of))

  pub triggers_or_not : Triggers ⊎ (Triggers → ⊥)
  triggers_or_not = by_event (slice_get sig.events k) refl

-- what is triggered at times is so at as many others
module _ (sig : Signature) (inst : Text) (times others : List TimeAt) (longer : length times ≤ length others) where
  gap_too : (s t : TimeAt) (n hold : ℕ) (o : Option TimeAt) → slice_get times n ≡ o → hold_of Gap s o ≡ Some hold → (h : ℕ) × (hold_of Gap t (slice_get others n) ≡ Some h)
  gap_too s t n hold None at e = absurd (cc)
  gap_too s t n hold (Some x) at e =
      let within = slice_get_within times n x at in
      let y = get_or others n x in
      let there : slice_get others n ≡ Some y = slice_get-get_or others n x (omega arith) in (until t y, ap (hold_of Gap t) there)

  held_too : (d : Delay) (s t : TimeAt) (n hold : ℕ) → hold_of d s (slice_get times n) ≡ Some hold → (h : ℕ) × (hold_of d t (slice_get others n) ≡ Some h)
  held_too (Fixed rows) s t n hold e = (rows, refl)
  held_too Gap s t n hold e = gap_too s t n hold (slice_get times n) refl e
  held_too End s t n hold e = absurd (cc)

  pub triggers_too : (u : Use) → IsUse sig inst times u → Triggers sig inst others u.event
  triggers_too u is =
      let within = slice_get_within times u.event u.at (parts_of is).time in
      let s = get_or others u.event u.at in
      let at_s : slice_get others u.event ≡ Some s = slice_get-get_or others u.event u.at (omega arith) in
      let held = held_too is.event.delay u.at s (u.event + 1) u.hold (parts_of is).held in (
        record { inst = inst; event = u.event; go = is.event.go; at = s; hold = held.0 },
        by_parts is.event is.of (record { named = refl; go = refl; time = at_s; held = held.1 }),
        refl,
      )

-- so where an event is triggered at times and not at others, these are more
pub more_times : (sig : Signature) (inst : Text) (times others : List TimeAt) (u : Use) → IsUse sig inst times u → (Triggers sig inst others u.event → ⊥) → length others < length times
more_times sig inst times others u is none = elim (cases_lt (length others) (length times)) [
  | inl less ↦ less
  | inr longer ↦ absurd (none (triggers_too sig inst times others longer u is))
]

module _ (names : List Text) (comp : FilComp) (tables : Tables) (calls : List ℕ) (sig : Signature) (at : List Offset) (with : Scope) (v : Invocation) (is : IsInvoked names comp tables calls sig at with v) where
  module _ (kept : KeepsUsesApart with v) where
    pub marked_all : ((k : ℕ) → IsMarkedAt with v k) → TriggersWithInterface with v
    marked_all marked = record {
      triggers = λ u is_u some. marked u.event u is_u refl (inl some);
      once = λ w u x has named is_u is_x same.
          (let own = from_own names comp tables calls sig at with v is u is_u in
          let then = from_earlier names comp tables calls sig at with v is w named x is_x in
          elim (triggers_or_not sig v.inst w.gives.times u.event) [
            | inl before ↦
                marked u.event u is_u refl
                (inr (record { earlier = w; is_earlier = has; same_instance = named; use_then = before.0; triggered = to_earlier names comp tables calls sig at with v is w named before.0 before.1; same_event = before.2 }))
            | inr never ↦ elim (triggers_or_not sig v.inst v.gives.times x.event) [
              | inl now ↦
                  let y = now.0 in
                  let is_y = to_own names comp tables calls sig at with v is y now.1 in
                  let port = marked x.event y is_y now.2 (inr (record { earlier = w; is_earlier = has; same_instance = named; use_then = x; triggered = is_x; same_event = refl })) in
                  let on = (kept y x is_y (record { invocation = w; is_earlier = has; uses = is_x; same_instance = (parts_of then).named ∙ sym (parts_of now.1).named; same_event = sym now.2 })).0 in
                  subst (HasInterface with.comp) (sym on ∙ same) port
              | inr not_now ↦
                  let fewer = more_times sig v.inst v.gives.times w.gives.times u own never in
                  let more = more_times sig v.inst w.gives.times v.gives.times x then not_now in absurd (omega arith)
            ]
          ]);
    }

    pub marked_each : TriggersWithInterface with v → (k : ℕ) → IsMarkedAt with v k
    marked_each keeps k u is_u here why = elim why [
      | inl some ↦ keeps.triggers u is_u some
      | inr b ↦
          let own = from_own names comp tables calls sig at with v is u is_u in
          let known : IsEarlierUse with u b.use_then = record { invocation = b.earlier; is_earlier = b.is_earlier; uses = b.triggered; same_instance = (parts_of b.triggered.2).named ∙ b.same_instance ∙ sym (parts_of own).named; same_event = b.same_event ∙ sym here } in
          keeps.once b.earlier u b.use_then b.is_earlier b.same_instance is_u b.triggered (kept u b.use_then is_u known).0
    ]

  -- the event's use by numbers, and the component's event on which it is
  module _ (k : ℕ) (delay : Delay) (has : HasDelay sig k delay) where
    pub marked_unused : ShowsUse tables.events delay v.gives.times k None → IsMarkedAt with v k
    marked_unused told u is_u here why =
        absurd (no_use tables.events sig v.inst v.gives.times k delay has told u (from_own names comp tables calls sig at with v is u is_u) here)

    its_go : (u : Use) → IsUseOf with v u → u.event ≡ k → u.go ≡ has.0.go
    its_go u is_u here =
        let own = from_own names comp tables calls sig at with v is u is_u in
        (parts_of own).go ∙ ap (λ (e : SigEvent). e.go) (same_Some own.event has.0 (sym own.of ∙ ap (slice_get sig.events) here ∙ has.1))

    pub marked_free : (IsSome has.0.go ⊎ IsUsedBefore with v k → ⊥) → IsMarkedAt with v k
    marked_free none u is_u here why = absurd (none (elim why [
      | inl some ↦ inl (subst (λ (go : Option Text). IsSome go) (its_go u is_u here) some)
      | inr used ↦ inr used
    ]))

    module _ (o : numbers.Use) (told : ShowsUse tables.events delay v.gives.times k (Some o)) where
      x : (u : Use) × IsUse sig v.inst v.gives.times u × (u.event ≡ k) × IsShownBy tables.events o u
      x = a_use tables.events sig v.inst v.gives.times k delay has o told

      are : tables.events ≡ event_names (component_tree names comp)
      are = is.events ∙ ap event_names is.is_comp

      pub on_some : slice_get comp.events.items o.at.event ≡ None → ⊥
      on_some none = let e = event_there names comp tables.events are o.at.event x.0.at.event x.3.event in none-some e.0 (sym none ∙ e.1)

      module _ (d : EventDef) (there : slice_get comp.events.items o.at.event ≡ Some d) where
        named_so : text_of names d.name ≡ x.0.at.event
        named_so = its_name names comp tables.events are o.at.event x.0.at.event x.3.event is.distinct d there

        pub marked_by : HasInterface (component_tree names comp) (text_of names d.name) → IsMarkedAt with v k
        marked_by port u is_u here why =
            let like = same_use sig v.gives.times v.inst v.inst x.0 u x.1 (from_own names comp tables calls sig at with v is u is_u) (x.2 ∙ sym here) in
            let name = named_so ∙ ap (λ (t : TimeAt). t.event) like.0 in
            subst (λ (c : Component). HasInterface c u.at.event) (sym is.is_comp) (subst (HasInterface (component_tree names comp)) name port)

        pub port_of : IsSome has.0.go ⊎ IsUsedBefore with v k → IsMarkedAt with v k → HasInterface (component_tree names comp) (text_of names d.name)
        port_of why marked =
            let is_x = to_own names comp tables calls sig at with v is x.0 x.1 in
            let why_x : IsSome x.0.go ⊎ IsUsedBefore with v k = elim why [
              | inl some ↦ inl (subst (λ (go : Option Text). IsSome go) (sym (its_go x.0 is_x x.2)) some)
              | inr used ↦ inr used
            ] in
            let port = marked x.0 is_x x.2 why_x in
            subst (λ (c : Component). HasInterface c (text_of names d.name)) is.is_comp (subst (HasInterface with.comp) (sym named_so) port)
