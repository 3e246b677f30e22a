-- F7 and F10 of a callee's events.
use Rattle.std.proofs.Common.{◌≡◌, ℕ, ◌+◌, ◌<◌, ◌≤◌, ◌↔◌, List, map, slice_get, Contains, Option, Some, None, refl, sym, ap, subst, ◌∙◌, arith}
use Rattle.std.specs.Bool.{IsTrue}
use Rattle.std.specs.Prelude.{nat_le}
use Rattle.std.proofs.lemmas.Bool.{leb-true, le-leb}
use Rattle.std.proofs.lemmas.Option.{get_or_from_slice_get, none-some, same_Some, slice_get-get_or, slice_get_within}
use Rattle.hw_names.specs.Name.{Text, AreDistinct}
use Rattle.hw_names.proofs.NameLemmas.{same_number}
use Rattle.fil_ast.proofs.UseLemmas.{by_parts, parts_of}
use Rattle.fil_ast.specs.Naming.{event_names}
use Rattle.fil_ast.specs.Scope.{Scope}
use Rattle.fil_ast.specs.Signature as tree
use Rattle.fil_ast.specs.Timeline.{HoldsSome, KeepsDelays, Use, hold_of, until}
use Rattle.fil_ast.specs.Tree.{TimeAt, Event, Component, ValueTree, component_tree, event_tree}
use Rattle.fil_ast.specs.declared.tree.EventDef.{EventDef}
use Rattle.fil_ast.specs.declared.tree.FilComp.{FilComp}
use Rattle.fil_sig.specs.Seen.{seen, seen_delay, seen_event}
use Rattle.fil_sig.specs.declared.time_sig.SigEvent.{SigEvent}
use Rattle.fil_sig.specs.declared.time_sig.TimeSig.{TimeSig}
use Rattle.fil_rules.specs.inside.Holds.{HoldsAt, KeepsDelayAt}
use Rattle.fil_place.specs.Uses.{ShowsUse}
use Rattle.fil_place.specs.declared.uses.Use as uses
use Rattle.fil_place.proofs.GeneralLemmas.{mapped_at, unmapped}
use Rattle.fil_place.proofs.TimeLemmas.{shown_parts}

-- F7 of one event
module _ (events : List Text) (times : List TimeAt) (k : ℕ) where
  next_of : (s : TimeAt) (t : Option TimeAt) (hold : ℕ) → hold_of tree.Gap s t ≡ Some hold → (u : TimeAt) × (t ≡ Some u) × (until s u ≡ hold)
  next_of s None hold e = absurd (cc)
  next_of s (Some u) hold e = (u, refl, same_Some (until s u) hold e)

  pub holds_use : (u : uses.Use) → ShowsUse events tree.Gap times k (Some u) → (0 < u.hold) ↔ HoldsAt tree.Gap times k
  holds_use u (time, shown, use_at) =
      let next = next_of time (slice_get times (k + 1)) u.hold use_at.held in (
        λ some gap s t is_s is_t.
            (let same_s : time ≡ s = same_Some time s (sym use_at.at ∙ is_s) in
            let same_t : next.0 ≡ t = same_Some next.0 t (sym next.1 ∙ is_t) in
            let rows_s = ap (λ (t : TimeAt). t.plus) same_s in
            let rows_t = ap (λ (t : TimeAt). t.plus) same_t in
            let held = next.2 in omega arith),
        λ holds. (let later = holds refl time next.0 use_at.at next.1 in let held = next.2 in omega arith),
      )

  pub holds_unused : (delay : tree.Delay) → ShowsUse events delay times k None → HoldsAt delay times k
  holds_unused delay none gap s t is_s is_t =
      absurd (none s (until s t) (record { at = is_s; held = ap (λ (d : tree.Delay). hold_of d s (slice_get times (k + 1))) gap ∙ ap (hold_of tree.Gap s) is_t }))

-- F7 and F10 of all events
module _ (sig : TimeSig) (times : List TimeAt) where
  abbrev pub Holds : ℕ → SigEvent → Type 0
  Holds k e = HoldsAt (seen_delay e.delay) times k

  pub holds_each : ((k : ℕ) (e : SigEvent) → slice_get sig.events.items k ≡ Some e → Holds k e) → HoldsSome (seen sig) times
  holds_each each k e at gap s t is_s is_t =
      let x = unmapped seen_event sig.events.items k e at in
      each k x.0 x.1 (ap (λ (e : tree.SigEvent). e.delay) x.2 ∙ gap) s t is_s is_t

  pub holds_of_each : HoldsSome (seen sig) times → (k : ℕ) (e : SigEvent) → slice_get sig.events.items k ≡ Some e → Holds k e
  holds_of_each all k e at gap s t is_s is_t = all k (seen_event e) (mapped_at seen_event sig.events.items k e at) gap s t is_s is_t

  module _ (c : Component) where
    abbrev pub Keeps : ℕ → SigEvent → Type 0
    Keeps k e = KeepsDelayAt c (seen_delay e.delay) times k

    module _ (scope : Scope) (is : scope.comp ≡ c) (inst : Text) (args : List ValueTree) where
      abbrev AllKept : Type 0
      AllKept = KeepsDelays scope (seen sig) inst (record { times = times; args = args })

      pub keeps_each : ((k : ℕ) (e : SigEvent) → slice_get sig.events.items k ≡ Some e → Keeps k e) → AllKept
      keeps_each each u use_at e there named =
          let x = unmapped seen_event sig.events.items u.event use_at.event use_at.of in
          let H : tree.Delay → Type 0 = λ d. hold_of d u.at (slice_get times (u.event + 1)) ≡ Some u.hold in
          each u.event x.0 x.1 u.at u.hold
          (record { at = (parts_of use_at).time; held = subst H (ap (λ (e : tree.SigEvent). e.delay) (sym x.2)) (parts_of use_at).held })
          e (subst (λ (c : Component). Contains c.events e) is there) named

      pub keeps_of_each : AllKept → (k : ℕ) (e : SigEvent) → slice_get sig.events.items k ≡ Some e → Keeps k e
      keeps_of_each all k x at time hold use_at e there named =
          let u : Use = record { inst = inst; event = k; go = (seen_event x).go; at = time; hold = hold } in
          all u
          (by_parts (seen_event x) (mapped_at seen_event sig.events.items k x at) (record { named = refl; go = refl; time = use_at.at; held = use_at.held }))
          e (subst (λ (c : Component). Contains c.events e) (sym is) there) named

-- the one event of a name
module _ (names : List Text) (comp : FilComp) (events : List Text) (are : events ≡ event_names (component_tree names comp)) (n : ℕ) (name : Text) (at : slice_get events n ≡ Some name) where
  abbrev listed : List Event
  listed = map (event_tree names) comp.events.items

  named_here : slice_get (map (λ (e : Event). e.name) listed) n ≡ Some name
  named_here = ap (λ (ts : List Text). slice_get ts n) (sym are) ∙ at

  pub event_there : (d : EventDef) × (slice_get comp.events.items n ≡ Some d) × ((event_tree names d).name ≡ name)
  event_there =
      let e = unmapped (λ (e : Event). e.name) listed n name named_here in
      let d = unmapped (event_tree names) comp.events.items n e.0 e.1 in
      (d.0, d.1, ap (λ (e : Event). e.name) d.2 ∙ e.2)

  module _ (distinct : AreDistinct events) (d : EventDef) (here : slice_get comp.events.items n ≡ Some d) where
    listed_here : slice_get listed n ≡ Some (event_tree names d)
    listed_here = mapped_at (event_tree names) comp.events.items n d here

    pub only_delay : (e : Event) → Contains listed e → e.name ≡ name → e.delay ≡ d.delay
    only_delay e (k, within, is) named =
        let at_k : slice_get listed k ≡ Some e = slice_get-get_or listed k e within ∙ ap Some is in
        let name_at_k : slice_get events k ≡ Some name = ap (λ (ts : List Text). slice_get ts k) are ∙ mapped_at (λ (e : Event). e.name) listed k e at_k ∙ ap Some named in
        let same : k ≡ n = same_number events k n name distinct name_at_k at in
        ap (λ (e : Event). e.delay) (same_Some e (event_tree names d) (sym at_k ∙ ap (slice_get listed) same ∙ listed_here))

    pub is_there : Contains listed (event_tree names d)
    is_there =
        (n, slice_get_within listed n (event_tree names d) listed_here, get_or_from_slice_get listed n (event_tree names d) (event_tree names d) listed_here)

    pub its_name : (event_tree names d).name ≡ name
    its_name =
        let same = same_Some event_there.0 d (sym event_there.1 ∙ here) in
        sym (ap (λ (e : EventDef). (event_tree names e).name) same) ∙ event_there.2

-- what a comparison tells
pub told_le : (P : Type 0) (a b c : ℕ) → a ≡ b → (b ≤ c → P) → (P → b ≤ c) → IsTrue (nat_le a c) ↔ P
told_le P a b c same gives takes = (
  λ t. gives (let below = leb-true a c t in omega arith),
  λ p. (let below = takes p in le-leb a c (omega arith)),
)

-- F10 of one event
module _ (names : List Text) (comp : FilComp) (events : List Text) (are : events ≡ event_names (component_tree names comp)) (times : List TimeAt) (delay : tree.Delay) (k : ℕ) where
  pub kept_unused : ShowsUse events delay times k None → KeepsDelayAt (component_tree names comp) delay times k
  kept_unused none time hold use_at e there same = absurd (none time hold use_at)

  module _ (u : uses.Use) (shown : ShowsUse events delay times k (Some u)) where
    named_event : slice_get events u.at.event ≡ Some shown.0.event
    named_event = (shown_parts events u.at shown.0 shown.1).0

    pub has_event : slice_get comp.events.items u.at.event ≡ None → ⊥
    has_event none = let e = event_there names comp events are u.at.event shown.0.event named_event in none-some e.0 (sym none ∙ e.1)

    module _ (distinct : AreDistinct events) (d : EventDef) (here : slice_get comp.events.items u.at.event ≡ Some d) where
      pub kept : u.hold ≤ d.delay → KeepsDelayAt (component_tree names comp) delay times k
      kept within time hold use_at e there same =
          let same_time : shown.0 ≡ time = same_Some shown.0 time (sym shown.2.at ∙ use_at.at) in
          let same_hold : u.hold ≡ hold =
          same_Some u.hold hold (sym shown.2.held ∙ ap (λ (t : TimeAt). hold_of delay t (slice_get times (k + 1))) same_time ∙ use_at.held) in
          let delayed = only_delay names comp events are u.at.event shown.0.event named_event distinct d here e there (same ∙ ap (λ (t : TimeAt). t.event) (sym same_time)) in
          omega arith

      pub kept_within : KeepsDelayAt (component_tree names comp) delay times k → u.hold ≤ d.delay
      kept_within kept =
          kept shown.0 u.hold shown.2 (event_tree names d) (is_there names comp events are u.at.event shown.0.event named_event distinct d here)
          (its_name names comp events are u.at.event shown.0.event named_event distinct d here)
