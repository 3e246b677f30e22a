-- The span of an event's uses; F12.
use Rattle.std.proofs.Common.{◌≡◌, ℕ, ◌+◌, ◌-◌, ◌<◌, ◌≤◌, ◌^◌, ◌⊎◌, inl, inr, List, length, slice_get, Contains, Option, Some, None, refl, sym, ap, ap₂, subst, ◌∙◌, arith}
use Rattle.std.specs.Prelude.{max, IfNone, IfSome, MatchOption}
use Rattle.std.proofs.lemmas.Bool.{cases_lt}
use Rattle.std.proofs.lemmas.Option.{same_Some, slice_get-get_or, slice_get_within, get_or_from_slice_get}
use Rattle.hw_names.specs.Name.{Text}
use Rattle.fil_ast.proofs.SharingLemmas.{ends_by_pairs, pairs_by_ends}
use Rattle.fil_ast.proofs.UseLemmas.{parts_of}
use Rattle.fil_ast.specs.Evidence.{AreKeptApart, Fits, IsGap, IsSpan, UsesEvent, Own, Another}
use Rattle.fil_ast.specs.Naming.{event_names}
use Rattle.fil_ast.specs.Scope.{Scope, Invocation}
use Rattle.fil_ast.specs.Sharing.{AreDisjoint, EndsInTime, IsUseOf, KeepsUsesApart}
use Rattle.fil_ast.specs.Signature.{Delay, Fixed, Gap, End, Signature}
use Rattle.fil_ast.specs.Timeline.{IsUse, Use, hold_of, until}
use Rattle.fil_ast.specs.Tree.{Component, Event, TimeAt, component_tree, event_tree}
use Rattle.fil_ast.specs.declared.tree.EventDef.{EventDef}
use Rattle.fil_ast.specs.declared.tree.FilComp.{FilComp}
use Rattle.fil_share.specs.declared.hold.Meet.{Meet}
use Rattle.fil_place.specs.Callees.{HasGoodDelay, HasGoodTimes, IsGoodDelay}
use Rattle.fil_rules.specs.inside.StandsAt.{AreShared}
use Rattle.fil_rules.specs.inside.Shared.{IsInvoked}
use Rattle.fil_rules.specs.inside.Sharing.{EndsAt, GapAt, IsFirstOf, IsLastOf, IsSpanOf, SpanFits, SpanMeets}
use Rattle.fil_place.specs.Uses.{MOST_HOLD}
use Rattle.fil_rules.specs.declared.sharing.in_time.Span.{Span}
use Rattle.fil_place.specs.declared.tables.Tables.{Tables}
use Rattle.fil_place.specs.declared.times.Offset.{Offset}
use Rattle.fil_place.specs.declared.uses.Use as numbers
use Rattle.fil_place.proofs.UseLemmas.{AreAlike, same_use}
use Rattle.fil_rules.proofs.SharingLemmas.{alike_back, apart_alike, disjoint_back, from_own}
use Rattle.fil_rules.proofs.HoldLemmas.{event_there, is_there, its_name, only_delay}

-- an event of a good delay is held for a row or more
held_by : (d : Delay) (s : TimeAt) (next : Option TimeAt) (hold : ℕ) → IsGoodDelay d → hold_of d s next ≡ Some hold → (d ≡ Gap → (t : TimeAt) → next ≡ Some t → s.plus + 1 < t.plus) → 0 < hold
held_by (Fixed rows) s next hold good e later =
    let same : rows ≡ hold = same_Some rows hold e in let least : 1 ≤ rows = good.0 in omega arith
held_by Gap s None hold good e later = absurd (cc)
held_by Gap s (Some t) hold good e later =
    let same : t.plus - (s.plus + 1) ≡ hold = same_Some (until s t) hold e in let less : s.plus + 1 < t.plus = later refl t refl in omega arith
held_by End s next hold good e later = absurd (cc)

-- what a look-up that may find nothing tells
pub told_other : (P P' : Type 0) (Q Q' : Meet → Type 0) (r : Option Meet) → MatchOption r P Q → (P → P') → ((x : Meet) → Q x → Q' x) → MatchOption r P' Q'
told_other P P' Q Q' None told none some = none told
told_other P P' Q Q' (Some x) told none some = some x told

module _ (names : List Text) (comp : FilComp) (tables : Tables) (calls : List ℕ) (sig : Signature) (at : List Offset) (with : Scope) (v : Invocation) (is : IsInvoked names comp tables calls sig at with v) where
  own : (u : Use) → IsUseOf with v u → IsUse sig v.inst v.gives.times u
  own u is_u = from_own names comp tables calls sig at with v is u is_u

  pub alike_in : (w : Invocation) (a b : Use) → IsUseOf with w a → IsUseOf with w b → a.event ≡ b.event → AreAlike a b
  alike_in w a b (s, is_s, use_a) (t, is_t, use_b) same =
      let use_too : IsUse s w.inst w.gives.times b = subst (λ (x : Signature). IsUse x w.inst w.gives.times b) (same_Some t s (sym is_t ∙ is_s)) use_b in
      same_use s w.gives.times w.inst w.inst a b use_a use_too same

  -- uses by two earlier invocations of one instance
  pub two_earlier : (i j : Invocation) (a b : Use) → Contains with.invocations i → Contains with.invocations j → IsUseOf with i a → IsUseOf with j b → a.inst ≡ b.inst → a.event ≡ b.event
      → AreAlike a b ⊎ (AreShared with a b ⊎ AreShared with b a)
  two_earlier i j a b has_i has_j use_a use_b inst event =
      let m = has_i.0 in
      let n = has_j.0 in
      let at_m : slice_get with.invocations m ≡ Some i = slice_get-get_or with.invocations m i has_i.1 ∙ ap Some has_i.2 in
      let at_n : slice_get with.invocations n ≡ Some j = slice_get-get_or with.invocations n j has_j.1 ∙ ap Some has_j.2 in
      elim (cases_lt m n) [
        | inl before ↦ inr (inl (is.shared m n i j a b before at_m at_n use_a use_b inst event))
        | inr after ↦ elim (cases_lt n m) [
          | inl later ↦ inr (inr (is.shared n m j i b a later at_n at_m use_b use_a (sym inst) (sym event)))
          | inr le ↦
              let same : m ≡ n = omega arith in
              let same_invocation = same_Some j i (sym at_n ∙ ap (slice_get with.invocations) (sym same) ∙ at_m) in
              inl (alike_in i a b use_a (subst (λ (w : Invocation). IsUseOf with w b) same_invocation use_b) event)
        ]
      ]

  module _ (good : HasGoodTimes sig) (kept : KeepsUsesApart with v) where
    own_held : (u : Use) → IsUseOf with v u → 0 < u.hold
    own_held u is_u =
        let x = own u is_u in
        let within = slice_get_within sig.events u.event x.event x.of in
        let delay = subst HasGoodDelay (get_or_from_slice_get sig.events u.event x.event x.event x.of) (good.delays u.event x.event within) in
        held_by x.event.delay u.at (slice_get v.gives.times (u.event + 1)) u.hold delay (parts_of x).held (λ gap t is_t. is.own_holds u.event x.event x.of gap u.at t (parts_of x).time is_t)

    module _ (k : ℕ) where
      abbrev Uses : Use → Type 0
      Uses a = UsesEvent with v k a

      held : (a : Use) → Uses a → 0 < a.hold
      held a (Own is_a here) = own_held a is_a
      held a (Another u is_u here earlier) = is.held earlier.invocation a earlier.is_earlier earlier.uses

      event_of : (a : Use) → Uses a → a.event ≡ k
      event_of a (Own is_a here) = here
      event_of a (Another u is_u here earlier) = earlier.same_event ∙ here

      inst_of : (a : Use) → Uses a → a.inst ≡ v.inst
      inst_of a (Own is_a here) = (parts_of (own a is_a)).named
      inst_of a (Another u is_u here earlier) = earlier.same_instance ∙ (parts_of (own u is_u)).named

      own_other : (u a : Use) → IsUseOf with v u → u.event ≡ k → Uses a → AreAlike u a ⊎ AreKeptApart a u
      own_other u a is_u here (Own is_a there) = inl (alike_in v u a is_u is_a (here ∙ sym there))
      own_other u a is_u here (Another x is_x there earlier) =
          inr (apart_alike a x a u (refl, refl) (alike_in v x u is_x is_u (there ∙ sym here)) (kept x a is_x earlier))

      on_event : (u a : Use) → IsUseOf with v u → u.event ≡ k → Uses a → a.at.event ≡ u.at.event
      on_event u a is_u here has = elim (own_other u a is_u here has) [
        | inl like ↦ ap (λ (t : TimeAt). t.event) (sym like.0)
        | inr apart ↦ apart.0
      ]

      two_uses : (a b : Use) → Uses a → Uses b → AreAlike a b ⊎ AreDisjoint a b
      two_uses a b (Own is_a here) has_b = elim (own_other a b is_a here has_b) [
        | inl like ↦ inl like
        | inr apart ↦ inr (disjoint_back b a apart.1)
      ]
      two_uses a b (Another u is_u here earlier) (Own is_b there) = elim (own_other b a is_b there (Another u is_u here earlier)) [
        | inl like ↦ inl (alike_back b a like)
        | inr apart ↦ inr apart.1
      ]
      two_uses a b (Another u is_u here earlier) (Another x is_x there other) =
          let inst = inst_of a (Another u is_u here earlier) ∙ sym (inst_of b (Another x is_x there other)) in
          let event = event_of a (Another u is_u here earlier) ∙ sym (event_of b (Another x is_x there other)) in
          elim (two_earlier earlier.invocation other.invocation a b earlier.is_earlier other.is_earlier earlier.uses other.uses inst event) [
            | inl like ↦ inl like
            | inr (inl shared) ↦ inr shared.disjoint
            | inr (inr shared) ↦ inr (disjoint_back b a shared.disjoint)
          ]

      -- what starts no later than the last ends no later
      ends_by : (a last : Use) → Uses a → Uses last → a.at.plus ≤ last.at.plus → a.at.plus + a.hold ≤ last.at.plus + last.hold
      ends_by a last has_a has_last before =
          let is_held : 0 < last.hold = held last has_last in
          elim (two_uses a last has_a has_last) [
            | inl like ↦
                let plus : a.at.plus ≡ last.at.plus = ap (λ (t : TimeAt). t.plus) like.0 in
                let hold : a.hold ≡ last.hold = like.1 in omega arith
            | inr (inl h) ↦ omega arith
            | inr (inr h) ↦ omega arith
          ]

      -- where the span fits, F12 holds at the event
      pub fits_ends : (first last : Use) (d : ℕ) → Uses first → ((a : Use) → Uses a → first.at.plus ≤ a.at.plus) → Uses last → ((a : Use) → Uses a → a.at.plus ≤ last.at.plus)
          → ((e : Event) → Contains with.comp.events e → e.name ≡ first.at.event → e.delay ≡ d) → last.at.plus + last.hold ≤ first.at.plus + d → EndsAt with v k
      fits_ends first last d has_first least has_last greatest delays fits u w is_u earlier here e there named =
          let has_u : Uses u = Own is_u here in
          let has_w : Uses w = Another u is_u here earlier in
          let delay : e.delay ≡ d = delays e there (named ∙ sym (on_event u first is_u here has_first)) in
          let start_u : first.at.plus ≤ u.at.plus = least u has_u in
          let start_w : first.at.plus ≤ w.at.plus = least w has_w in
          let end_u : u.at.plus + u.hold ≤ last.at.plus + last.hold = ends_by u last has_u has_last (greatest u has_u) in
          let end_w : w.at.plus + w.hold ≤ last.at.plus + last.hold = ends_by w last has_w has_last (greatest w has_w) in (omega arith, omega arith)

      -- where F12 holds at the event, each span fits
      fit_by : EndsAt with v k → (p q : Use) (d : ℕ) → IsSpan with v k p q d → Uses p → Uses q → Fits p q d
      fit_by ends p q d s (Own is_p here) (Own is_q there) =
          let like = alike_in v p q is_p is_q (here ∙ sym there) in
          let plus : p.at.plus ≡ q.at.plus = ap (λ (t : TimeAt). t.plus) like.0 in
          let hold : p.hold ≡ q.hold = like.1 in
          let short : p.hold ≤ s.on.delay = is.own_delays p (own p is_p) s.on s.is_own s.named in
          let delayed : d ≡ s.on.delay = s.delayed in omega arith
      fit_by ends p q d s (Own is_p here) (Another u is_u there earlier) =
          let like = alike_in v p u is_p is_u (here ∙ sym there) in
          let plus : p.at.plus ≡ u.at.plus = ap (λ (t : TimeAt). t.plus) like.0 in
          let within : q.at.plus + q.hold ≤ u.at.plus + s.on.delay = (ends u q is_u earlier there s.on s.is_own (s.named ∙ ap (λ (t : TimeAt). t.event) like.0)).0 in
          let delayed : d ≡ s.on.delay = s.delayed in omega arith
      fit_by ends p q d s (Another u is_u here earlier) (Own is_q there) =
          let like = alike_in v u q is_u is_q (here ∙ sym there) in
          let plus : u.at.plus ≡ q.at.plus = ap (λ (t : TimeAt). t.plus) like.0 in
          let hold : u.hold ≡ q.hold = like.1 in
          let within : u.at.plus + u.hold ≤ p.at.plus + s.on.delay = (ends u p is_u earlier here s.on s.is_own (s.named ∙ (kept u p is_u earlier).0)).1 in
          let delayed : d ≡ s.on.delay = s.delayed in omega arith
      fit_by ends p q d s (Another u is_u here earlier) (Another x is_x there other) =
          let has_p : Uses p = Another u is_u here earlier in
          let has_q : Uses q = Another x is_x there other in
          let delayed : d ≡ s.on.delay = s.delayed in
          elim (two_earlier earlier.invocation other.invocation p q earlier.is_earlier other.is_earlier earlier.uses other.uses (inst_of p has_p ∙ sym (inst_of q has_q)) (event_of p has_p ∙ sym (event_of q has_q))) [
            | inl like ↦
                let plus : p.at.plus ≡ q.at.plus = ap (λ (t : TimeAt). t.plus) like.0 in
                let first : p.at.plus ≤ u.at.plus = s.least u (Own is_u here) in
                let last : u.at.plus ≤ q.at.plus = s.greatest u (Own is_u here) in
                let held_p : 0 < p.hold = held p has_p in
                let held_u : 0 < u.hold = own_held u is_u in
                elim ((kept u p is_u earlier).1) [ inl h ↦ absurd (omega arith) | inr h ↦ absurd (omega arith) ]
            | inr (inl shared) ↦
                let within : q.at.plus + q.hold ≤ p.at.plus + s.on.delay = (shared.in_time s.on s.is_own (s.named ∙ shared.event)).1 in omega arith
            | inr (inr shared) ↦
                let within : q.at.plus + q.hold ≤ p.at.plus + s.on.delay = (shared.in_time s.on s.is_own s.named).0 in omega arith
          ]

      pub ends_fit : EndsAt with v k → (p q : Use) (d : ℕ) → IsSpan with v k p q d → Fits p q d
      ends_fit ends p q d s = fit_by ends p q d s s.has_first s.has_last

      -- what the span by numbers says, where the event on which it is has this delay
      module _ (span : Span) (spans : IsSpanOf tables.events (UsesEvent with v k) span) (d : EventDef) (here : slice_get comp.events.items span.first.at.event ≡ Some d) where
        are : tables.events ≡ event_names (component_tree names comp)
        are = is.events ∙ ap event_names is.is_comp

        span_delay : (e : Event) → Contains with.comp.events e → e.name ≡ spans.first.at.event → e.delay ≡ d.delay
        span_delay e there named =
            only_delay names comp tables.events are span.first.at.event spans.first.at.event spans.shows_first.event is.distinct d here e
            (subst (λ (c : Component). Contains c.events e) is.is_comp there) named

        pub ends_at : SpanFits span d.delay → EndsAt with v k
        ends_at fits =
            let first : span.first.at.plus ≡ spans.first.at.plus = spans.shows_first.plus in
            let last : span.last.at.plus ≡ spans.last.at.plus = spans.shows_last.plus in
            let hold : span.last.hold ≡ spans.last.hold = spans.shows_last.hold in
            let end : span.last.at.plus + span.last.hold ≤ span.first.at.plus + d.delay = fits in
            fits_ends spans.first spans.last d.delay spans.has_first spans.least spans.has_last spans.greatest span_delay (omega arith)

        pub gap_here : (meet : Meet) → SpanMeets span d.delay meet → GapAt with v k meet
        gap_here meet meets =
            let first : span.first.at.plus ≡ spans.first.at.plus = spans.shows_first.plus in
            let last : span.last.at.plus ≡ spans.last.at.plus = spans.shows_last.plus in
            let hold : span.last.hold ≡ spans.last.hold = spans.shows_last.hold in
            let late : span.first.at.plus + d.delay < span.last.at.plus + span.last.hold = meets.late in
            record {
              first = spans.first;
              last = spans.last;
              delay = d.delay;
              span = record {
                has_first = spans.has_first;
                least = spans.least;
                has_last = spans.has_last;
                greatest = spans.greatest;
                on = event_tree names d;
                is_own = subst (λ (c : Component). Contains c.events (event_tree names d)) (sym is.is_comp) (is_there names comp tables.events are span.first.at.event spans.first.at.event spans.shows_first.event is.distinct d here);
                named = its_name names comp tables.events are span.first.at.event spans.first.at.event spans.shows_first.event is.distinct d here;
                delayed = refl;
              };
              broken = λ fits. (let end : spans.last.at.plus + spans.last.hold ≤ spans.first.at.plus + d.delay = fits in omega arith);
              distance = meets.gap ∙ ap₂ (λ (a b : ℕ). max d.delay (a - b)) last first;
              row = meets.cycle ∙ ap (λ (a : ℕ). meet.gap + a) first;
            }

    pub has_on : (k : ℕ) (span : Span) → IsSpanOf tables.events (UsesEvent with v k) span → slice_get comp.events.items span.first.at.event ≡ None → ⊥
    has_on k span spans none =
        let there = event_there names comp tables.events (is.events ∙ ap event_names is.is_comp) span.first.at.event spans.first.at.event spans.shows_first.event in
        let bad : ◌≡◌ {A = Option EventDef} None (Some there.0) = sym none ∙ there.1 in absurd (cc)

    -- F12 at each event
    pub ends_all : (n : ℕ) → length sig.events ≤ n → ((k : ℕ) → k < n → EndsAt with v k) → EndsInTime with v
    ends_all n all below =
        ends_by_pairs with v kept
        (λ i j v w u x less at_i at_j use_v use_w inst event. (is.shared i j v w u x less at_i at_j use_v use_w inst event).in_time)
        (λ u earlier is_u known e there named.
        let x = own u is_u in
        let within = slice_get_within sig.events u.event x.event x.of in
        below u.event (omega arith) u earlier is_u known refl e there named)

    pub first_broken : (n : ℕ) (meet : Meet) → ((k : ℕ) → k < n → EndsAt with v k) → GapAt with v n meet → IsGap with v meet.gap meet.cycle
    first_broken n meet below here = record {
      event = n;
      first = here.first;
      last = here.last;
      delay = here.delay;
      span = here.span;
      broken = here.broken;
      events = λ k p q d less s. ends_fit k (below k less) p q d s;
      distance = here.distance;
      row = here.row;
    }

    pub gap_breaks : (gap cycle : ℕ) → IsGap with v gap cycle → EndsInTime with v → ⊥
    gap_breaks gap cycle told ends =
        let pairs =
        pairs_by_ends with v kept (λ i j v w u x less at_i at_j use_v use_w inst event. (is.shared i j v w u x less at_i at_j use_v use_w inst event).disjoint)
        ends in
        told.broken (ends_fit told.event (λ u earlier is_u known here e there named. pairs u earlier is_u known e there named) told.first told.last told.delay told.span)

-- the span's order and its last hold, with one more use
pub order_more : (span new : Span) (other : Option numbers.Use) → IfNone other (new ≡ span) → IfSome other (λ u. IsFirstOf span.first u new.first) → IfSome other (λ u. IsLastOf span.last u new.last) → span.first.at.plus ≤ span.last.at.plus → new.first.at.plus ≤ new.last.at.plus
order_more span new None same first last order = subst (λ (s : Span). s.first.at.plus ≤ s.last.at.plus) (sym same) order
order_more span new (Some o) same first last order =
    let earlier : new.first.at.plus ≤ span.first.at.plus = first.1 in
    let later : span.last.at.plus ≤ new.last.at.plus = last.1 in omega arith

pub small_more : (span new : Span) (other : Option numbers.Use) (most : ℕ) → IfNone other (new ≡ span) → IfSome other (λ u. IsLastOf span.last u new.last) → IfSome other (λ u. u.hold ≤ most) → span.last.hold ≤ most → new.last.hold ≤ most
small_more span new None most same last small kept = subst (λ (s : Span). s.last.hold ≤ most) (sym same) kept
small_more span new (Some o) most same last small kept = elim last.0 [
  | inl e ↦ subst (λ (u : numbers.Use). u.hold ≤ most) (sym e) kept
  | inr e ↦ subst (λ (u : numbers.Use). u.hold ≤ most) (sym e) small
]

pub most_held : (o : Option numbers.Use) → IfSome o (λ u. u.hold < 2 ^ 16) → IfSome o (λ u. u.hold ≤ MOST_HOLD)
most_held None small = tt
most_held (Some o) small = omega arith
