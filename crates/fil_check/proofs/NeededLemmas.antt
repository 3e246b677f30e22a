-- Where F11 or F12 is broken, legal transactions hold an event of an instance twice in a row.
use Rattle.std.proofs.Common.{◌≡◌, ℕ, zero, suc, ◌+◌, ◌-◌, ◌<◌, ◌≤◌, Bool, true, false, cond, List, [], ◌∷◌, ◌++◌, length, flat_map, get_or, slice_get, Contains, Some, inl, inr, refl, sym, ap, subst, ◌∙◌, arith}
use Rattle.std.specs.Prelude.{max}
use Rattle.std.specs.Str.{bytes_eq}
use Rattle.std.proofs.lemmas.Bool.{cases_lt}
use Rattle.std.proofs.lemmas.List.{get_or_default, get_or-map, length-map}
use Rattle.std.proofs.lemmas.List.Concat.{flat_map-append}
use Rattle.std.proofs.lemmas.List.Elements.{All-contains, Contains-append_left, Contains-append_right}
use Rattle.std.proofs.lemmas.Option.{same_Some, slice_get-get_or, slice_get_within, get_or_from_slice_get}
use Rattle.std.proofs.lemmas.Slice.Eq.{bytes_eq-Decides}
use Rattle.hw_names.specs.Name.{Text, AreDistinct}
use Rattle.fil_ast.proofs.UseLemmas.{parts_of}
use Rattle.fil_ast.specs.Evidence.{AreKeptApart, Fits, UsesEvent, Own, Another}
use Rattle.fil_ast.specs.Holds.{Start, Hold, Follows, AreLegalStarts, IsHeldIn, hold_from, holds_by, holds_of}
use Rattle.fil_ast.specs.Naming.{event_names}
use Rattle.fil_ast.specs.Scope.{Scope, Invocation}
use Rattle.fil_ast.specs.Sharing.{IsUseOf, KeepsUsesApart}
use Rattle.fil_ast.specs.Timeline.{Use}
use Rattle.fil_ast.specs.Tree.{TimeAt, Event, Component}
use Rattle.fil_ast.specs.Typing.{HasShape}
use Rattle.fil_ast.proofs.HoldLemmas.{hold_there, in_flat}
use Rattle.fil_check.specs.Needed.{HoldsTwice, Collide, MeetingIsReal, GapIsReal, gap_starts, later_of, meeting_starts, start_at, with_invocation}
use Rattle.fil_place.proofs.GeneralLemmas.{at_left, at_right}

-- two elements stand at different places
pub record StandApart (X : Type 0) (xs : List X) (x y : X) : Type 0 where
  pub i : ℕ
  pub j : ℕ
  pub differ : i < j
  pub at_x : slice_get xs i ≡ Some x
  pub at_y : slice_get xs j ≡ Some y

pub across : {X : Type 0} (xs ys : List X) (x y : X) → Contains xs x → Contains ys y → StandApart X (xs ++ ys) x y
across xs ys x y has_x has_y = record {
  i = has_x.0;
  j = length xs + has_y.0;
  differ = omega (arith, has_x.1);
  at_x = at_left xs ys has_x.0 x (slice_get-get_or xs has_x.0 x has_x.1 ∙ ap Some has_x.2);
  at_y = at_right xs ys has_y.0 y (slice_get-get_or ys has_y.0 y has_y.1 ∙ ap Some has_y.2);
}

apart_left : {X : Type 0} (xs ys : List X) (x y : X) → StandApart X xs x y → StandApart X (xs ++ ys) x y
apart_left xs ys x y two = record {
  i = two.i;
  j = two.j;
  differ = two.differ;
  at_x = at_left xs ys two.i x two.at_x;
  at_y = at_left xs ys two.j y two.at_y;
}

legal_two : (c : Component) (s t : Start) → Follows c s t → AreLegalStarts c (s ∷ t ∷ [])
legal_two c s t follows zero zero d less within = absurd (omega arith)
legal_two c s t follows zero (suc zero) d less within = follows
legal_two c s t follows zero (suc (suc j)) d less within = absurd (omega arith)
legal_two c s t follows (suc i) j d less within = absurd (omega arith)

-- two holds that stand apart in the list, of one event of an instance
twice : (holds : List Hold) (one other : Hold) (row : ℕ) → StandApart Hold holds one other → one.inst ≡ other.inst → one.event ≡ other.event → IsHeldIn row one → IsHeldIn row other → HoldsTwice holds one.inst one.event row
twice holds one other row two same_instance same_event held_one held_other = record {
  i = two.i;
  j = two.j;
  differ = two.differ;
  one = one;
  other = other;
  at_one = two.at_x;
  at_other = two.at_y;
  of_one = (refl, refl);
  of_other = (sym same_instance, sym same_event);
  held_one = held_one;
  held_other = held_other;
}

-- two uses of one event of an instance
module _ (scope : Scope) (v w : Invocation) (u x : Use) (of_v : IsUseOf scope v u) (of_w : IsUseOf scope w x) (same_instance : u.inst ≡ x.inst) (same_event : u.event ≡ x.event) where
  -- by two transactions
  by_two : (s t : Start) → Contains scope.invocations v → Contains scope.invocations w → u.at.event ≡ s.event → x.at.event ≡ t.event → (row : ℕ) → IsHeldIn row (hold_from 0 s.row v.name u) → IsHeldIn row (hold_from 1 t.row w.name x)
      → HoldsTwice (holds_of scope (s ∷ t ∷ [])) u.inst u.event row
  by_two s t has_v has_w on_s on_t row held_u held_x =
      let one = hold_from 0 s.row v.name u in
      let other = hold_from 1 t.row w.name x in
      let first = flat_map (holds_by scope 0 s) scope.invocations in
      let second = flat_map (holds_by scope 1 t) scope.invocations in
      twice (first ++ (second ++ [])) one other row
      (across first (second ++ []) one other (in_flat (holds_by scope 0 s) scope.invocations v one has_v (hold_there scope 0 s v u of_v on_s))
      (Contains-append_left second [] other (in_flat (holds_by scope 1 t) scope.invocations w other has_w (hold_there scope 1 t w x of_w on_t))))
      same_instance same_event held_u held_x

  -- by two invocations in one transaction
  module _ (before after : List Invocation) (cut : before ++ after ≡ scope.invocations) (has_v : Contains before v) (has_w : Contains after w) where
    by_one : (s : Start) → u.at.event ≡ s.event → x.at.event ≡ s.event → (row : ℕ) → IsHeldIn row (hold_from 0 s.row v.name u) → IsHeldIn row (hold_from 0 s.row w.name x) → HoldsTwice (holds_of scope (s ∷ [])) u.inst u.event row
    by_one s on_u on_x row held_u held_x =
        let one = hold_from 0 s.row v.name u in
        let other = hold_from 0 s.row w.name x in
        let made = holds_by scope 0 s in
        let parts : flat_map made before ++ flat_map made after ≡ flat_map made scope.invocations = sym (flat_map-append made before after) ∙ ap (flat_map made) cut in
        let apart : StandApart Hold (flat_map made before ++ flat_map made after) one other =
        across (flat_map made before) (flat_map made after) one other (in_flat made before v one has_v (hold_there scope 0 s v u of_v on_u)) (in_flat made after w other has_w (hold_there scope 0 s w x of_w on_x)) in
        twice (flat_map made scope.invocations ++ []) one other row
        (apart_left (flat_map made scope.invocations) [] one other (subst (λ (hs : List Hold). StandApart Hold hs one other) parts apart)) same_instance same_event held_u held_x

    has_both : Contains scope.invocations v × Contains scope.invocations w
    has_both =
        let C : Invocation → List Invocation → Type 0 = λ i vs. Contains vs i in
        (subst (C v) cut (Contains-append_left before after v has_v), subst (C w) cut (Contains-append_right before after w has_w))

    -- F11 is needed
    pub meet : 0 < u.hold → 0 < x.hold → ¬ AreKeptApart u x → Collide scope (meeting_starts u.at x.at) u.inst u.event (later_of u.at x.at)
    meet held_u held_x met = by (bytes_eq u.at.event x.at.event) refl
      where
        by : (b : Bool) → bytes_eq u.at.event x.at.event ≡ b
            → Collide scope (cond b (start_at u.at.event 0 ∷ []) (start_at u.at.event (max u.at.plus x.at.plus - u.at.plus) ∷ start_at x.at.event (max u.at.plus x.at.plus - x.at.plus) ∷ [])) u.inst u.event (max u.at.plus x.at.plus)
        by true is =
            let same = (bytes_eq-Decides u.at.event x.at.event).0 is in
            let s = start_at u.at.event 0 in
            let a : u.at.plus < x.at.plus + x.hold = elim (cases_lt u.at.plus (x.at.plus + x.hold)) [ inl h ↦ h | inr h ↦ absurd (met (same, inr h)) ] in
            let b : x.at.plus < u.at.plus + u.hold = elim (cases_lt x.at.plus (u.at.plus + u.hold)) [ inl h ↦ h | inr h ↦ absurd (met (same, inl h)) ] in
            record {
              legal = λ i j d less within. absurd (omega arith);
              twice = by_one s refl (sym same) (max u.at.plus x.at.plus) (omega arith, omega arith) (omega arith, omega arith);
            }
        by false is =
            let m = max u.at.plus x.at.plus in
            let s = start_at u.at.event (m - u.at.plus) in
            let t = start_at x.at.event (m - x.at.plus) in
            let differ : u.at.event ≡ x.at.event → ⊥ = λ same. (let bad : true ≡ false = sym ((bytes_eq-Decides u.at.event x.at.event).1 same) ∙ is in absurd (cc)) in
            record {
              legal = legal_two scope.comp s t (λ same. absurd (differ same));
              twice = by_two s t has_both.0 has_both.1 refl refl m (omega arith, omega arith) (omega arith, omega arith);
            }

at_any : (c : Component) (k : ℕ) (e : Event) (t : Text) → k < length c.events → get_or c.events k e ≡ e → get_or (event_names c) k t ≡ e.name
at_any c k e t within at = get_or-map (λ (e : Event). e.name) c.events k e t within ∙ ap (λ (e : Event). e.name) at

-- events of one name are one
pub one_event : (c : Component) → AreDistinct (event_names c) → (e f : Event) → Contains c.events e → Contains c.events f → e.name ≡ f.name → e ≡ f
one_event c distinct e f (j, within_j, at_j) (k, within_k, at_k) same = elim (cases_lt j k) [
  | inl less ↦ absurd (distinct j k e.name less (omega (arith, length-map c.events (λ (e : Event). e.name))) (at_any c j e e.name within_j at_j ∙ same ∙ sym (at_any c k f e.name within_k at_k)))
  | inr ge ↦ elim (cases_lt k j) [
    | inl more ↦ absurd (distinct k j e.name more (omega (arith, length-map c.events (λ (e : Event). e.name))) (at_any c k f e.name within_k at_k ∙ sym same ∙ sym (at_any c j e e.name within_j at_j)))
    | inr le ↦
        let one : j ≡ k = omega arith in
        sym at_j ∙ get_or_default c.events j e f within_j ∙ ap (λ (k : ℕ). get_or c.events k f) one ∙ at_k
  ]
]

-- F12 is needed
pub overrun : (scope : Scope) (v w : Invocation) (first last : Use) → IsUseOf scope v first → IsUseOf scope w last → Contains scope.invocations v → Contains scope.invocations w → first.inst ≡ last.inst → first.event ≡ last.event
    → first.at.event ≡ last.at.event → 0 < first.hold → 0 < last.hold → (e : Event) → Contains scope.comp.events e → e.name ≡ first.at.event → AreDistinct (event_names scope.comp) → HasShape scope.comp → ¬ Fits first last e.delay
    → (gap : ℕ) → gap ≡ max e.delay (last.at.plus - first.at.plus) → Collide scope (gap_starts first.at.event gap) last.inst last.event (gap + first.at.plus)
overrun scope v w first last of_first of_last has_v has_w same_instance same_event on held_first held_last e has_e named distinct shape broken gap is =
    let s = start_at first.at.event 0 in
    let t = start_at first.at.event gap in
    let late : first.at.plus + e.delay < last.at.plus + last.hold =
    elim (cases_lt (first.at.plus + e.delay) (last.at.plus + last.hold)) [ inl h ↦ h | inr h ↦ absurd (broken h) ] in
    let one_delay : (f : Event) → Contains scope.comp.events f → f.name ≡ first.at.event → f.delay ≡ e.delay = λ f has_f f_named.
    ap (λ (e : Event). e.delay) (one_event scope.comp distinct f e has_f has_e (f_named ∙ sym named)) in
    let least : 1 ≤ e.delay = All-contains (λ (e : Event). 1 ≤ e.delay) scope.comp.events e shape.delays has_e in
    record {
      legal = legal_two scope.comp s t (λ same. (omega arith, λ f has_f f_named. (let d = one_delay f has_f f_named in omega arith)));
      twice = by_two scope w v last first of_last of_first (sym same_instance) (sym same_event) s t has_w has_v (sym on) refl (gap + first.at.plus) (omega arith, omega arith) (omega arith, omega arith);
    }

module _ (scope : Scope) (v : Invocation) where
  abbrev pub with : Scope
  with = with_invocation scope v

  has_own : Contains with.invocations v
  has_own = Contains-append_right scope.invocations (v ∷ []) v (0, omega arith, refl)

  has_earlier : (w : Invocation) → Contains scope.invocations w → Contains with.invocations w
  has_earlier w has = Contains-append_left scope.invocations (v ∷ []) w has

  -- an invocation that uses the event
  pub record IsUser (event : ℕ) (u : Use) : Type 0 where
    pub user : Invocation
    pub among : Contains with.invocations user
    pub uses : IsUseOf with user u
    pub number : u.event ≡ event
    pub of : u.inst ≡ v.inst

  pub user : (event : ℕ) (u : Use) → UsesEvent scope v event u → IsUser event u
  user event u (Own used number) = record { user = v; among = has_own; uses = used; number = number; of = (parts_of used.2).named }
  user event u (Another own used number earlier) = record {
    user = earlier.invocation;
    among = has_earlier earlier.invocation earlier.is_earlier;
    uses = earlier.uses;
    number = earlier.same_event ∙ number;
    of = earlier.same_instance ∙ (parts_of used.2).named;
  }

  one_use : (u x : Use) → IsUseOf scope v u → IsUseOf scope v x → u.event ≡ x.event → u.at ≡ x.at
  one_use u x (sig, is, used) (sig', is', used') same =
      same_Some u.at x.at (sym (parts_of used).time ∙ ap (slice_get v.gives.times) same ∙ (parts_of used').time)

  -- under F11 all uses of the event are on one event of the component
  pub on_one : KeepsUsesApart scope v → (event : ℕ) (u x : Use) → UsesEvent scope v event u → UsesEvent scope v event x → u.at.event ≡ x.at.event
  on_one kept event u x (Own used number) (Own used' number') = ap (λ (t : TimeAt). t.event) (one_use u x used used' (number ∙ sym number'))
  on_one kept event u x (Own used number) (Another own used' number' earlier) =
      ap (λ (t : TimeAt). t.event) (one_use u own used used' (number ∙ sym number')) ∙ sym (kept own x used' earlier).0
  on_one kept event u x (Another own used number earlier) (Own used' number') =
      (kept own u used earlier).0 ∙ ap (λ (t : TimeAt). t.event) (one_use own x used used' (number ∙ sym number'))
  on_one kept event u x (Another own used number earlier) (Another own' used' number' earlier') =
      (kept own u used earlier).0 ∙ ap (λ (t : TimeAt). t.event) (one_use own own' used used' (number ∙ sym number')) ∙ sym (kept own' x used' earlier').0

pub meeting_is_real : MeetingIsReal
meeting_is_real scope v cycle held m =
    let with = with_invocation scope v in
    let within = slice_get_within scope.invocations m.number m.earlier m.at in
    let there : Contains scope.invocations m.earlier = (m.number, within, get_or_from_slice_get scope.invocations m.number m.earlier m.earlier m.at) in
    let found = meet with m.earlier v m.other m.own m.triggered m.triggers m.same_instance m.same_event scope.invocations (v ∷ []) refl there (0, omega arith, refl)
    (held m.earlier m.other (has_earlier scope v m.earlier there) m.triggered) (held v m.own (has_own scope v) m.triggers) m.meet in
    let C : Text → ℕ → ℕ → Type 0 = Collide with (meeting_starts m.other.at m.own.at) in
    subst (C v.inst m.own.event) (sym m.later)
    (subst (λ (k : ℕ). C v.inst k (later_of m.other.at m.own.at)) m.same_event
    (subst (λ (i : Text). C i m.other.event (later_of m.other.at m.own.at)) (m.same_instance ∙ (parts_of m.triggers.2).named) found))

pub gap_is_real : GapIsReal
gap_is_real scope v gap cycle held distinct shape kept g =
    let with = with_invocation scope v in
    let span = g.span in
    let p = user scope v g.event g.first span.has_first in
    let q = user scope v g.event g.last span.has_last in
    let late : ¬ Fits g.first g.last span.on.delay = subst (λ (d : ℕ). ¬ Fits g.first g.last d) span.delayed g.broken in
    let found = overrun with p.user q.user g.first g.last p.uses q.uses p.among q.among (p.of ∙ sym q.of) (p.number ∙ sym q.number) (on_one scope v kept g.event g.first g.last span.has_first span.has_last)
    (held p.user g.first p.among p.uses) (held q.user g.last q.among q.uses) span.on span.is_own span.named distinct shape late gap (g.distance ∙ ap (λ (d : ℕ). max d (g.last.at.plus - g.first.at.plus)) span.delayed) in
    let C : Text → ℕ → ℕ → Type 0 = Collide with (gap_starts g.first.at.event gap) in
    subst (C v.inst g.event) (sym g.row)
    (subst (λ (k : ℕ). C v.inst k (gap + g.first.at.plus)) q.number (subst (λ (i : Text). C i g.last.event (gap + g.first.at.plus)) q.of found))
