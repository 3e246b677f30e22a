-- Uses of an event of an instance by several invocations, by numbers and by texts; F11.
use Rattle.std.proofs.Common.{◌≡◌, ℕ, zero, suc, ◌+◌, ◌<◌, ◌≤◌, inl, inr, Bool, true, false, Vec, Global, List, [], ◌∷◌, length, map, slice_get, Option, Some, if◌then◌else◌, bytes_eq, refl, sym, ap, ap₂, subst, ◌∙◌, arith}
use Rattle.std.specs.Prelude.{max}
use Rattle.std.proofs.lemmas.Bool.{cases_lt}
use Rattle.std.proofs.lemmas.List.{length-map}
use Rattle.std.proofs.lemmas.Option.{same_Some, slice_get-get_or, slice_get_within, get_or_from_slice_get}
use Rattle.std.proofs.lemmas.Slice.Eq.{bytes_eq-Decides}
use Rattle.hw_names.specs.Name.{Text, AreDistinct}
use Rattle.hw_names.proofs.NameLemmas.{same_number}
use Rattle.fil_ast.proofs.UseLemmas.{parts_of}
use Rattle.fil_ast.specs.Evidence.{AreKeptApart, IsApartFrom, IsMeetingCycle}
use Rattle.fil_ast.specs.Scope.{Scope, Invocation, instance_signature}
use Rattle.fil_ast.specs.Sharing.{AreDisjoint, IsEarlierUse, IsUseOf, KeepsUsesApart}
use Rattle.fil_ast.specs.Signature.{Delay, Signature}
use Rattle.fil_ast.specs.Timeline.{IsUse, Use}
use Rattle.fil_ast.specs.Tree.{TimeAt}
use Rattle.fil_ast.specs.declared.tree.FilComp.{FilComp}
use Rattle.fil_sig.specs.Seen.{seen, seen_event}
use Rattle.fil_sig.specs.declared.time_sig.TimeSig.{TimeSig}
use Rattle.fil_rules.specs.inside.Shared.{IsInvoked}
use Rattle.fil_rules.specs.inside.Sharing.{AreApartAt, AreNumbersApart, GivesTimes, IsFoundFirst, MeetAt}
use Rattle.fil_place.specs.Uses.{HasDelay, IsShownBy, ShowsUse}
use Rattle.fil_place.specs.Tables.{calls_from, times_of, times_shown}
use Rattle.fil_place.specs.Times.{AreTimes}
use Rattle.fil_place.specs.declared.tables.Tables.{Tables}
use Rattle.fil_place.specs.declared.times.Offset.{Offset}
use Rattle.fil_place.specs.declared.uses.Use as numbers
use Rattle.fil_place.proofs.GeneralLemmas.{mapped_at}
use Rattle.fil_place.proofs.UseLemmas.{AreAlike, same_use, a_use}

pub alike_back : (u w : Use) → AreAlike u w → AreAlike w u
alike_back u w (at, hold) = (sym at, sym hold)

pub disjoint_alike : (a b c d : Use) → AreAlike a c → AreAlike b d → AreDisjoint a b → AreDisjoint c d
disjoint_alike a b c d (at_a, hold_a) (at_b, hold_b) rows =
    let plus_a : a.at.plus ≡ c.at.plus = ap (λ (t : TimeAt). t.plus) at_a in
    let plus_b : b.at.plus ≡ d.at.plus = ap (λ (t : TimeAt). t.plus) at_b in
    elim rows [ inl h ↦ inl (omega arith) | inr h ↦ inr (omega arith) ]

pub disjoint_back : (a b : Use) → AreDisjoint a b → AreDisjoint b a
disjoint_back a b rows = elim rows [ inl h ↦ inr h | inr h ↦ inl h ]

pub apart_alike : (a b c d : Use) → AreAlike a c → AreAlike b d → AreKeptApart a b → AreKeptApart c d
apart_alike a b c d like_a like_b (event, rows) =
    (ap (λ (t : TimeAt). t.event) (sym like_a.0) ∙ event ∙ ap (λ (t : TimeAt). t.event) like_b.0, disjoint_alike a b c d like_a like_b rows)

pub event_within : (sig : TimeSig) (inst : Text) (times : List TimeAt) (u : Use) → IsUse (seen sig) inst times u → u.event < length sig.events.items
event_within sig inst times u is =
    let within = slice_get_within (map seen_event sig.events.items) u.event is.event is.of in
    let count = length-map sig.events.items seen_event in omega arith

-- two uses are apart as their numbers are
module _ (events : List Text) (distinct : AreDistinct events) (o p : numbers.Use) (u w : Use) (shows_o : IsShownBy events o u) (shows_p : IsShownBy events p w) where
  pub apart_texts : AreNumbersApart o p → AreKeptApart u w
  apart_texts (same, rows) =
      let plus_o : o.at.plus ≡ u.at.plus = shows_o.plus in
      let plus_p : p.at.plus ≡ w.at.plus = shows_p.plus in
      let hold_o : o.hold ≡ u.hold = shows_o.hold in
      let hold_p : p.hold ≡ w.hold = shows_p.hold in (
        same_Some u.at.event w.at.event (sym shows_o.event ∙ ap (slice_get events) same ∙ shows_p.event),
        elim rows [ inl h ↦ inl (omega arith) | inr h ↦ inr (omega arith) ],
      )

  pub apart_numbers : AreKeptApart u w → AreNumbersApart o p
  apart_numbers (same, rows) =
      let plus_o : o.at.plus ≡ u.at.plus = shows_o.plus in
      let plus_p : p.at.plus ≡ w.at.plus = shows_p.plus in
      let hold_o : o.hold ≡ u.hold = shows_o.hold in
      let hold_p : p.hold ≡ w.hold = shows_p.hold in (
        same_number events o.at.event p.at.event w.at.event distinct (shows_o.event ∙ ap Some same) shows_p.event,
        elim rows [ inl h ↦ inl (omega arith) | inr h ↦ inr (omega arith) ],
      )

-- F11 at one event, by numbers
module _ (events : List Text) (distinct : AreDistinct events) (sig : Signature) (inst : Text) (times others : List TimeAt) (k : ℕ) (delay : Delay) (has : HasDelay sig k delay) (o p : numbers.Use) (own : ShowsUse events delay times k (Some o)) (other : ShowsUse events delay others k (Some p)) where
  abbrev own_use : (u : Use) × IsUse sig inst times u × (u.event ≡ k) × IsShownBy events o u
  own_use = a_use events sig inst times k delay has o own

  abbrev other_use : (u : Use) × IsUse sig inst others u × (u.event ≡ k) × IsShownBy events p u
  other_use = a_use events sig inst others k delay has p other

  pub apart_at : AreNumbersApart p o → AreApartAt sig inst times others k
  apart_at numbers x y is_x is_y x_at y_at =
      apart_alike other_use.0 own_use.0 y x
      (same_use sig others inst inst other_use.0 y other_use.1 is_y (other_use.2 ∙ sym y_at))
      (same_use sig times inst inst own_use.0 x own_use.1 is_x (own_use.2 ∙ sym x_at))
      (apart_texts events distinct p o other_use.0 own_use.0 other_use.3 own_use.3 numbers)

  pub meet_at : (AreNumbersApart p o → ⊥) → (cycle : ℕ) → cycle ≡ max p.at.plus o.at.plus → MeetAt sig inst times others k cycle
  meet_at met cycle is = record {
    own = own_use.0;
    triggers = own_use.1;
    own_event = own_use.2;
    other = other_use.0;
    triggered = other_use.1;
    other_event = other_use.2;
    meet = λ apart. met (apart_numbers events distinct p o other_use.0 own_use.0 other_use.3 own_use.3 apart);
    later = is ∙ ap₂ max other_use.3.plus own_use.3.plus;
  }

-- the numbers of an instance's invocations
abbrev pub IsCall : ℕ → Text → List Invocation → ℕ → Type 0
IsCall n inst vs call = (i : ℕ) × (call ≡ n + i) × (w : Invocation) × (slice_get vs i ≡ Some w) × (w.inst ≡ inst)

-- the numbers with an invocation before the others
abbrev calls_with : ℕ → Text → List Invocation → Bool → List ℕ
calls_with n inst vs is = if is then n ∷ calls_from (suc n) inst vs else calls_from (suc n) inst vs

later_call : (n : ℕ) (inst : Text) (v : Invocation) (vs : List Invocation) (call : ℕ) → IsCall (suc n) inst vs call → IsCall n inst (v ∷ vs) call
later_call n inst v vs call (i, is, w, at, named) = (suc i, omega arith, w, at, named)

first_call : (n : ℕ) (inst : Text) (v : Invocation) (vs : List Invocation) (rest : (j call : ℕ) → slice_get (calls_from (suc n) inst vs) j ≡ Some call → IsCall (suc n) inst vs call)
    (b : Bool) → bytes_eq v.inst inst ≡ b → (j call : ℕ) → slice_get (calls_with n inst vs b) j ≡ Some call → IsCall n inst (v ∷ vs) call
first_call n inst v vs rest true is zero call e =
    let same = same_Some n call e in (0, omega arith, v, refl, (bytes_eq-Decides v.inst inst).0 is)
first_call n inst v vs rest true is (suc j) call e = later_call n inst v vs call (rest j call e)
first_call n inst v vs rest false is j call e = later_call n inst v vs call (rest j call e)

pub is_call : (n : ℕ) (inst : Text) (vs : List Invocation) (j call : ℕ) → slice_get (calls_from n inst vs) j ≡ Some call → IsCall n inst vs call
is_call n inst [] j call e = absurd (cc)
is_call n inst (v ∷ vs) j call e = first_call n inst v vs (λ j call e. is_call (suc n) inst vs j call e) (bytes_eq v.inst inst) refl j call e

listed_later : (n : ℕ) (inst : Text) (vs : List Invocation) (b : Bool) (call : ℕ) → ((j : ℕ) × (slice_get (calls_from (suc n) inst vs) j ≡ Some call)) → (j : ℕ) × (slice_get (calls_with n inst vs b) j ≡ Some call)
listed_later n inst vs true call (j, at) = (suc j, at)
listed_later n inst vs false call (j, at) = (j, at)

-- each invocation of the instance has its place among the numbers
pub call_listed : (n : ℕ) (inst : Text) (vs : List Invocation) (i : ℕ) (w : Invocation) → slice_get vs i ≡ Some w → w.inst ≡ inst → (j : ℕ) × (slice_get (calls_from n inst vs) j ≡ Some (n + i))
call_listed n inst [] i w at named = absurd (cc)
call_listed n inst (v ∷ vs) zero w at named =
    let is : bytes_eq v.inst inst ≡ true = (bytes_eq-Decides v.inst inst).1 (ap (λ (x : Invocation). x.inst) (same_Some v w at) ∙ named) in
    let e : n ≡ n + 0 = omega arith in
    (0, ap (λ (b : Bool). slice_get (calls_with n inst vs b) 0) is ∙ ap Some e)
call_listed n inst (v ∷ vs) (suc i) w at named =
    let there = call_listed (suc n) inst vs i w at named in
    let e : suc n + i ≡ n + suc i = omega arith in
    listed_later n inst vs (bytes_eq v.inst inst) (n + suc i) (there.0, there.1 ∙ ap Some e)

-- they come in order
first_in_order : (n : ℕ) (inst : Text) (vs : List Invocation) (rest : (i j a b : ℕ) → slice_get (calls_from (suc n) inst vs) i ≡ Some a → slice_get (calls_from (suc n) inst vs) j ≡ Some b → i < j → a < b)
    (t : Bool) (i j a b : ℕ) → slice_get (calls_with n inst vs t) i ≡ Some a → slice_get (calls_with n inst vs t) j ≡ Some b → i < j → a < b
first_in_order n inst vs rest true i zero a b at_i at_j less = absurd (omega arith)
first_in_order n inst vs rest true zero (suc j) a b at_i at_j less =
    let same = same_Some n a at_i in let later = (is_call (suc n) inst vs j b at_j).1 in omega arith
first_in_order n inst vs rest true (suc i) (suc j) a b at_i at_j less = rest i j a b at_i at_j (omega arith)
first_in_order n inst vs rest false i j a b at_i at_j less = rest i j a b at_i at_j less

pub in_order : (n : ℕ) (inst : Text) (vs : List Invocation) (i j a b : ℕ) → slice_get (calls_from n inst vs) i ≡ Some a → slice_get (calls_from n inst vs) j ≡ Some b → i < j → a < b
in_order n inst [] i j a b at_i at_j less = absurd (cc)
in_order n inst (v ∷ vs) i j a b at_i at_j less =
    first_in_order n inst vs (λ i j a b at_i at_j less. in_order (suc n) inst vs i j a b at_i at_j less) (bytes_eq v.inst inst) i j a b at_i at_j less

-- an invocation among the earlier ones of its instance
module _ (names : List Text) (comp : FilComp) (tables : Tables) (calls : List ℕ) (sig : Signature) (at : List Offset) (with : Scope) (v : Invocation) (is : IsInvoked names comp tables calls sig at with v) where
  pub from_own : (u : Use) → IsUseOf with v u → IsUse sig v.inst v.gives.times u
  from_own u (s, is_sig, is_use) =
      subst (λ (s : Signature). IsUse s v.inst v.gives.times u) (same_Some s sig (sym is_sig ∙ is.signature)) is_use

  pub to_own : (u : Use) → IsUse sig v.inst v.gives.times u → IsUseOf with v u
  to_own u is_use = (sig, is.signature, is_use)

  module _ (w : Invocation) (named : w.inst ≡ v.inst) where
    pub from_earlier : (u : Use) → IsUseOf with w u → IsUse sig v.inst w.gives.times u
    from_earlier u (s, is_sig, is_use) =
        let same = same_Some s sig (sym is_sig ∙ ap (instance_signature with) named ∙ is.signature) in
        let its : IsUse sig w.inst w.gives.times u = subst (λ (s : Signature). IsUse s w.inst w.gives.times u) same is_use in
        subst (λ (t : Text). IsUse sig t w.gives.times u) named its

    pub to_earlier : (u : Use) → IsUse sig v.inst w.gives.times u → IsUseOf with w u
    to_earlier u is_use =
        (sig, ap (instance_signature with) named ∙ is.signature, subst (λ (t : Text). IsUse sig t w.gives.times u) (sym named) is_use)

  pub call_at : (j call : ℕ) → slice_get calls j ≡ Some call → (w : Invocation) × (slice_get with.invocations call ≡ Some w) × (w.inst ≡ v.inst)
  call_at j call here =
      let found = is_call 0 v.inst with.invocations j call (ap (λ (cs : List ℕ). slice_get cs j) (sym is.earlier) ∙ here) in
      let same : found.0 ≡ call = let e = found.1 in omega arith in
      (found.2, ap (slice_get with.invocations) (sym same) ∙ found.3, found.4)

  pub place_of : (k : ℕ) (w : Invocation) → slice_get with.invocations k ≡ Some w → w.inst ≡ v.inst → (j : ℕ) × (slice_get calls j ≡ Some k)
  place_of k w here named =
      let found = call_listed 0 v.inst with.invocations k w here named in
      let e : 0 + k ≡ k = omega arith in
      (found.0, ap (λ (cs : List ℕ). slice_get cs found.0) is.earlier ∙ found.1 ∙ ap Some e)

  pub place_before : (i j a b : ℕ) → slice_get calls i ≡ Some a → slice_get calls j ≡ Some b → a < b → i < j
  place_before i j a b at_i at_j less = elim (cases_lt i j) [
    | inl before ↦ before
    | inr after ↦ elim (cases_lt j i) [
      | inl later ↦
          let back = in_order 0 v.inst with.invocations j i b a (ap (λ (cs : List ℕ). slice_get cs j) (sym is.earlier) ∙ at_j) (ap (λ (cs : List ℕ). slice_get cs i) (sym is.earlier) ∙ at_i) later in
          absurd (omega arith)
      | inr le ↦
          let same : i ≡ j = omega arith in
          let same_call = same_Some a b (sym at_i ∙ ap (slice_get calls) same ∙ at_j) in absurd (omega arith)
    ]
  ]

  pub times_at : (call : ℕ) (offsets : Vec Offset Global) (w : Invocation) → slice_get tables.times.items call ≡ Some offsets → slice_get with.invocations call ≡ Some w → AreTimes tables.events offsets.items w.gives.times
  times_at call offsets w here there =
      same_Some (times_shown tables.events offsets) (times_of w)
      (sym (mapped_at (times_shown tables.events) tables.times.items call offsets here)
      ∙ ap (λ (ts : List (List (Option TimeAt))). slice_get ts call) is.times ∙ mapped_at times_of with.invocations call w there)

  pub given_times : (call : ℕ) (offsets : List Offset) (w : Invocation) → GivesTimes tables call offsets → slice_get with.invocations call ≡ Some w → AreTimes tables.events offsets w.gives.times
  given_times call offsets w (given, here, same) there =
      subst (λ (os : List Offset). AreTimes tables.events os w.gives.times) same (times_at call given w here there)

  -- F11 and the earlier invocations, as far as a loop has come
  abbrev pub ApartBelow : ℕ → Type 0
  ApartBelow n = (j call : ℕ) (w : Invocation) → j < n → slice_get calls j ≡ Some call → slice_get with.invocations call ≡ Some w → IsApartFrom with v w

  pub apart_from : (w : Invocation) → w.inst ≡ v.inst → ((k : ℕ) → AreApartAt sig v.inst v.gives.times w.gives.times k) → IsApartFrom with v w
  apart_from w named apart u x is_u is_x same_inst same_event =
      apart u.event u x (from_own u is_u) (from_earlier w named x is_x) refl same_event

  pub apart_more : (n call : ℕ) → slice_get calls n ≡ Some call → ApartBelow n → ((w : Invocation) → slice_get with.invocations call ≡ Some w → IsApartFrom with v w) → ApartBelow (n + 1)
  apart_more n call here below apart j other w within at_j at_w = elim (cases_lt j n) [
    | inl before ↦ below j other w before at_j at_w
    | inr after ↦
        let same : j ≡ n = omega arith in
        let same_call = same_Some other call (sym at_j ∙ ap (slice_get calls) same ∙ here) in
        apart w (ap (slice_get with.invocations) (sym same_call) ∙ at_w)
  ]

  pub apart_all : (n : ℕ) → length calls ≤ n → ApartBelow n → KeepsUsesApart with v
  apart_all n all below u earlier is_u known =
      let w = known.invocation in
      let k = known.is_earlier.0 in
      let at_k : slice_get with.invocations k ≡ Some w = slice_get-get_or with.invocations k w known.is_earlier.1 ∙ ap Some known.is_earlier.2 in
      let named : w.inst ≡ v.inst = sym ((parts_of known.uses.2).named) ∙ known.same_instance ∙ (parts_of (from_own u is_u)).named in
      let place = place_of k w at_k named in
      let within = slice_get_within calls place.0 k place.1 in
      below place.0 k w (omega arith) place.1 at_k u earlier is_u known.uses known.same_instance known.same_event

  pub meets_first : (n call cycle : ℕ) (w : Invocation) → slice_get calls n ≡ Some call → slice_get with.invocations call ≡ Some w → w.inst ≡ v.inst → ApartBelow n
      → IsFoundFirst ℕ (AreApartAt sig v.inst v.gives.times w.gives.times) (MeetAt sig v.inst v.gives.times w.gives.times) cycle → IsMeetingCycle with v cycle
  meets_first n call cycle w here there named below found =
      let m = found.here in
      record {
        number = call;
        earlier = w;
        at = there;
        before = λ k other less at_k u x is_u is_x same_inst same_event.
            (let other_named : other.inst ≡ v.inst = sym ((parts_of is_x.2).named) ∙ same_inst ∙ (parts_of (from_own u is_u)).named in
            let place = place_of k other at_k other_named in
            below place.0 k other (place_before place.0 n k call place.1 here less) place.1 at_k u x is_u is_x same_inst same_event);
        own = m.own;
        triggers = to_own m.own m.triggers;
        other = m.other;
        triggered = to_earlier w named m.other m.triggered;
        same_instance = (parts_of m.triggered).named ∙ sym (parts_of m.triggers).named;
        same_event = m.other_event ∙ sym m.own_event;
        events = λ u x less is_u is_x same_inst same_event.
            found.before u.event (let e = m.own_event in omega arith) u x (from_own u is_u) (from_earlier w named x is_x) refl same_event;
        meet = m.meet;
        later = m.later;
      }

  -- what the cycle is told of breaks F11
  pub meeting_breaks : (cycle : ℕ) → IsMeetingCycle with v cycle → KeepsUsesApart with v → ⊥
  meeting_breaks cycle m kept =
      let within = slice_get_within with.invocations m.number m.earlier m.at in
      let known : IsEarlierUse with m.own m.other = record { invocation = m.earlier; is_earlier = (m.number, within, get_or_from_slice_get with.invocations m.number m.earlier m.earlier m.at); uses = m.triggered; same_instance = m.same_instance; same_event = m.same_event } in
      m.meet (kept m.own m.other m.triggers known)
