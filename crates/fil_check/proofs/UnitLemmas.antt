-- F11 and F12 at one event of an instance mean the same over its invocations and over the holds of one transaction.
use Rattle.std.proofs.Common.{◌≡◌, ◌⊎◌, ℕ, suc, zero, ◌+◌, ◌<◌, ◌≤◌, ◌==◌, Bool, List, [], ◌∷◌, ◌++◌, length, map, filter, flat_map, take, get_or, slice_get, All, Contains, Some, inl, inr, refl, sym, ap, ap₂, subst, ◌∙◌, arith}
use Rattle.std.specs.Prelude.{AllPairs, ◌&&◌}
use Rattle.std.specs.Str.{bytes_eq}
use Rattle.std.proofs.lemmas.Bool.{and_parts, eqb-true, eq-eqb}
use Rattle.std.proofs.lemmas.List.{append-nil, get_or-map, length-map}
use Rattle.std.proofs.lemmas.List.Concat.{flat_map-append}
use Rattle.std.proofs.lemmas.List.Elements.{All-cons, All-nil, filter-append}
use Rattle.std.proofs.lemmas.List.Kept.{AllPairs-filter}
use Rattle.std.proofs.lemmas.Option.{slice_get_within, get_or_from_slice_get}
use Rattle.std.proofs.lemmas.Slice.Eq.{bytes_eq-Decides}
use Rattle.std.proofs.Math.Seq.{take-length}
use Rattle.hw_names.specs.Name.{Text}
use Rattle.fil_ast.proofs.HoldLemmas.{All-passed, IsHoldBy, from_filter, hold_there, in_filter, in_flat}
use Rattle.fil_ast.proofs.SharingLemmas.{OfEarlier, disjoint_back, each_within, earlier_listed, has_first, has_last, listed, listed_earlier, one_or_two, span_within}
use Rattle.fil_ast.specs.Holds.{Hold, Start, hold_from, holds_by, uses_of}
use Rattle.fil_ast.specs.Items.{IsItem, Item, TheSignature, TheStatement, TheEnd, scope_with}
use Rattle.fil_ast.specs.Rules.{F11, F12, Keeps, KeepsComponent, KeepsRules}
use Rattle.fil_ast.specs.Scope.{Scope, Invocation, invocations_at}
use Rattle.fil_ast.specs.Sharing.{AreDisjoint, EndsInTime, IsEarlierUse, IsUseOf, IsUseSoFar, IsWithin, KeepsUsesApart, StartsFirst, StartsLast}
use Rattle.fil_ast.specs.Timeline.{Use}
use Rattle.fil_ast.specs.Tree.{Component, Design, Event, Statement}
use Rattle.fil_share.specs.Sharing as sharing
use Rattle.fil_share.specs.Uses.{shown_hold}
use Rattle.fil_share.specs.declared.hold.Hold as shown
use Rattle.fil_share.proofs.OwnLemmas.{AllPairs-flat, AllPairs-mapped, KeepsNames, all_earlier, called_in, holds_of_call, of_earlier, uses_of_call, uses_so_far}
use Rattle.fil_check.specs.Needed.{first_ten, sharing_rules, start_at}
use Rattle.fil_check.specs.Units.{IsUseOn, IsUseSoFarOn, NameOneEvent, NamesOneEvent, Shares, SharesAt, SharesBefore, SharingGoesByEvents, SharingHasOneMeaning, UnitEvent, UseTwice, holds_on, is_hold_on}
use Rattle.fil_check.proofs.ExactLemmas.{after, before, call_there, cut, distinct, earlier_whole, full, is_after, names, own_whole}
use Rattle.fil_check.proofs.NeededLemmas.{StandApart, across, one_event}

-- ---- lists

pair_of : {X : Type 0} (R : X → X → Type 0) (xs : List X) (x y : X) → AllPairs R xs → StandApart X xs x y → R x y
pair_of R xs x y pairs two =
    let within = slice_get_within xs two.j y two.at_y in
    subst (R x) (get_or_from_slice_get xs two.j y x two.at_y)
    (subst (λ z. R z (get_or xs two.j x)) (get_or_from_slice_get xs two.i x x two.at_x) (pairs two.i two.j x two.differ within))

AllPairs-unmapped : {X Y : Type 0} (R : Y → Y → Type 0) (f : X → Y) (xs : List X) → AllPairs R (map f xs) → AllPairs (λ a b. R (f a) (f b)) xs
AllPairs-unmapped R f xs pairs i j d less within =
    let inside : j < length (map f xs) = omega (arith, within, length-map xs f) in
    subst (R (f (get_or xs i d))) (get_or-map f xs j d (f d) within)
    (subst (λ z. R z (get_or (map f xs) j (f d))) (get_or-map f xs i d (f d) (omega (arith, less, within))) (pairs i j (f d) less inside))

filter-flat : {X Y : Type 0} (p : Y → Bool) (f : X → List Y) (xs : List X) → filter p (flat_map f xs) ≡ flat_map (λ x. filter p (f x)) xs
filter-flat p f [] = refl
filter-flat {X} p f (x ∷ xs) = filter-append p (f x) (flat_map f xs) ∙ ap (λ ys. filter p (f x) ++ ys) (filter-flat p f xs)

-- ---- holds

-- two holds are apart, and each ends within the delay after the other's start
abbrev pub AreShared : ℕ → Hold → Hold → Type 0
AreShared delay h k = ((h.to ≤ k.from) ⊎ (k.to ≤ h.from)) × (k.to ≤ h.from + delay) × (h.to ≤ k.from + delay)

pub kept_by_holds : (delay : ℕ) (names : List Text) (uses : List shown.Hold) (holds : List Hold) → map (shown_hold names) uses ≡ holds → AllPairs (AreShared delay) holds → sharing.CanShare delay uses
kept_by_holds delay names uses holds are pairs =
    let P : List Hold → Type 0 = AllPairs (AreShared delay) in
    let shown = AllPairs-unmapped (AreShared delay) (shown_hold names) uses (subst P (sym are) pairs) in
    (λ i j d less within. (shown i j d less within).0, λ i j d less within. (let two = shown i j d less within in (two.1, two.2)))

holds_by_kept : (delay : ℕ) (names : List Text) (uses : List shown.Hold) (holds : List Hold) → map (shown_hold names) uses ≡ holds → sharing.CanShare delay uses → AllPairs (AreShared delay) holds
holds_by_kept delay names uses holds are rules =
    let P : List Hold → Type 0 = AllPairs (AreShared delay) in
    subst P are (AllPairs-mapped (AreShared delay) (shown_hold names) uses
    (λ i j d less within. (let in_time = rules.1 i j d less within in (rules.0 i j d less within, in_time.0, in_time.1))))

module _ (earlier : Design) (c : Component) (others : KeepsRules first_ten earlier) (kept : KeepsComponent first_ten earlier c) (unit : UnitEvent) where
  abbrev pub whole : Scope
  whole = full earlier c others kept

  abbrev named : KeepsNames earlier c
  named = names earlier c others kept

  abbrev pub start : Start
  start = start_at unit.on 0

  -- what an invocation holds of the event
  abbrev pub holds_in : Invocation → List Hold
  holds_in v = filter (is_hold_on unit) (holds_by whole 0 start v)

  pub holds_are : holds_on whole unit ≡ flat_map holds_in whole.invocations
  holds_are =
      ap (filter (is_hold_on unit)) (append-nil (flat_map (holds_by whole 0 start) whole.invocations))
      ∙ filter-flat (is_hold_on unit) (holds_by whole 0 start) whole.invocations

  -- a hold is of a use of the event
  pub record IsHoldIn (v : Invocation) (h : Hold) : Type 0 where
    pub use_now : Use
    pub uses : IsUseOf whole v use_now
    pub on : IsUseOn unit use_now
    pub is : h ≡ hold_from 0 0 v.name use_now

  pub holds_of_uses : (v : Invocation) → All (IsHoldIn v) (holds_in v)
  holds_of_uses v k d within =
      let h = get_or (holds_in v) k d in
      let here = All-passed (IsHoldBy whole 0 start v) (is_hold_on unit) (holds_by whole 0 start v) (holds_of_call earlier c named 0 start v) k d within in
      let by = here.0 in
      let passed = and_parts (bytes_eq h.inst unit.inst) (h.event == unit.event) here.1 in
      record {
        use_now = by.use_now;
        uses = by.uses;
        on = record {
          of = sym (ap (λ (h : Hold). h.inst) by.is) ∙ (bytes_eq-Decides h.inst unit.inst).0 passed.0;
          event = sym (ap (λ (h : Hold). h.event) by.is) ∙ eqb-true h.event unit.event passed.1;
          on = by.on;
        };
        is = by.is;
      }

  -- and each use of it is held
  pub hold_of_use : (v : Invocation) (u : Use) → IsUseOf whole v u → IsUseOn unit u → Contains (holds_in v) (hold_from 0 0 v.name u)
  hold_of_use v u used on =
      in_filter (is_hold_on unit) (holds_by whole 0 start v) (hold_from 0 0 v.name u) (hold_there whole 0 start v u used on.on)
      (ap₂ ◌&&◌ ((bytes_eq-Decides u.inst unit.inst).1 on.of) (eq-eqb u.event unit.event on.event))

  -- an invocation holds it once
  pub one_hold : (R : Hold → Hold → Type 0) (v : Invocation) → AllPairs R (holds_in v)
  one_hold R v i j d less within =
      let test = λ (u : Use). bytes_eq u.at.event start.event in
      let rise = AllPairs-filter (λ (u w : Use). u.event < w.event) test (uses_of whole v) (uses_of_call earlier c named v).1 in
      let held = AllPairs-mapped (λ (h k : Hold). h.event < k.event) (hold_from 0 start.row v.name) (filter test (uses_of whole v)) rise in
      let risen = AllPairs-filter (λ (h k : Hold). h.event < k.event) (is_hold_on unit) (holds_by whole 0 start v) held i j d less within in
      let one = holds_of_uses v i d (omega (arith, less, within)) in
      let other = holds_of_uses v j d within in
      let one_event : (get_or (holds_in v) i d).event ≡ unit.event = ap (λ (h : Hold). h.event) one.is ∙ one.on.event in
      let other_event : (get_or (holds_in v) j d).event ≡ unit.event = ap (λ (h : Hold). h.event) other.is ∙ other.on.event in
      absurd (omega (arith, risen, one_event, other_event))

  -- two uses of the event by two invocations keep the rules
  abbrev UsesShared : ℕ → Use → Use → Type 0
  UsesShared delay u x = AreDisjoint u x × IsWithin delay x u × IsWithin delay u x

  -- where they are of the event
  abbrev OnUnit : (Use → Use → Type 0) → Use → Use → Type 0
  OnUnit R u x = IsUseOn unit u → IsUseOn unit x → R u x

  OnUnit_back : (R : Use → Use → Type 0) → ((a b : Use) → R a b → R b a) → (a b : Use) → OnUnit R a b → OnUnit R b a
  OnUnit_back R back a b pair on_b on_a = back a b (pair on_a on_b)

  abbrev pub SharesWith : ℕ → Invocation → Invocation → Type 0
  SharesWith delay v w = (u x : Use) → IsUseOf whole v u → IsUseOf whole w x → IsUseOn unit u → IsUseOn unit x → UsesShared delay u x

  -- so do their holds
  shared_holds : (delay : ℕ) (v w : Invocation) (u x : Use) → UsesShared delay u x → AreShared delay (hold_from 0 0 v.name u) (hold_from 0 0 w.name x)
  shared_holds delay v w u x (disjoint, one, other) =
      let late : x.at.plus + x.hold ≤ u.at.plus + delay = other in
      let early : u.at.plus + u.hold ≤ x.at.plus + delay = one in (
        elim disjoint [
          | inl first ↦ (let h : u.at.plus + u.hold ≤ x.at.plus = first in inl (omega (arith, h)))
          | inr second ↦ (let h : x.at.plus + x.hold ≤ u.at.plus = second in inr (omega (arith, h)))
        ],
        omega (arith, late),
        omega (arith, early),
      )

  shared_uses : (delay : ℕ) (v w : Invocation) (u x : Use) → AreShared delay (hold_from 0 0 v.name u) (hold_from 0 0 w.name x) → UsesShared delay u x
  shared_uses delay v w u x (apart, late, early) = (
    elim apart [ inl first ↦ inl (omega (arith, first)) | inr second ↦ inr (omega (arith, second)) ],
    omega (arith, early),
    omega (arith, late),
  )

  pub holds_shared : (delay : ℕ) (calls : List Invocation) → AllPairs (SharesWith delay) calls → AllPairs (AreShared delay) (flat_map holds_in calls)
  holds_shared delay calls pairs =
      AllPairs-flat (AreShared delay) holds_in calls (λ k d within. one_hold (AreShared delay) (get_or calls k d))
      (λ i j d less within k g below l f below'.
      let v = get_or calls i d in
      let w = get_or calls j d in
      let one = holds_of_uses v k g below in
      let other = holds_of_uses w l f below' in
      let good = shared_holds delay v w one.use_now other.use_now (pairs i j d less within one.use_now other.use_now one.uses other.uses one.on other.on) in
      let S : Hold → Hold → Type 0 = AreShared delay in
      subst (S (get_or (holds_in v) k g)) (sym other.is) (subst (λ (h : Hold). S h (hold_from 0 0 w.name other.use_now)) (sym one.is) good))

  -- a use by a statement, and an earlier one
  module _ (k : ℕ) (s : Statement) (w : Invocation) (x u : Use) (used : IsUseOf (scope_with earlier c (take k c.body) s) w x) (known : IsEarlierUse (scope_with earlier c (take k c.body) s) x u) (on_x : IsUseOn unit x) (on_u : IsUseOn unit u) where
    abbrev as_seen : Scope
    as_seen = scope_with earlier c (take k c.body) s

    twice : UseTwice as_seen unit w x u
    twice = record { uses = used; known = known; on = on_x; earlier_on = on_u }

    -- the uses so far of the event are listed
    is_on : Use → Bool
    is_on y = bytes_eq y.at.event unit.on

    earlier_on : List Use
    earlier_on = filter is_on (listed as_seen x)

    are_on : (y : Use) → Contains (x ∷ earlier_on) y → IsUseSoFarOn as_seen unit x y
    unfolding earlier_on is_on
    are_on y (zero, within, same) = subst (λ (z : Use). IsUseSoFarOn as_seen unit x z) same (inl refl, on_x)
    are_on y (suc i, within, same) =
        let passed = from_filter is_on (listed as_seen x) y (i, omega arith, same) in
        let before = listed_earlier as_seen x y passed.0 in
        (inr before, record { of = before.same_instance ∙ on_x.of; event = before.same_event ∙ on_x.event; on = (bytes_eq-Decides y.at.event unit.on).0 passed.1 })

    all_on : (y : Use) → IsUseSoFarOn as_seen unit x y → Contains (x ∷ earlier_on) y
    unfolding earlier_on is_on
    all_on y (inl is, on_y) = (zero, omega arith, sym is)
    all_on y (inr before, on_y) =
        let there = in_filter is_on (listed as_seen x) y (earlier_listed as_seen x y before) ((bytes_eq-Decides y.at.event unit.on).1 on_y.on) in
        (suc there.0, omega (arith, there.1), there.2)

    -- where the earlier ones are apart, each of the two ends within the delay after the other's start
    ends_in_pair : SharesAt as_seen unit w → OfEarlier (OnUnit AreDisjoint) as_seen → (e : Event) → Contains c.events e → e.name ≡ unit.on → IsWithin e.delay x u × IsWithin e.delay u x
    ends_in_pair keeps before e has is =
        let Among : Use → Type 0 = IsUseSoFarOn as_seen unit x in
        let f = has_first Among x earlier_on are_on all_on in
        let l = has_last Among x earlier_on are_on all_on in
        let two : (a b : Use) → IsUseSoFar as_seen x a → IsUseSoFar as_seen x b → (a ≡ b) ⊎ OnUnit AreDisjoint a b =
        one_or_two as_seen x (OnUnit AreDisjoint) (OnUnit_back AreDisjoint disjoint_back) before
        (λ y known_y on_y on_x. keeps.apart x y (record { uses = used; known = known_y; on = on_x; earlier_on = on_y })) in
        let apart : (a b : Use) → Among a → Among b → (a ≡ b) ⊎ AreDisjoint a b = λ a b is_a is_b.
        elim (two a b is_a.0 is_b.0) [ inl same ↦ inl same | inr disjoint ↦ inr (disjoint is_a.1 is_b.1) ] in
        let within = each_within Among apart e.delay f.0 l.0 f.1 l.1 (λ other is_last. keeps.in_time x u f.0 other twice f.1 is_last e has is) in
        (within x u (inl refl, on_x) (inr known, on_u), within u x (inr known, on_u) (inl refl, on_x))

  -- the invocations of the statements that keep the rules keep them with each other
  pub calls_shared : (e : Event) → Contains c.events e → e.name ≡ unit.on → (n : ℕ) → n ≤ length c.body → SharesBefore earlier c unit n → AllPairs (SharesWith e.delay) (called_in earlier c named n)
  calls_shared e has is n within shares i j d less below u x used_u used_x on_u on_x =
      let all : n ≤ n = omega arith in
      uses_so_far earlier c named (OnUnit (UsesShared e.delay)) n within shared n all i j d less below u x used_u used_x (on_u.of ∙ sym on_x.of) (on_u.event ∙ sym on_x.event) on_u on_x
    where
      apart : (k : ℕ) (s : Statement) → slice_get c.body k ≡ Some s → k < n → All (λ w. (x u : Use) → IsUseOf (scope_with earlier c (take k c.body) s) w x → IsEarlierUse (scope_with earlier c (take k c.body) s) x u → OnUnit AreDisjoint u x) (invocations_at s)
      apart k s at less j f below x u used known on_u on_x =
          (shares k s less at j f below).apart x u (twice k s (get_or (invocations_at s) j f) x u used known on_x on_u)

      shared : (k : ℕ) (s : Statement) → slice_get c.body k ≡ Some s → k < n → All (λ w. (x u : Use) → IsUseOf (scope_with earlier c (take k c.body) s) w x → IsEarlierUse (scope_with earlier c (take k c.body) s) x u → OnUnit (UsesShared e.delay) u x) (invocations_at s)
      shared k s at less j f below x u used known on_u on_x =
          let w = get_or (invocations_at s) j f in
          let before = of_earlier earlier c named (OnUnit AreDisjoint) n within apart k s at (omega arith) in
          let ends = ends_in_pair k s w x u used known on_x on_u (shares k s less at j f below) before e has is in
          (apart k s at less j f below x u used known on_u on_x, ends.0, ends.1)

  -- holds that keep the rules are of statements that do
  pub statements_share : (delay : ℕ) → AllPairs (AreShared delay) (flat_map holds_in whole.invocations) → ((e : Event) → Contains c.events e → e.name ≡ unit.on → e.delay ≡ delay) → Shares earlier c unit
  statements_share delay pairs one_delay k s at j d within =
      record {
        apart = λ u other two. (shared k s at j d within u other two.uses two.known two.earlier_on two.on).0;
        in_time = λ u other first last two is_first is_last e has is.
            (let same = one_delay e has is in
            let two_within = shared k s at j d within u other two.uses two.known two.earlier_on two.on in
            let fits : IsWithin delay first last =
            span_within (IsUseSoFarOn as_seen_here unit u) delay (one_or_within u two.uses) u other first last (inl refl, two.on) (inr two.known, two.earlier_on) two_within.2 is_first.among is_last in
            subst (λ (m : ℕ). IsWithin m first last) (sym same) fits);
      }
    where
      shared : (k : ℕ) (s : Statement) → slice_get c.body k ≡ Some s → All (λ w. (x u : Use) → IsUseOf (scope_with earlier c (take k c.body) s) w x → IsEarlierUse (scope_with earlier c (take k c.body) s) x u → OnUnit (UsesShared delay) u x) (invocations_at s)
      shared k s at j d within u other used known on_other on =
          let w = get_or (invocations_at s) j d in
          let there = call_there s j d within in
          let v = known.invocation in
          let first = before earlier c others kept k s at w there in
          let rest = after earlier c others kept k s at w there in
          let used_v = earlier_whole earlier c others kept k s at w there v other known.is_earlier known.uses in
          let used_w = own_whole earlier c others kept k s at w there u used in
          let has_v = in_flat holds_in first v (hold_from 0 0 v.name other) known.is_earlier (hold_of_use v other used_v on_other) in
          let has_w = in_flat holds_in rest w (hold_from 0 0 w.name u) (is_after earlier c others kept k s at w there) (hold_of_use w u used_w on) in
          let parts : flat_map holds_in first ++ flat_map holds_in rest ≡ flat_map holds_in whole.invocations = sym (flat_map-append holds_in first rest) ∙ ap (flat_map holds_in) (cut earlier c others kept k s at w there) in
          let P : List Hold → Type 0 = AllPairs (AreShared delay) in
          shared_uses delay v w other u (pair_of (AreShared delay) (flat_map holds_in first ++ flat_map holds_in rest) (hold_from 0 0 v.name other) (hold_from 0 0 w.name u) (subst P (sym parts) pairs)
          (across (flat_map holds_in first) (flat_map holds_in rest) (hold_from 0 0 v.name other) (hold_from 0 0 w.name u) has_v has_w))

      shared_back : (a b : Use) → UsesShared delay a b → UsesShared delay b a
      shared_back a b (disjoint, one, other) = (disjoint_back a b disjoint, other, one)

      as_seen_here : Scope
      as_seen_here = scope_with earlier c (take k c.body) s

      one_or_within : (u : Use) → IsUseOf as_seen_here (get_or (invocations_at s) j d) u → (a b : Use) → IsUseSoFarOn as_seen_here unit u a → IsUseSoFarOn as_seen_here unit u b → (a ≡ b) ⊎ IsWithin delay a b
      one_or_within u used a b is_a is_b =
          let two : (a ≡ b) ⊎ OnUnit (UsesShared delay) a b =
          one_or_two as_seen_here u (OnUnit (UsesShared delay)) (OnUnit_back (UsesShared delay) shared_back)
          (all_earlier earlier c named (OnUnit (UsesShared delay)) shared k s at) (λ x known. shared k s at j d within u x used known) a b is_a.0 is_b.0 in
          elim two [ inl same ↦ inl same | inr both ↦ inr (both is_a.1 is_b.1).2 ]

pub sharing_has_one_meaning : SharingHasOneMeaning
sharing_has_one_meaning earlier c others kept unit delay uses on =
    let scope = whole earlier c others kept unit in
    let holds = flat_map (holds_in earlier c others kept unit) scope.invocations in
    let are : map (shown_hold on.names) uses ≡ holds = on.are ∙ holds_are earlier c others kept unit in
    let S : ℕ → List Hold → Type 0 = λ d hs. AllPairs (AreShared d) hs in
    let all : length c.body ≤ length c.body = omega arith in (
      λ shares.
          (let calls = calls_shared earlier c others kept unit on.event on.is_own on.named (length c.body) all (λ k s less. shares k s) in
          let shared = holds_shared earlier c others kept unit on.event.delay (called_in earlier c (names earlier c others kept) (length c.body)) calls in
          let whole_body : called_in earlier c (names earlier c others kept) (length c.body) ≡ scope.invocations = ap (flat_map invocations_at) (take-length c.body) in
          kept_by_holds delay on.names uses holds are
          (subst (λ (d : ℕ). S d holds) (sym on.delayed) (subst (λ (vs : List Invocation). S on.event.delay (flat_map (holds_in earlier c others kept unit) vs)) whole_body shared))),
      λ rules. statements_share earlier c others kept unit delay (holds_by_kept delay on.names uses holds are rules)
          (λ e has is. ap (λ (e : Event). e.delay) (one_event c (distinct earlier c others kept) e on.event has on.is_own (is ∙ sym on.named)) ∙ sym on.delayed),
    )

-- ---- events by events

-- where all uses of an event of an instance are on one event of the component, those so far are those on it
module _ (scope : Scope) (unit : UnitEvent) (v : Invocation) (u : Use) (used : IsUseOf scope v u) (on : IsUseOn unit u) (one : NamesOneEvent scope v) where
  so_far_on : (x : Use) → IsUseSoFar scope u x → IsUseSoFarOn scope unit u x
  so_far_on x (inl is) = (inl is, subst (IsUseOn unit) (sym is) on)
  so_far_on x (inr known) =
      (inr known, record { of = known.same_instance ∙ on.of; event = known.same_event ∙ on.event; on = one u x used known ∙ on.on })

  first_on : (first : Use) → StartsFirst (IsUseSoFar scope u) first → StartsFirst (IsUseSoFarOn scope unit u) first
  first_on first is = record { among = so_far_on first is.among; least = λ other among. is.least other among.0 }

  last_on : (last : Use) → StartsLast (IsUseSoFar scope u) last → StartsLast (IsUseSoFarOn scope unit u) last
  last_on last is = record { among = so_far_on last is.among; greatest = λ other among. is.greatest other among.0 }

  first_of : (first : Use) → StartsFirst (IsUseSoFarOn scope unit u) first → StartsFirst (IsUseSoFar scope u) first
  first_of first is = record { among = is.among.0; least = λ other among. is.least other (so_far_on other among) }

  last_of : (last : Use) → StartsLast (IsUseSoFarOn scope unit u) last → StartsLast (IsUseSoFar scope u) last
  last_of last is = record { among = is.among.0; greatest = λ other among. is.greatest other (so_far_on other among) }

sharing_goes : (earlier : Design) (c : Component) → NameOneEvent earlier c × ((unit : UnitEvent) → Shares earlier c unit) → KeepsComponent sharing_rules earlier c
sharing_goes earlier c (one, shares) k item is = by k item is
  where
    two_rules : (item : Item) → Keeps earlier c item F11 → Keeps earlier c item F12 → All (Keeps earlier c item) sharing_rules
    two_rules item apart in_time =
        All-cons (Keeps earlier c item) F11 (F12 ∷ []) apart (All-cons (Keeps earlier c item) F12 [] in_time (All-nil (Keeps earlier c item)))

    unit_of : Use → UnitEvent
    unit_of u = record { inst = u.inst; event = u.event; on = u.at.event }

    by : (k : ℕ) (item : Item) → IsItem c k item → All (Keeps earlier c item) sharing_rules
    by zero item is = subst (λ (i : Item). All (Keeps earlier c i) sharing_rules) (sym is) (two_rules TheSignature tt tt)
    by (suc k) item (inr (last, is)) = subst (λ (i : Item). All (Keeps earlier c i) sharing_rules) (sym is) (two_rules TheEnd tt tt)
    by (suc k) item (inl (s, at, is)) =
        let with = scope_with earlier c (take k c.body) s in
        let twice : (v : Invocation) (u other : Use) → IsUseOf with v u → IsEarlierUse with u other → other.at.event ≡ u.at.event → UseTwice with (unit_of u) v u other = λ v u other used known same.
        record { uses = used; known = known; on = record { of = refl; event = refl; on = refl }; earlier_on = record { of = known.same_instance; event = known.same_event; on = same } } in
        subst (λ (i : Item). All (Keeps earlier c i) sharing_rules) (sym is)
        (two_rules (TheStatement (take k c.body) s)
        (λ j d within u other used known.
        let same = one k s at j d within u other used known in
        (same, (shares (unit_of u) k s at j d within).apart u other (twice (get_or (invocations_at s) j d) u other used known same)))
        (λ j d within u other first last used known is_first is_last e has named.
        let v = get_or (invocations_at s) j d in
        let same = one k s at j d within u other used known in
        let on_u : IsUseOn (unit_of u) u = record { of = refl; event = refl; on = refl } in
        (shares (unit_of u) k s at j d within).in_time u other first last (twice v u other used known same)
        (first_on with (unit_of u) v u used on_u (one k s at j d within) first is_first) (last_on with (unit_of u) v u used on_u (one k s at j d within) last is_last) e has named))

pub sharing_goes_by_events : SharingGoesByEvents
sharing_goes_by_events earlier c = (
  λ rules.
      (let both : (k : ℕ) (s : Statement) → slice_get c.body k ≡ Some s → All (Keeps earlier c (TheStatement (take k c.body) s)) sharing_rules = λ k s at. rules (suc k) (TheStatement (take k c.body) s) (inl (s, at, refl)) in
      let apart : (k : ℕ) (s : Statement) → slice_get c.body k ≡ Some s → All (KeepsUsesApart (scope_with earlier c (take k c.body) s)) (invocations_at s) = λ k s at. both k s at 0 F11 (omega arith) in
      let in_time : (k : ℕ) (s : Statement) → slice_get c.body k ≡ Some s → All (EndsInTime (scope_with earlier c (take k c.body) s)) (invocations_at s) = λ k s at. both k s at 1 F11 (omega arith) in (
        λ k s at j d within u other used known. (apart k s at j d within u other used known).0,
        λ unit k s at j d within. record {
          apart = λ u other two. (apart k s at j d within u other two.uses two.known).1;
          in_time = λ u other first last two is_first is_last e has named.
              (let v = get_or (invocations_at s) j d in
              let with = scope_with earlier c (take k c.body) s in
              let one : NamesOneEvent with v = λ x y used known. (apart k s at j d within x y used known).0 in
              in_time k s at j d within u other first last two.uses two.known (first_of with unit v u two.uses two.on one first is_first) (last_of with unit v u two.uses two.on one last is_last) e has (named ∙ sym two.on.on));
        },
      )),
  sharing_goes earlier c,
)
