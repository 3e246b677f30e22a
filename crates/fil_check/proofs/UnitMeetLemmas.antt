-- What F11 and F12 show at an event of an instance is what the first meet of the holds by one transaction shows.
use Rattle.std.proofs.Common.{◌≡◌, ◌⊎◌, ℕ, zero, suc, ◌+◌, ◌-◌, ◌<◌, ◌≤◌, List, [], ◌∷◌, ◌++◌, length, map, flat_map, take, drop, get_or, slice_get, All, Contains, Option, Some, None, option_map, inl, inr, refl, sym, ap, ap₂, subst, ◌∙◌, arith}
use Rattle.std.specs.Prelude.{AllPairs, max}
use Rattle.std.proofs.lemmas.Bool.{cases_lt}
use Rattle.std.proofs.lemmas.List.{get_or_default, length-append, length-map, length-take, map-append, take-append-drop}
use Rattle.std.proofs.lemmas.List.Concat.{flat_map-append}
use Rattle.std.proofs.lemmas.List.Elements.{All-append, All-cons, All-contains, All-nil, Contains-append_left, Contains-append_right}
use Rattle.std.proofs.lemmas.Option.{same_Some, slice_get-get_or, slice_get-map, slice_get_within}
use Rattle.std.proofs.Math.Seq.{take-append_seam}
use Rattle.hw_names.specs.Name.{Text}
use Rattle.fil_ast.specs.Evidence.{IsGap, IsMeetingCycle, UsesEvent, Own, Another}
use Rattle.fil_ast.specs.Holds.{Hold, hold_from}
use Rattle.fil_ast.specs.Items.{TheStatement, scope_with}
use Rattle.fil_ast.specs.Rules.{F1, KeepsComponent, KeepsRules}
use Rattle.fil_ast.specs.Scope.{Scope, Invocation, instances_at, invocations_at}
use Rattle.fil_ast.specs.Sharing.{AreDisjoint, IsEarlierUse, IsUseOf, KeepsUsesApart}
use Rattle.fil_ast.specs.Timeline.{Use}
use Rattle.fil_ast.specs.Tree.{Component, Design, Event, Statement, TimeAt}
use Rattle.fil_sig.proofs.ListLemmas.{All-unmap}
use Rattle.fil_ast.proofs.HoldLemmas.{in_flat}
use Rattle.fil_share.specs.Sharing as sharing
use Rattle.fil_share.specs.Sharing.{BreaksInTime, IsFirstMeet, IsFirstOverlap}
use Rattle.fil_share.specs.Uses.{shown_hold}
use Rattle.fil_share.specs.declared.hold.Hold as shown
use Rattle.fil_share.proofs.ListLemmas.{All-flat_map, Contains-at, slice_get-take}
use Rattle.fil_share.proofs.MakesLemmas.{map_take}
use Rattle.fil_share.proofs.OwnLemmas.{FoundIn, HasFineUses, called_in, fine, found_all, found_more, made_in, one_use, to_with}
use Rattle.fil_check.specs.Needed.{first_ten}
use Rattle.fil_check.specs.Units.{AreHoldsOn, GapHasOneMeaning, IsFirstAt, IsUseOn, MeetingHasOneMeaning, UnitEvent}
use Rattle.fil_check.proofs.ExactLemmas.{distinct, earlier_whole, names, own_whole}
use Rattle.fil_place.proofs.GeneralLemmas.{at_left, at_right}
use Rattle.fil_check.proofs.NeededLemmas.{on_one, one_event, user}
use Rattle.fil_check.proofs.RefusedLemmas.{only_one}
use Rattle.fil_check.proofs.UnitLemmas.{AreShared, calls_shared, hold_of_use, holds_are, holds_in, holds_of_uses, holds_shared, kept_by_holds, one_hold, whole}

-- ---- lists of blocks

-- the first of a block
block_at : {X Y : Type 0} (f : X → List Y) (xs : List X) (n : ℕ) (x : X) (y : Y) → slice_get xs n ≡ Some x → slice_get (f x) 0 ≡ Some y → slice_get (flat_map f xs) (length (flat_map f (take n xs))) ≡ Some y
block_at f [] n x y at first = absurd (cc)
block_at f (z ∷ xs) zero x y at first =
    at_left (f z) (flat_map f xs) 0 y (ap (λ x. slice_get (f x) 0) (same_Some z x at) ∙ first)
block_at f (z ∷ xs) (suc n) x y at first =
    ap (slice_get (f z ++ flat_map f xs)) (length-append (f z) (flat_map f (take n xs))) ∙ at_right (f z) (flat_map f xs) (length (flat_map f (take n xs))) y (block_at f xs n x y at first)

-- the blocks before
take_blocks : {X Y : Type 0} (f : X → List Y) (xs : List X) (n : ℕ) → take (length (flat_map f (take n xs))) (flat_map f xs) ≡ flat_map f (take n xs)
take_blocks f xs n =
    ap (take (length (flat_map f (take n xs)))) (ap (flat_map f) (sym (take-append-drop n xs)) ∙ flat_map-append f (take n xs) (drop n xs))
    ∙ take-append_seam (flat_map f (take n xs)) (flat_map f (drop n xs))

-- the only element
only_there : {X : Type 0} (xs : List X) (x : X) → Contains xs x → AllPairs (λ (a b : X). ⊥) xs → xs ≡ x ∷ []
only_there [] x (k, within, same) one = absurd (omega arith)
only_there (y ∷ []) x (zero, within, same) one = ap (λ z. z ∷ []) same
only_there (y ∷ []) x (suc k, within, same) one = absurd (omega arith)
only_there (y ∷ z ∷ xs) x has one = absurd (one 0 1 y (omega arith) (omega arith))

mapped_there : {X Y : Type 0} (f : X → Y) (o : Option X) (y : Y) → option_map f o ≡ Some y → (x : X) × (o ≡ Some x) × (f x ≡ y)
mapped_there f None y is = absurd (cc)
mapped_there f (Some x) y is = (x, refl, same_Some (f x) y is)

-- an element of a mapped list, at a place
unmapped_at : {X Y : Type 0} (f : X → Y) (xs : List X) (ys : List Y) (k : ℕ) (y : Y) → map f xs ≡ ys → slice_get ys k ≡ Some y → (x : X) × (slice_get xs k ≡ Some x) × (f x ≡ y)
unmapped_at f xs ys k y are at =
    mapped_there f (slice_get xs k) y (sym (slice_get-map f xs k) ∙ ap (λ zs. slice_get zs k) are ∙ at)

-- two holds are apart
abbrev Apart : Hold → Hold → Type 0
Apart g h = (g.to ≤ h.from) ⊎ (h.to ≤ g.from)

-- holds of disjoint uses are apart
apart_holds : (one other : Text) (u x : Use) → AreDisjoint u x → Apart (hold_from 0 0 one u) (hold_from 0 0 other x)
apart_holds one other u x (inl before) = let h : u.at.plus + u.hold ≤ x.at.plus = before in inl (omega (arith, h))
apart_holds one other u x (inr after) = let h : x.at.plus + x.hold ≤ u.at.plus = after in inr (omega (arith, h))

module _ (earlier : Design) (c : Component) (others : KeepsRules first_ten earlier) (kept : KeepsComponent first_ten earlier c) (unit : UnitEvent) (delay : ℕ) (uses : List shown.Hold) (on : AreHoldsOn (whole earlier c others kept unit) unit delay uses) (k : ℕ) (s : Statement) (v : Invocation) (first : IsFirstAt earlier c unit k s v) where
  abbrev full : Scope
  full = whole earlier c others kept unit

  abbrev held : Invocation → List Hold
  held = holds_in earlier c others kept unit

  abbrev calls : List Invocation
  calls = called_in earlier c (names earlier c others kept) k

  abbrev scope : Scope
  scope = scope_with earlier c (take k c.body) s

  abbrev show : shown.Hold → Hold
  show = shown_hold on.names

  short : k ≤ length c.body
  short = omega (arith, slice_get_within c.body k s first.at)

  -- the invocation stands after those before it
  called : slice_get full.invocations (length calls) ≡ Some v
  called = block_at invocations_at c.body k s v first.at (ap (λ vs. slice_get vs 0) (only_one s v first.invoked))

  called_before : take (length calls) full.invocations ≡ calls
  called_before = take_blocks invocations_at c.body k

  -- how many holds are before its own
  abbrev number : ℕ
  number = length (flat_map held calls)

  are : map show uses ≡ flat_map held full.invocations
  are = on.are ∙ holds_are earlier c others kept unit

  before : map show (take number uses) ≡ flat_map held calls
  before =
      map_take show number uses ∙ ap (take number) are
      ∙ ap (λ (vs : List Invocation). take (length (flat_map held vs)) (flat_map held full.invocations)) (sym called_before)
      ∙ take_blocks held full.invocations (length calls) ∙ ap (flat_map held) called_before

  kept_before : sharing.CanShare delay (take number uses)
  kept_before =
      let shared = holds_shared earlier c others kept unit on.event.delay calls (calls_shared earlier c others kept unit on.event on.is_own on.named k short first.before) in
      let S : ℕ → Type 0 = λ d. AllPairs (AreShared d) (flat_map held calls) in
      kept_by_holds delay on.names (take number uses) (flat_map held calls) before (subst S (sym on.delayed) shared)

  -- the earlier invocations' uses of the event
  use_then : (w : Invocation) (u : Use) → Contains calls w → IsUseOf full w u → IsUseOf scope w u
  use_then w u has used_w =
      to_with earlier c (names earlier c others kept) k s first.at w u
      (found_more earlier c (names earlier c others kept) (made_in earlier c (names earlier c others kept) k) (instances_at s) w.inst
      (All-contains (FoundIn earlier c (names earlier c others kept) (made_in earlier c (names earlier c others kept) k)) calls w (found_all earlier c (names earlier c others kept) k short) has)) used_w

  module _ (own : Use) (used : IsUseOf scope v own) (on_own : IsUseOn unit own) where
    abbrev own_hold : Hold
    own_hold = hold_from 0 0 v.name own

    used_own : IsUseOf full v own
    used_own = own_whole earlier c others kept k s first.at v first.invoked own used

    only_own : held v ≡ own_hold ∷ []
    only_own = only_there (held v) own_hold (hold_of_use earlier c others kept unit v own used_own on_own) (one_hold earlier c others kept unit (λ a b. ⊥) v)

    own_at : slice_get (flat_map held full.invocations) number ≡ Some own_hold
    own_at =
        ap (λ (vs : List Invocation). slice_get (flat_map held full.invocations) (length (flat_map held vs))) (sym called_before)
        ∙ block_at held full.invocations (length calls) v own_hold called (ap (λ hs. slice_get hs 0) only_own)

    own_shown : (x : shown.Hold) × (slice_get uses number ≡ Some x) × (show x ≡ own_hold)
    own_shown = unmapped_at show uses (flat_map held full.invocations) number own_hold are own_at

  pub met : (cycle : ℕ) (m : IsMeetingCycle scope v cycle) → IsUseOn unit m.own → IsUseOn unit m.other → IsFirstMeet delay uses (record { gap = 0; cycle = cycle })
  met cycle m on_own on_other =
      let w = m.earlier in
      let mine = own_hold m.own m.triggers on_own in
      let other = hold_from 0 0 w.name m.other in
      let has_w = Contains-at calls m.number w m.at in
      let used_w = earlier_whole earlier c others kept k s first.at v first.invoked w m.other has_w m.triggered in
      let only_w : held w ≡ other ∷ [] = only_there (held w) other (hold_of_use earlier c others kept unit w m.other used_w on_other) (one_hold earlier c others kept unit (λ a b. ⊥) w) in
      let place = length (flat_map held (take m.number calls)) in
      let there = unmapped_at show (take number uses) (flat_map held calls) place other before (block_at held calls m.number w other m.at (ap (λ hs. slice_get hs 0) only_w)) in
      let own = own_shown m.own m.triggers on_own in
      let y = there.0 in
      let x = own.0 in
      let y_from : y.from ≡ 0 + m.other.at.plus = ap (λ (h : Hold). h.from) there.2 in
      let y_to : y.to ≡ 0 + m.other.at.plus + m.other.hold = ap (λ (h : Hold). h.to) there.2 in
      let x_from : x.from ≡ 0 + m.own.at.plus = ap (λ (h : Hold). h.from) own.2 in
      let x_to : x.to ≡ 0 + m.own.at.plus + m.own.hold = ap (λ (h : Hold). h.to) own.2 in
      let sooner : map show (take place (take number uses)) ≡ flat_map held (take m.number calls) =
      map_take show place (take number uses) ∙ ap (take place) before ∙ take_blocks held calls m.number in
      let apart : All (λ (h : Hold). Apart h mine) (flat_map held (take m.number calls)) =
      All-flat_map (λ (h : Hold). Apart h mine) held (take m.number calls)
      (λ i d within j g below.
      let earlier_calls = take m.number calls in
      let o = get_or earlier_calls i d in
      let h = holds_of_uses earlier c others kept unit o j g below in
      let less : i < m.number = omega (arith, within, length-take m.number calls) in
      let at_o = slice_get-take m.number calls i o (slice_get-get_or earlier_calls i d within) in
      let used_o = use_then o h.use_now (Contains-at calls i o at_o) h.uses in
      let disjoint = (m.before i o less at_o m.own h.use_now m.triggers used_o (h.on.of ∙ sym on_own.of) (h.on.event ∙ sym on_own.event)).1 in
      let apart_then : Apart (hold_from 0 0 o.name h.use_now) mine = apart_holds o.name v.name h.use_now m.own disjoint in
      subst (λ (z : Hold). Apart z mine) (sym h.is) apart_then) in
      let A : List Hold → Type 0 = λ hs. All (λ (h : Hold). Apart h mine) hs in
      let all_apart : All (λ (z : shown.Hold). Apart (show z) mine) (take place (take number uses)) =
      All-unmap (λ (h : Hold). Apart h mine) show (take place (take number uses)) (subst A (sym sooner) apart) in
      let overlap : IsFirstOverlap (take number uses) x place =
      record {
        other = y;
        at = there.1;
        overlaps = λ apart. m.meet (on_other.on ∙ sym on_own.on, elim apart [ inl h ↦ inl (omega (arith, h, y_to, x_from)) | inr h ↦ inr (omega (arith, h, x_to, y_from)) ]);
        before = λ i d within.
            (let z = get_or (take place (take number uses)) i d in
            elim (all_apart i d within) [ inl h ↦ inl (omega (arith, h, x_from)) | inr h ↦ inr (omega (arith, h, x_to)) ]);
      } in
      record {
        number = number;
        use_now = x;
        at = own.1;
        kept = kept_before;
        broken = inl (record { place = place; overlap = overlap; gap = refl; cycle = omega (arith, m.later, y_from, x_from) });
      }

  -- F12 is broken at the invocation, and F11 is kept
  module _ (gap cycle : ℕ) (apart : KeepsUsesApart scope v) (g : IsGap scope v gap cycle) (on_first : IsUseOn unit g.first) where
    -- every use of the event is on the same event of the component
    on_all : (u : Use) → UsesEvent scope v g.event u → IsUseOn unit u
    on_all u uses_it =
        let mine = user scope v g.event u uses_it in
        let its = user scope v g.event g.first g.span.has_first in
        record {
          of = mine.of ∙ sym its.of ∙ on_first.of;
          event = mine.number ∙ sym its.number ∙ on_first.event;
          on = on_one scope v apart g.event u g.first uses_it g.span.has_first ∙ on_first.on;
        }

    own_number : unit.event ≡ g.event
    own_number = sym on_first.event ∙ (user scope v g.event g.first g.span.has_first).number

    -- the invocation's own use
    record HasOwn : Type 0 where
      own : Use
      used : IsUseOf scope v own
      number : own.event ≡ g.event

    own_by : (u : Use) → UsesEvent scope v g.event u → HasOwn
    own_by u (Own used number) = record { own = u; used = used; number = number }
    own_by u (Another own used number known) = record { own = own; used = used; number = number }

    module _ (mine : HasOwn) where
      abbrev own : Use
      own = mine.own

      on_own : IsUseOn unit own
      on_own = on_all own (Own mine.used mine.number)

      abbrev here : Hold
      here = own_hold own mine.used on_own

      -- all holds of the event so far are of its uses, and all its uses are held
      abbrev so_far : List Hold
      so_far = flat_map held calls ++ here ∷ []

      known_by : (w : Invocation) (u : Use) → Contains calls w → IsUseOf scope w u → IsUseOn unit u → IsEarlierUse scope own u
      known_by w u has used on_u = record {
        invocation = w;
        is_earlier = has;
        uses = used;
        same_instance = on_u.of ∙ sym on_own.of;
        same_event = on_u.event ∙ sym on_own.event;
      }

      all_uses : (P : Hold → Type 0) → ((name : Text) (u : Use) → UsesEvent scope v g.event u → P (hold_from 0 0 name u)) → All P so_far
      all_uses P each =
          All-append P (flat_map held calls) (here ∷ [])
          (All-flat_map P held calls
          (λ i d within j e below.
          let w = get_or calls i d in
          let h = holds_of_uses earlier c others kept unit w j e below in
          let has : Contains calls w = (i, within, get_or_default calls i w d within) in
          let known = known_by w h.use_now has (use_then w h.use_now has h.uses) h.on in
          subst P (sym h.is) (each w.name h.use_now (Another own mine.used mine.number known))))
          (All-cons P here [] (each v.name own (Own mine.used mine.number)) (All-nil P))

      held_by : (u : Use) → UsesEvent scope v g.event u → (name : Text) × Contains so_far (hold_from 0 0 name u)
      held_by u (Own used number) =
          let on_u = on_all u (Own used number) in
          let there = hold_of_use earlier c others kept unit v u (used_own u used on_u) on_u in
          (v.name, Contains-append_right (flat_map held calls) (here ∷ []) (hold_from 0 0 v.name u) (subst (λ (hs : List Hold). Contains hs (hold_from 0 0 v.name u)) (only_own own mine.used on_own) there))
      held_by u (Another own' used number known) =
          let w = known.invocation in
          let on_u = on_all u (Another own' used number known) in
          let used_w = earlier_whole earlier c others kept k s first.at v first.invoked w u known.is_earlier known.uses in
          let there = hold_of_use earlier c others kept unit w u used_w on_u in
          (w.name, Contains-append_left (flat_map held calls) (here ∷ []) (hold_from 0 0 w.name u) (in_flat held calls w (hold_from 0 0 w.name u) known.is_earlier there))

      -- an earlier invocation uses the event, else the one use would break F10
      some_earlier : 0 < length (flat_map held calls)
      some_earlier = by g.span.has_first g.span.has_last
        where
          there : (u known_own : Use) → IsEarlierUse scope known_own u → IsUseOn unit u → 0 < length (flat_map held calls)
          there u known_own known on_u =
              let w = known.invocation in
              let used_w = earlier_whole earlier c others kept k s first.at v first.invoked w u known.is_earlier known.uses in
              let has = in_flat held calls w (hold_from 0 0 w.name u) known.is_earlier (hold_of_use earlier c others kept unit w u used_w on_u) in
              omega (arith, has.1)

          by : UsesEvent scope v g.event g.first → UsesEvent scope v g.event g.last → 0 < length (flat_map held calls)
          by (Another own' used number known) last = there g.first own' known (on_all g.first (Another own' used number known))
          by (Own used number) (Another own' used' number' known) = there g.last own' known (on_all g.last (Another own' used' number' known))
          by (Own used number) (Own used' number') =
              let a = used_own g.first used on_first in
              let b = used_own g.last used' (on_all g.last (Own used' number')) in
              let same = one_use earlier c (names earlier c others kept) v g.first g.last a b (number ∙ sym number') in
              let plus : g.first.at.plus ≡ g.last.at.plus = ap (λ (t : TimeAt). t.plus) same.0 in
              let fine_one = All-contains (HasFineUses earlier c (names earlier c others kept)) full.invocations v (fine earlier c (names earlier c others kept) (λ j t at_j. kept (suc j) (TheStatement (take j c.body) t) (inl (t, at_j, refl)) 9 F1 (omega arith))) (Contains-at full.invocations (length calls) v called) g.first a in
              let small : g.first.hold ≤ g.span.on.delay = fine_one.short g.span.on g.span.is_own g.span.named in
              absurd (g.broken (omega (arith, plus, same.1, small, g.span.delayed)))

      -- the use that is held, as the list of the holds has it
      abbrev list : List shown.Hold
      list = take number uses ++ (own_shown own mine.used on_own).0 ∷ []

      list_is : map show list ≡ so_far
      list_is =
          map-append show (take number uses) ((own_shown own mine.used on_own).0 ∷ [])
          ∙ ap₂ (λ (hs : List Hold) (h : Hold). hs ++ h ∷ []) before (own_shown own mine.used on_own).2

      shown_by : (u : Use) → UsesEvent scope v g.event u → (x : shown.Hold) × Contains list x × (x.from ≡ u.at.plus) × (x.to ≡ u.at.plus + u.hold)
      shown_by u uses_it =
          let there = held_by u uses_it in
          let h = hold_from 0 0 there.0 u in
          let has = there.1 in
          let found = unmapped_at show list so_far has.0 h list_is (slice_get-get_or so_far has.0 h has.1 ∙ ap Some has.2) in
          let from : found.0.from ≡ 0 + u.at.plus = ap (λ (h : Hold). h.from) found.2 in
          let to : found.0.to ≡ 0 + u.at.plus + u.hold = ap (λ (h : Hold). h.to) found.2 in
          (found.0, Contains-at list has.0 found.0 found.1, omega (arith, from), omega (arith, to))

      overrun : IsFirstMeet delay uses (record { gap = gap; cycle = cycle })
      overrun =
          let x = (own_shown own mine.used on_own).0 in
          let x_from : x.from ≡ 0 + own.at.plus = ap (λ (h : Hold). h.from) (own_shown own mine.used on_own).2 in
          let x_to : x.to ≡ 0 + own.at.plus + own.hold = ap (λ (h : Hold). h.to) (own_shown own mine.used on_own).2 in
          let a = shown_by g.first g.span.has_first in
          let b = shown_by g.last g.span.has_last in
          let L : List Hold → Type 0 = λ hs. All (λ (h : Hold). Apart h here) hs in
          let apart_all : All (λ (z : shown.Hold). Apart (show z) here) (take number uses) =
          All-unmap (λ (h : Hold). Apart h here) show (take number uses)
          (subst L (sym before)
          (All-flat_map (λ (h : Hold). Apart h here) held calls
          (λ i d within j e below.
          let w = get_or calls i d in
          let h = holds_of_uses earlier c others kept unit w j e below in
          let has : Contains calls w = (i, within, get_or_default calls i w d within) in
          let known = known_by w h.use_now has (use_then w h.use_now has h.uses) h.on in
          subst (λ (z : Hold). Apart z here) (sym h.is) (apart_holds w.name v.name h.use_now own (apart own h.use_now mine.used known).1)))) in
          let least : All (λ (z : shown.Hold). a.0.from ≤ z.from) list =
          All-unmap (λ (h : Hold). a.0.from ≤ h.from) show list
          (subst (All (λ (h : Hold). a.0.from ≤ h.from)) (sym list_is) (all_uses (λ (h : Hold). a.0.from ≤ h.from) (λ name u it. omega (arith, g.span.least u it, a.2)))) in
          let greatest : All (λ (z : shown.Hold). z.from ≤ b.0.from) list =
          All-unmap (λ (h : Hold). h.from ≤ b.0.from) show list
          (subst (All (λ (h : Hold). h.from ≤ b.0.from)) (sym list_is) (all_uses (λ (h : Hold). h.from ≤ b.0.from) (λ name u it. omega (arith, g.span.greatest u it, b.2)))) in
          let one_delay : g.delay ≡ delay =
          g.span.delayed ∙ ap (λ (e : Event). e.delay) (one_event c (distinct earlier c others kept) g.span.on on.event g.span.is_own on.is_own (g.span.named ∙ on_first.on ∙ sym on.named)) ∙ sym on.delayed in
          let late : g.first.at.plus + g.delay < g.last.at.plus + g.last.hold =
          elim (cases_lt (g.first.at.plus + g.delay) (g.last.at.plus + g.last.hold)) [ inl h ↦ h | inr h ↦ absurd (g.broken h) ] in
          let long : length (map show (take number uses)) ≡ length (flat_map held calls) = ap length before in
          let breaks : BreaksInTime delay (take number uses) x (record { gap = gap; cycle = cycle }) =
          record {
            apart = λ i d within.
                (let z = get_or (take number uses) i d in
                elim (apart_all i d within) [ inl h ↦ inl (omega (arith, h, x_from)) | inr h ↦ inr (omega (arith, h, x_to)) ]);
            several = omega (arith, some_earlier, long, length-map (take number uses) show);
            first = a.0;
            last = b.0;
            is_first = (a.1, least);
            is_last = (b.1, greatest);
            late = omega (arith, late, a.2, b.3, one_delay);
            gap = g.distance ∙ ap₂ max one_delay (ap₂ ◌-◌ (sym b.2) (sym a.2));
            cycle = g.row ∙ ap (λ n. gap + n) (sym a.2);
          } in
          record { number = number; use_now = x; at = (own_shown own mine.used on_own).1; kept = kept_before; broken = inr breaks }

pub meeting_has_one_meaning : MeetingHasOneMeaning
meeting_has_one_meaning earlier c others kept unit delay uses on k s v first cycle m on_own on_other =
    met earlier c others kept unit delay uses on k s v first cycle m on_own on_other

pub gap_has_one_meaning : GapHasOneMeaning
gap_has_one_meaning earlier c others kept unit delay uses on k s v first apart gap cycle g on_first =
    overrun earlier c others kept unit delay uses on k s v first gap cycle apart g on_first
    (own_by earlier c others kept unit delay uses on k s v first gap cycle apart g on_first g.first g.span.has_first)
