-- Under F1 to F10, F11 and F12 hold exactly if legal transactions hold nothing twice.
use Rattle.std.proofs.Common.{◌≡◌, ◌⊎◌, ℕ, zero, suc, ◌+◌, ◌-◌, ◌<◌, ◌≤◌, Bool, true, false, cond, List, [], ◌∷◌, ◌++◌, length, flat_map, take, drop, get_or, slice_get, All, Contains, Option, Some, None, inl, inr, refl, sym, ap, subst, ◌∙◌, arith}
use Rattle.std.specs.Option.{IfSome, option_and_then}
use Rattle.std.specs.Prelude.{AllPairs, max}
use Rattle.std.specs.Str.{bytes_eq}
use Rattle.std.proofs.lemmas.Bool.{cases_lt}
use Rattle.std.proofs.lemmas.List.{get_or_default, take-append-drop}
use Rattle.std.proofs.lemmas.List.Concat.{flat_map-append}
use Rattle.std.proofs.lemmas.List.Elements.{All-cons, All-contains, All-head, All-map, All-nil, Contains-append_left, Contains-append_right}
use Rattle.std.proofs.lemmas.Option.{none-some, same_Some, slice_get-get_or, slice_get_within, get_or_from_slice_get}
use Rattle.std.proofs.lemmas.Slice.Eq.{bytes_eq-Decides}
use Rattle.hw_names.specs.Name.{Text, AreDistinct}
use Rattle.fil_ast.proofs.UseLemmas.{parts_of}
use Rattle.fil_ast.proofs.SharingLemmas.{KeepsPairsInTime}
use Rattle.fil_ast.specs.Evidence.{AreKeptApart, Fits}
use Rattle.fil_ast.specs.Holds as held
use Rattle.fil_ast.specs.Holds.{Start, Hold, holds_of}
use Rattle.fil_ast.specs.Items.{Item, TheSignature, TheStatement, TheEnd, scope_after, scope_with}
use Rattle.fil_ast.specs.Naming.{event_names, instance_names}
use Rattle.fil_ast.specs.Primitives.{is_filament_primitive, primitive_signature}
use Rattle.fil_ast.specs.Rules.{Rule, F1, F11, F12, Keeps, KeepsComponent, KeepsRules, OfInvocation}
use Rattle.fil_ast.specs.Scope.{Scope, Instance, Invocation, bare_signature, component_named, instance_named, instance_signature, instances_at, invocations_at, signature_in}
use Rattle.fil_ast.specs.Sharing.{IsUseOf, KeepsUsesApart}
use Rattle.fil_ast.specs.Signature.{Delay, Fixed, Gap, End, SigEvent, Signature, component_signature, sig_event}
use Rattle.fil_ast.specs.Timeline.{HoldsSome, IsUse, Use, hold_of, until}
use Rattle.fil_ast.specs.Tree.{Component, Design, Event, Statement, New, Call, Both, Connect, TimeAt}
use Rattle.fil_ast.specs.Typing.{HasShape}
use Rattle.fil_ast.specs.Wires.{whole_scope}
use Rattle.fil_ast.proofs.HoldLemmas.{in_flat}
use Rattle.fil_share.specs.Instances.{signature_of}
use Rattle.fil_share.proofs.CalleeLemmas.{named_among}
use Rattle.fil_share.proofs.ListLemmas.{All-flat_map, Contains-at}
use Rattle.fil_share.proofs.OwnLemmas.{FoundIn, KeepsNames, KeepsShared, cut_before, cut_with, ends_in_time, find_last, found_all, found_more, found_own, made_in, own_apart, same_meaning, some_there, to_whole}
use Rattle.fil_place.specs.Callees.{HasGoodDelay, IsGoodDelay}
use Rattle.fil_check.specs.Needed.{Collide, HoldsTwice, NothingIsHeldTwice, SharingRulesAreExact, first_ten, gap_starts, later_of, meeting_starts, sharing_rules}
use Rattle.fil_rules.specs.Held.{AreHeld}
use Rattle.fil_place.proofs.MadeLemmas.{primitive_times}
use Rattle.fil_check.proofs.NeededLemmas.{meet, overrun}

-- a delay is a row or more
abbrev IsARow : Delay → Type 0
IsARow (Fixed rows) = 1 ≤ rows
IsARow Gap = Unit {0}
IsARow End = Unit {0}

abbrev LastsARow : SigEvent → Type 0
LastsARow e = IsARow e.delay

-- a use is held for a row or more, where delays are, and a register's times are apart
use_held : (sig : Signature) (inst : Text) (times : List TimeAt) (u : Use) → All LastsARow sig.events → HoldsSome sig times → IsUse sig inst times u → 0 < u.hold
use_held sig inst times u long some used =
    by used.event.delay refl (slice_get times (u.event + 1)) refl (parts_of used).held (All-contains LastsARow sig.events used.event long (Contains-at sig.events u.event used.event used.of))
  where
    by : (d : Delay) → used.event.delay ≡ d → (o : Option TimeAt) → slice_get times (u.event + 1) ≡ o → hold_of d u.at o ≡ Some u.hold → IsARow d → 0 < u.hold
    by (Fixed rows) is o next held least = let same = same_Some rows u.hold held in omega arith
    by Gap is None next held least = absurd (none-some u.hold held)
    by Gap is (Some t) next held least =
        let apart = some u.event used.event used.of is u.at t (parts_of used).time next in
        let same = same_Some (until u.at t) u.hold held in
        omega arith
    by End is o next held least = absurd (none-some u.hold held)

some_delay : (e : SigEvent) → HasGoodDelay e → LastsARow e
some_delay e good = by e.delay good
  where
    by : (d : Delay) → IsGoodDelay d → IsARow d
    by (Fixed rows) good = good.0
    by Gap good = good
    by End good = good

-- the callees of a component, after components whose delays are a row or more
callee_lasts : (earlier : Design) → All HasShape earlier → (made : Text) (params : List ℕ) (sig : Signature) → signature_in earlier made params ≡ Some sig → All LastsARow sig.events
callee_lasts earlier shapes made params sig = by (is_filament_primitive made) (component_named earlier made) refl
  where
    bare : (ps : List ℕ) (d : Component) → HasShape d → bare_signature ps d ≡ Some sig → All LastsARow sig.events
    bare [] d shape e =
        let L : Signature → Type 0 = λ g. All LastsARow g.events in
        subst L (same_Some (component_signature d) sig e) (All-map LastsARow (sig_event d.interfaces) d.events shape.delays)
    bare (p ∷ ps) d shape e = absurd (cc)

    by : (b : Bool) (o : Option Component) → component_named earlier made ≡ o → cond b (primitive_signature made params) (option_and_then (bare_signature params) o) ≡ Some sig → All LastsARow sig.events
    by true o found e =
        λ k d within. some_delay (get_or sig.events k d) ((primitive_times made params sig e).delays k d within)
    by false None found e = absurd (none-some sig e)
    by false (Some d) found e = bare params d (All-contains HasShape earlier d shapes (named_among made earlier d found)) e

in_drop : {X : Type 0} (xs : List X) (k : ℕ) (x : X) → slice_get xs k ≡ Some x → Contains (drop k xs) x
in_drop [] k x at = absurd (cc)
in_drop (y ∷ xs) zero x at = Contains-at (y ∷ xs) 0 x at
in_drop (y ∷ xs) (suc k) x at = in_drop xs k x at

apart_or_not : (u x : Use) → AreKeptApart u x ⊎ (¬ AreKeptApart u x)
apart_or_not u x = by (bytes_eq u.at.event x.at.event) refl
  where
    by : (b : Bool) → bytes_eq u.at.event x.at.event ≡ b → AreKeptApart u x ⊎ (¬ AreKeptApart u x)
    by true is =
        let same = (bytes_eq-Decides u.at.event x.at.event).0 is in
        elim (cases_lt x.at.plus (u.at.plus + u.hold)) [
          | inr le ↦ inl (same, inl le)
          | inl less ↦ elim (cases_lt u.at.plus (x.at.plus + x.hold)) [
            | inr le ↦ inl (same, inr le)
            | inl less' ↦ inr (λ apart. elim apart.1 [ inl h ↦ omega arith | inr h ↦ omega arith ])
          ]
        ]
    by false is = inr (λ apart. (let bad : true ≡ false = sym ((bytes_eq-Decides u.at.event x.at.event).1 apart.0) ∙ is in absurd (cc)))

-- holds that are apart don't meet
not_twice : (holds : List Hold) (inst : Text) (event row : ℕ) → AllPairs held.NeverMeet holds → HoldsTwice holds inst event row → ⊥
not_twice holds inst event row apart two =
    let within_i = slice_get_within holds two.i two.one two.at_one in
    let within_j = slice_get_within holds two.j two.other two.at_other in
    let one : get_or holds two.i two.one ≡ two.one = get_or_from_slice_get holds two.i two.one two.one two.at_one in
    let other : get_or holds two.j two.one ≡ two.other = get_or_from_slice_get holds two.j two.other two.one two.at_other in
    let P : Hold → Hold → Type 0 = held.NeverMeet in
    let both : held.NeverMeet two.one two.other =
    subst (P two.one) other (subst (λ (h : Hold). P h (get_or holds two.j two.one)) one (apart two.i two.j two.one two.differ within_j)) in
    let a = two.held_one in
    let b = two.held_other in
    elim (both (two.of_one.0 ∙ sym two.of_other.0) (two.of_one.1 ∙ sym two.of_other.1)) [ inl h ↦ (let x = a.1 in let y = b.0 in omega arith) | inr h ↦ (let x = a.0 in let y = b.1 in omega arith) ]

pub call_there : (s : Statement) (j : ℕ) (d : Invocation) → j < length (invocations_at s) → Contains (invocations_at s) (get_or (invocations_at s) j d)
call_there s j d within = (j, within, get_or_default (invocations_at s) j (get_or (invocations_at s) j d) d within)

-- every use of a component is held for a row or more, where its statements keep F1, F2 and F7, and delays are a row or more
module _ (earlier : Design) (c : Component) (names : KeepsNames earlier c) (shapes : All HasShape earlier) (times : (k : ℕ) (s : Statement) → slice_get c.body k ≡ Some s → OfInvocation (λ sig inst gives. HoldsSome sig gives.times) (scope_after earlier c (take k c.body)) s) where
  abbrev whole : Scope
  whole = whole_scope earlier c

  -- F7 of an invocation
  abbrev HoldsAll : Invocation → Type 0
  HoldsAll v = IfSome (instance_signature whole v.inst) (λ sig. HoldsSome sig v.gives.times)

  abbrev OfTimes : List TimeAt → Option Signature → Type 0
  OfTimes times o = IfSome o (λ sig. HoldsSome sig times)

  holds_at : (k : ℕ) (s : Statement) → slice_get c.body k ≡ Some s → OfInvocation (λ sig inst gives. HoldsSome sig gives.times) (scope_after earlier c (take k c.body)) s → All HoldsAll (invocations_at s)
  holds_at k (New name made params) at some = All-nil HoldsAll
  holds_at k (Connect output value) at some = All-nil HoldsAll
  holds_at k (Call name inst gives) at some =
      let s = Call name inst gives in
      let v : Invocation = record { name = name; inst = inst; gives = gives } in
      All-cons HoldsAll v []
      (subst (OfTimes gives.times)
      (same_meaning earlier c names (made_in earlier c names k) (flat_map instances_at (drop k c.body)) inst (cut_before earlier c names k s at) (some_there (instance_named (made_in earlier c names k) inst) (names.known_names k s at).0)) some)
      (All-nil HoldsAll)
  holds_at k (Both name made params gives) at some =
      let s = Both name made params gives in
      let i : Instance = record { name = name; made = made; params = params } in
      let so_far = made_in earlier c names k in
      let last = find_last so_far i (All-head (λ (i : Instance). ¬ Contains (instance_names so_far) i.name) i [] (names.new_names k s at).instances) in
      let v : Invocation = record { name = name; inst = name; gives = gives } in
      All-cons HoldsAll v []
      (subst (OfTimes gives.times)
      (sym (ap (option_and_then (signature_of earlier)) last) ∙ same_meaning earlier c names (so_far ++ i ∷ []) (flat_map instances_at (drop (k + 1) c.body)) name (cut_with earlier c names k s at) (i, last)) some)
      (All-nil HoldsAll)

  holds_all : All HoldsAll whole.invocations
  holds_all = All-flat_map HoldsAll invocations_at c.body
      (λ k d within.
      let s = get_or c.body k d in
      let at = slice_get-get_or c.body k d within in
      holds_at k s at (times k s at))

  pub are_held : AreHeld whole
  are_held v u there (sig, is, used) =
      use_held sig v.inst v.gives.times u (lasts (instance_named whole.instances v.inst) is) (subst (OfTimes v.gives.times) is (All-contains HoldsAll whole.invocations v holds_all there)) used
    where
      lasts : (o : Option Instance) → option_and_then (signature_of earlier) o ≡ Some sig → All LastsARow sig.events
      lasts None e = absurd (none-some sig e)
      lasts (Some i) e = callee_lasts earlier shapes i.made i.params sig e

module _ (earlier : Design) (c : Component) (others : KeepsRules first_ten earlier) (kept : KeepsComponent first_ten earlier c) where
  pub names : KeepsNames earlier c
  names = record {
    new_names = λ k s at. kept (suc k) (TheStatement (take k c.body) s) (inl (s, at, refl)) 0 F1 (omega arith);
    known_names = λ k s at. kept (suc k) (TheStatement (take k c.body) s) (inl (s, at, refl)) 1 F1 (omega arith);
  }

  shapes : All HasShape earlier
  shapes k d within = others k (get_or earlier k d) (slice_get-get_or earlier k d within) 0 TheSignature refl 4 F1 (omega arith)

  abbrev pub full : Scope
  full = whole_scope earlier c

  pub all_held : AreHeld full
  all_held = are_held earlier c names shapes (λ k s at. kept (suc k) (TheStatement (take k c.body) s) (inl (s, at, refl)) 6 F1 (omega arith))

  pub distinct : AreDistinct (event_names c)
  distinct = (kept 0 TheSignature refl 0 F1 (omega arith)).events

  pub shape : HasShape c
  shape = kept 0 TheSignature refl 4 F1 (omega arith)

  -- an invocation of a statement, and those before and from it on
  module _ (k : ℕ) (s : Statement) (at : slice_get c.body k ≡ Some s) (w : Invocation) (there : Contains (invocations_at s) w) where
    abbrev pub with : Scope
    with = scope_with earlier c (take k c.body) s

    abbrev pub before : List Invocation
    before = flat_map invocations_at (take k c.body)

    abbrev pub after : List Invocation
    after = flat_map invocations_at (drop k c.body)

    pub cut : before ++ after ≡ full.invocations
    cut = sym (flat_map-append invocations_at (take k c.body) (drop k c.body)) ∙ ap (flat_map invocations_at) (take-append-drop k c.body)

    pub is_after : Contains after w
    is_after = in_flat invocations_at (drop k c.body) s w (in_drop c.body k s at) there

    pub in_whole : (v : Invocation) → Contains before v → Contains full.invocations v × Contains full.invocations w
    in_whole v has =
        let C : Invocation → List Invocation → Type 0 = λ i vs. Contains vs i in
        (subst (C v) cut (Contains-append_left before after v has), subst (C w) cut (Contains-append_right before after w is_after))

    -- what is used here is used in the whole component
    pub own_whole : (u : Use) → IsUseOf with w u → IsUseOf full w u
    own_whole u used =
        let F : Invocation → Type 0 = FoundIn earlier c names (made_in earlier c names k ++ instances_at s) in
        to_whole earlier c names k s at w u (All-contains F (invocations_at s) w (found_own earlier c names k s at) there) used

    pub earlier_whole : (v : Invocation) (u : Use) → Contains before v → IsUseOf with v u → IsUseOf full v u
    earlier_whole v u has used =
        let F : Invocation → Type 0 = FoundIn earlier c names (made_in earlier c names k) in
        let within = slice_get_within c.body k s at in
        to_whole earlier c names k s at v u (found_more earlier c names (made_in earlier c names k) (instances_at s) v.inst (All-contains F before v (found_all earlier c names k (omega arith)) has)) used

  module _ (apart : NothingIsHeldTwice earlier c) where
    no_collision : (starts : List Start) (inst : Text) (event row : ℕ) → Collide full starts inst event row → ⊥
    no_collision starts inst event row met = not_twice (holds_of full starts) inst event row (apart starts met.legal) met.twice

    -- under F12 by holds
    fits : (v w : Invocation) (first last : Use) → IsUseOf full v first → IsUseOf full w last → Contains full.invocations v → Contains full.invocations w → first.inst ≡ last.inst → first.event ≡ last.event → first.at.event ≡ last.at.event
        → 0 < first.hold → 0 < last.hold → (e : Event) → Contains c.events e → e.name ≡ first.at.event → Fits first last e.delay
    fits v w first last of_v of_w has_v has_w same_instance same_event on held_first held_last e has_e named =
        elim (cases_lt (first.at.plus + e.delay) (last.at.plus + last.hold)) [
          | inr le ↦ le
          | inl late ↦
              let gap = max e.delay (last.at.plus - first.at.plus) in
              absurd (no_collision (gap_starts first.at.event gap) last.inst last.event (gap + first.at.plus)
              (overrun full v w first last of_v of_w has_v has_w same_instance same_event on held_first held_last e has_e named distinct shape (λ fit. (let fit' : last.at.plus + last.hold ≤ first.at.plus + e.delay = fit in omega arith)) gap refl))
        ]

    module _ (k : ℕ) (s : Statement) (at : slice_get c.body k ≡ Some s) (w : Invocation) (there : Contains (invocations_at s) w) where
      keeps_apart : KeepsUsesApart (with k s at w there) w
      keeps_apart u other used known = elim (apart_or_not other u) [
        | inl good ↦ good
        | inr met ↦
            let v = known.invocation in
            let used_v = earlier_whole k s at w there v other known.is_earlier known.uses in
            let used_w = own_whole k s at w there u used in
            let both = in_whole k s at w there v known.is_earlier in
            let found = meet full v w other u used_v used_w known.same_instance known.same_event (before k s at w there) (after k s at w there) (cut k s at w there) known.is_earlier (is_after k s at w there) (all_held v other both.0 used_v) (all_held w u both.1 used_w) met in
            absurd (no_collision (meeting_starts other.at u.at) other.inst other.event (later_of other.at u.at) found)
      ]

      ends_in_pairs : KeepsPairsInTime (with k s at w there) w
      ends_in_pairs u other used known e has_e named =
          let v = known.invocation in
          let used_v = earlier_whole k s at w there v other known.is_earlier known.uses in
          let used_w = own_whole k s at w there u used in
          let both = in_whole k s at w there v known.is_earlier in
          let on = (keeps_apart u other used known).0 in
          let held_v = all_held v other both.0 used_v in
          let held_w = all_held w u both.1 used_w in (
            fits w v u other used_w used_v both.1 both.0 (sym known.same_instance) (sym known.same_event) (sym on) held_w held_v e has_e named,
            fits v w other u used_v used_w both.0 both.1 known.same_instance known.same_event on held_v held_w e has_e (named ∙ sym on),
          )

  two_rules : (item : Item) → Keeps earlier c item F11 → Keeps earlier c item F12 → All (Keeps earlier c item) sharing_rules
  two_rules item apart in_time =
      let K : Rule → Type 0 = Keeps earlier c item in
      All-cons K F11 (F12 ∷ []) apart (All-cons K F12 [] in_time (All-nil K))

  pub sharing_is_kept : NothingIsHeldTwice earlier c → KeepsComponent sharing_rules earlier c
  sharing_is_kept apart zero item is = subst (λ (i : Item). All (Keeps earlier c i) sharing_rules) (sym is) (two_rules TheSignature tt tt)
  sharing_is_kept apart (suc k) item (inr (last, is)) = subst (λ (i : Item). All (Keeps earlier c i) sharing_rules) (sym is) (two_rules TheEnd tt tt)
  sharing_is_kept apart (suc k) item (inl (s, at, is)) =
      subst (λ (i : Item). All (Keeps earlier c i) sharing_rules) (sym is)
      (two_rules (TheStatement (take k c.body) s) (λ j d within. keeps_apart apart k s at (get_or (invocations_at s) j d) (call_there s j d within))
      (ends_in_time earlier c names (λ k s at j d within. keeps_apart apart k s at (get_or (invocations_at s) j d) (call_there s j d within))
      (λ k s at j d within. ends_in_pairs apart k s at (get_or (invocations_at s) j d) (call_there s j d within)) k s at))

  -- F10 to F12 at each statement
  pub nothing_twice : KeepsComponent sharing_rules earlier c → NothingIsHeldTwice earlier c
  nothing_twice rules starts legal =
      let shared : KeepsShared earlier c =
      record {
        delays = λ k s at. kept (suc k) (TheStatement (take k c.body) s) (inl (s, at, refl)) 9 F1 (omega arith);
        apart = λ k s at. rules (suc k) (TheStatement (take k c.body) s) (inl (s, at, refl)) 0 F1 (omega arith);
        in_time = λ k s at. rules (suc k) (TheStatement (take k c.body) s) (inl (s, at, refl)) 1 F1 (omega arith);
      } in
      own_apart earlier c names shared 0 starts (λ i j d less within. inl (legal i j d less within))

pub sharing_rules_are_exact : SharingRulesAreExact
sharing_rules_are_exact earlier c others kept = (nothing_twice earlier c others kept, sharing_is_kept earlier c others kept)
