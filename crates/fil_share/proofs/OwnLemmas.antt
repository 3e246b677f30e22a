-- Holds by legal transactions of a component that keeps the rules.
use Rattle.std.proofs.Common.{◌≡◌, ℕ, zero, suc, ◌+◌, ◌<◌, ◌≤◌, Bool, true, false, cond, List, [], ◌∷◌, ◌++◌, length, map, filter, flat_map, take, drop, get_or, slice_get, All, Contains, Option, Some, None, inl, inr, refl, sym, ap, subst, ◌∙◌, add-one, arith}
use Rattle.std.specs.List.{find}
use Rattle.std.specs.Option.{IsSome, IfSome, option_and_then, option_or}
use Rattle.std.specs.Prelude.{AllPairs}
use Rattle.std.specs.Str.{bytes_eq}
use Rattle.std.proofs.lemmas.List.{take-append-drop, get_or_default, get_or-map, length-map}
use Rattle.std.proofs.lemmas.List.Concat.{flat_map-append}
use Rattle.std.proofs.lemmas.List.Elements.{All-append, All-cons, All-contains, All-head, All-map, All-nil, All-tail, All-weaker}
use Rattle.std.proofs.lemmas.List.Folds.{find-append}
use Rattle.std.proofs.lemmas.List.Kept.{AllPairs-cons, AllPairs-filter}
use Rattle.std.proofs.lemmas.Option.{same_Some, slice_get-get_or, slice_get_within, get_or_from_slice_get}
use Rattle.std.proofs.lemmas.Slice.Eq.{bytes_eq-Decides}
use Rattle.std.proofs.Math.Seq.{take-length}
use Rattle.hw_names.specs.Name.{Text}
use Rattle.fil_ast.proofs.HoldLemmas.{IsHoldBy, holds_by_call, uses_by_call}
use Rattle.fil_ast.proofs.SharingLemmas.{AreInTime, KeepsPairsInTime, OfEarlier, ends_by_pairs, pairs_by_ends}
use Rattle.fil_ast.proofs.UseLemmas.{one_use as same_use, parts_of}
use Rattle.fil_ast.specs.Holds.{Start, Hold, Follows, NeverMeet, uses_of, hold_from, holds_by, holds_from}
use Rattle.fil_ast.specs.Items.{scope_after, scope_with}
use Rattle.fil_ast.specs.Naming.{MakesNewNames, NamesEvent, UsesKnownNames, instance_names}
use Rattle.fil_ast.specs.Rules.{F1, FilRules, OfInvocation}
use Rattle.fil_ast.specs.Scope.{Scope, Instance, Invocation, instances_at, invocations_at, instance_named, instance_signature, signature_in}
use Rattle.fil_ast.specs.Sharing.{IsUseOf, IsEarlierUse, AreDisjoint, IsWithin, KeepsUsesApart, EndsInTime}
use Rattle.fil_ast.specs.Signature.{Signature}
use Rattle.fil_ast.specs.Timeline.{Use, IsUse, KeepsDelays}
use Rattle.fil_ast.specs.Tree.{TimeAt, Event, Giving, Component, Design, Statement, New, Call, Both, Connect}
use Rattle.fil_ast.specs.Wires.{whole_scope}
use Rattle.fil_share.specs.Instances.{signature_of}
use Rattle.fil_share.specs.Own.{AreSpaced, IsSpaced, OwnHoldsAreApart, SpacedHoldsAreApart}
use Rattle.fil_share.proofs.ListLemmas.{two_of, AllPairs-head, AllPairs-tail, AllPairs-append, All-flat_map, Contains-at}
use Rattle.fil_share.proofs.Lookup.{find_nowhere}
use Rattle.fil_share.proofs.MakesLemmas.{at_statement, flat_next}

-- what is found stays found where the list grows
find_more : {X : Type 0} (p : X → Bool) (xs ys : List X) (x : X) → find p xs ≡ Some x → find p (xs ++ ys) ≡ Some x
find_more p [] ys x e = absurd (cc)
find_more {X} p (z ∷ xs) ys x e = by (p z) refl (find_more p xs ys x)
  where
    by : (b : Bool) → p z ≡ b → (find p xs ≡ Some x → find p (xs ++ ys) ≡ Some x) → find p ((z ∷ xs) ++ ys) ≡ Some x
    by true is later = ap (λ (b : Bool). cond b (Some z) (find p (xs ++ ys))) is ∙ sym (ap (λ (b : Bool). cond b (Some z) (find p xs)) is) ∙ e
    by false is later =
        ap (λ (b : Bool). cond b (Some z) (find p (xs ++ ys))) is ∙ later (sym (ap (λ (b : Bool). cond b (Some z) (find p xs)) is) ∙ e)

pub some_there : {X : Type 0} (o : Option X) → IsSome o → (x : X) × (o ≡ Some x)
some_there None some = absurd (cc)
some_there (Some x) some = (x, refl)

-- the last of a list is found where none before it is
pub find_last : (instances : List Instance) (i : Instance) → ¬ Contains (instance_names instances) i.name → instance_named (instances ++ i ∷ []) i.name ≡ Some i
find_last instances i absent =
    let test = λ (j : Instance). bytes_eq j.name i.name in
    let none = find_nowhere (λ (j : Instance). j.name) instances (instance_names instances) i.name refl absent in
    find-append test instances (i ∷ []) ∙ ap (λ (o : Option Instance). option_or o (find test (i ∷ []))) none
    ∙ ap (λ (b : Bool). cond b (Some i) None) ((bytes_eq-Decides i.name i.name).1 refl)

-- each two elements of what is mapped and joined
pub AllPairs-flat : {X Y : Type 0} (R : Y → Y → Type 0) (f : X → List Y) (xs : List X) → All (λ x. AllPairs R (f x)) xs → AllPairs (λ x y. All (λ a. All (R a) (f y)) (f x)) xs → AllPairs R (flat_map f xs)
AllPairs-flat R f [] each pairs = λ i j d less within. absurd (omega arith)
AllPairs-flat {X} {Y} R f (x ∷ xs) each pairs =
    let P = λ (x : X). AllPairs R (f x) in
    let Q = λ (x y : X). All (λ (a : Y). All (R a) (f y)) (f x) in
    let first = AllPairs-head Q x xs pairs in
    AllPairs-append R (f x) (flat_map f xs) (All-head P x xs each) (AllPairs-flat R f xs (All-tail P x xs each) (AllPairs-tail Q x xs pairs))
    (λ i d within. All-flat_map (R (get_or (f x) i d)) f xs (λ j e below. first j e below i d within))

pub AllPairs-mapped : {X Y : Type 0} (R : Y → Y → Type 0) (f : X → Y) (xs : List X) → AllPairs (λ a b. R (f a) (f b)) xs → AllPairs R (map f xs)
AllPairs-mapped R f [] pairs = λ i j d less within. absurd (omega arith)
AllPairs-mapped {X} R f (x ∷ xs) pairs =
    let Q = λ (a b : X). R (f a) (f b) in
    AllPairs-cons R (f x) (map f xs) (All-map (R (f x)) f xs (AllPairs-head Q x xs pairs)) (AllPairs-mapped R f xs (AllPairs-tail Q x xs pairs))

-- F11 and F12 of two uses of an event of an instance, by two invocations
record AreShared (c : Component) (u w : Use) : Type 0 where
  event : u.at.event ≡ w.at.event
  disjoint : AreDisjoint u w
  in_time : (e : Event) → Contains c.events e → e.name ≡ w.at.event → IsWithin e.delay w u × IsWithin e.delay u w

-- F2 and F10 of a use
pub record IsFine (c : Component) (u : Use) : Type 0 where
  pub named : NamesEvent c u.at.event
  pub short : (e : Event) → Contains c.events e → e.name ≡ u.at.event → u.hold ≤ e.delay

pub no_event : Event
no_event = record { name = []; delay = 0 }

-- the event that has a name
event_named : (c : Component) (name : Text) → NamesEvent c name → (e : Event) × Contains c.events e × (e.name ≡ name)
event_named c name (k, within, at) =
    let inside : k < length c.events = omega (arith, length-map c.events (λ (e : Event). e.name)) in (
      get_or c.events k no_event,
      (k, inside, get_or_default c.events k (get_or c.events k no_event) no_event inside),
      sym (get_or-map (λ (e : Event). e.name) c.events k no_event name inside) ∙ at,
    )

no_statement : Statement
no_statement = New [] [] []

-- F1 and F2 at the statements of a component, which stands after these
pub record KeepsNames (earlier : Design) (c : Component) : Type 0 where
  pub new_names : (k : ℕ) (s : Statement) → slice_get c.body k ≡ Some s → MakesNewNames (scope_after earlier c (take k c.body)) s
  pub known_names : (k : ℕ) (s : Statement) → slice_get c.body k ≡ Some s → UsesKnownNames (scope_after earlier c (take k c.body)) s

-- F10 to F12 there
pub record KeepsShared (earlier : Design) (c : Component) : Type 0 where
  pub delays : (k : ℕ) (s : Statement) → slice_get c.body k ≡ Some s → OfInvocation (KeepsDelays (scope_after earlier c (take k c.body))) (scope_after earlier c (take k c.body)) s
  pub apart : (k : ℕ) (s : Statement) → slice_get c.body k ≡ Some s → All (KeepsUsesApart (scope_with earlier c (take k c.body) s)) (invocations_at s)
  pub in_time : (k : ℕ) (s : Statement) → slice_get c.body k ≡ Some s → All (EndsInTime (scope_with earlier c (take k c.body) s)) (invocations_at s)

module _ (earlier : Design) (c : Component) (named : KeepsNames earlier c) where
  abbrev pub whole : Scope
  whole = whole_scope earlier c

  abbrev pub made_in : ℕ → List Instance
  made_in k = flat_map instances_at (take k c.body)

  abbrev pub called_in : ℕ → List Invocation
  called_in k = flat_map invocations_at (take k c.body)

  abbrev pub IsFound : List Instance → Text → Type 0
  IsFound instances inst = (i : Instance) × (instance_named instances inst ≡ Some i)

  pub found_more : (instances more : List Instance) (inst : Text) → IsFound instances inst → IsFound (instances ++ more) inst
  found_more instances more inst found = (found.0, find_more (λ (i : Instance). bytes_eq i.name inst) instances more found.0 found.1)

  -- an instance that is found among those so far means the same in the whole component
  pub same_meaning : (instances more : List Instance) (inst : Text) → instances ++ more ≡ whole.instances → IsFound instances inst
      → option_and_then (signature_of earlier) (instance_named instances inst) ≡ instance_signature whole inst
  same_meaning instances more inst cut found =
      ap (option_and_then (signature_of earlier))
      (found.1 ∙ sym (find_more (λ (i : Instance). bytes_eq i.name inst) instances more found.0 found.1) ∙ ap (λ (is : List Instance). instance_named is inst) cut)

  module _ (k : ℕ) (s : Statement) (at : slice_get c.body k ≡ Some s) where
    abbrev pub with : Scope
    with = scope_with earlier c (take k c.body) s

    abbrev before : Scope
    before = scope_after earlier c (take k c.body)

    pub cut_before : made_in k ++ flat_map instances_at (drop k c.body) ≡ whole.instances
    cut_before = sym (flat_map-append instances_at (take k c.body) (drop k c.body)) ∙ ap (flat_map instances_at) (take-append-drop k c.body)

    pub cut_with : (made_in k ++ instances_at s) ++ flat_map instances_at (drop (k + 1) c.body) ≡ whole.instances
    cut_with =
        ap (λ (is : List Instance). is ++ flat_map instances_at (drop (k + 1) c.body)) (sym (flat_next instances_at c.body k s at))
        ∙ sym (flat_map-append instances_at (take (k + 1) c.body) (drop (k + 1) c.body)) ∙ ap (flat_map instances_at) (take-append-drop (k + 1) c.body)

    pub to_with : (v : Invocation) (u : Use) → IsFound (made_in k ++ instances_at s) v.inst → IsUseOf whole v u → IsUseOf with v u
    to_with v u found (sig, is, used) = (sig, same_meaning (made_in k ++ instances_at s) (flat_map instances_at (drop (k + 1) c.body)) v.inst cut_with found ∙ is, used)

    pub to_whole : (v : Invocation) (u : Use) → IsFound (made_in k ++ instances_at s) v.inst → IsUseOf with v u → IsUseOf whole v u
    to_whole v u found (sig, is, used) =
        (sig, sym (same_meaning (made_in k ++ instances_at s) (flat_map instances_at (drop (k + 1) c.body)) v.inst cut_with found) ∙ is, used)

  -- the instance of each invocation is made by then
  abbrev pub FoundIn : List Instance → Invocation → Type 0
  FoundIn instances v = IsFound instances v.inst

  pub found_own : (k : ℕ) (s : Statement) → slice_get c.body k ≡ Some s → All (FoundIn (made_in k ++ instances_at s)) (invocations_at s)
  found_own k (New name made params) at = All-nil _
  found_own k (Connect output value) at = All-nil _
  found_own k (Call name inst gives) at =
      All-cons (FoundIn (made_in k ++ [])) _ [] (found_more (made_in k) [] inst (some_there (instance_named (made_in k) inst) (named.known_names k (Call name inst gives) at).0)) (All-nil _)
  found_own k (Both name made params gives) at =
      let i : Instance = record { name = name; made = made; params = params } in
      All-cons (FoundIn (made_in k ++ i ∷ [])) _ [] (i, find_last (made_in k) i (All-head (λ (i : Instance). ¬ Contains (instance_names (made_in k)) i.name) i [] (named.new_names k (Both name made params gives) at).instances)) (All-nil _)

  pub found_all : (k : ℕ) → k ≤ length c.body → All (FoundIn (made_in k)) (called_in k)
  found_all zero within = All-nil _
  found_all (suc k) within =
      let s = get_or c.body k no_statement in
      let below : k < length c.body = omega arith in
      let at : slice_get c.body k ≡ Some s = slice_get-get_or c.body k no_statement below in
      let instances : made_in k ++ instances_at s ≡ made_in (suc k) = sym (flat_next instances_at c.body k s at) ∙ ap made_in (add-one k) in
      let calls : called_in k ++ invocations_at s ≡ called_in (suc k) = sym (flat_next invocations_at c.body k s at) ∙ ap called_in (add-one k) in
      let P : List Instance → List Invocation → Type 0 = λ is vs. All (FoundIn is) vs in
      let earlier = All-weaker (FoundIn (made_in k)) (FoundIn (made_in k ++ instances_at s)) (λ v found. found_more (made_in k) (instances_at s) v.inst found) (called_in k) (found_all k (omega arith)) in
      subst (λ (is : List Instance). P is (called_in (suc k))) instances
      (subst (λ (vs : List Invocation). P (made_in k ++ instances_at s) vs) calls (All-append (FoundIn (made_in k ++ instances_at s)) (called_in k) (invocations_at s) earlier (found_own k s at)))

  -- an invocation's uses rise by their events
  pub uses_of_call : (v : Invocation) → All (IsUseOf whole v) (uses_of whole v) × AllPairs (λ (u w : Use). u.event < w.event) (uses_of whole v)
  uses_of_call v = uses_by_call whole v

  -- and its holds are those of its uses on the transaction's event
  pub holds_of_call : (m : ℕ) (s : Start) (v : Invocation) → All (IsHoldBy whole m s v) (holds_by whole m s v)
  holds_of_call m s v = holds_by_call whole m s v

  -- what holds of the invocations of each of the first statements and of those before it holds of each two
  module _ (R : Invocation → Invocation → Type 0) (last : ℕ) (short : last ≤ length c.body) (next : (k : ℕ) (s : Statement) → slice_get c.body k ≡ Some s → k < last → All (λ v. All (R v) (invocations_at s)) (called_in k)) where
    one_call : (s : Statement) → AllPairs R (invocations_at s)
    one_call (New name made params) i j d less within = absurd (omega arith)
    one_call (Connect output value) i j d less within = absurd (omega arith)
    one_call (Call name inst gives) i j d less within = absurd (omega arith)
    one_call (Both name made params gives) i j d less within = absurd (omega arith)

    pub pairs_to : (k : ℕ) → k ≤ last → AllPairs R (called_in k)
    pairs_to zero within = λ i j d less below. absurd (omega arith)
    pairs_to (suc k) within =
        let s = get_or c.body k no_statement in
        let below : k < length c.body = omega (arith, within, short) in
        let at : slice_get c.body k ≡ Some s = slice_get-get_or c.body k no_statement below in
        let calls : called_in k ++ invocations_at s ≡ called_in (suc k) = sym (flat_next invocations_at c.body k s at) ∙ ap called_in (add-one k) in
        let P : List Invocation → Type 0 = AllPairs R in
        subst P calls (AllPairs-append R (called_in k) (invocations_at s) (pairs_to k (omega arith)) (one_call s) (next k s at (omega arith)))

  -- two invocations' uses of an event of an instance stand in the relation
  abbrev pub OfUses : (Use → Use → Type 0) → Invocation → Invocation → Type 0
  OfUses R v w = (u x : Use) → IsUseOf whole v u → IsUseOf whole w x → u.inst ≡ x.inst → u.event ≡ x.event → R u x

  -- so do each two, where each use by the first statements does with each earlier one
  module _ (R : Use → Use → Type 0) (last : ℕ) (short : last ≤ length c.body) (each : (k : ℕ) (s : Statement) (at : slice_get c.body k ≡ Some s) → k < last → All (λ w. (x u : Use) → IsUseOf (with k s at) w x → IsEarlierUse (with k s at) x u → R u x) (invocations_at s)) where
    uses_next : (k : ℕ) (s : Statement) → slice_get c.body k ≡ Some s → k < last → All (λ v. All (OfUses R v) (invocations_at s)) (called_in k)
    uses_next k s at within i d below j e below' u x uses_u uses_x same_instance same_event =
        let v = get_or (called_in k) i d in
        let w = get_or (invocations_at s) j e in
        let used_x = to_with k s at w x (found_own k s at j e below') uses_x in
        let used_u = to_with k s at v u (found_more (made_in k) (instances_at s) v.inst (found_all k (omega arith) i d below)) uses_u in
        each k s at within j e below' x u used_x
        (record { invocation = v; is_earlier = (i, below, get_or_default (called_in k) i v d below); uses = used_u; same_instance = same_instance; same_event = same_event })

    pub uses_so_far : (k : ℕ) → k ≤ last → AllPairs (OfUses R) (called_in k)
    uses_so_far k within = pairs_to (OfUses R) last short uses_next k within

    -- and as a statement sees them
    pub of_earlier : (k : ℕ) (s : Statement) (at : slice_get c.body k ≡ Some s) → k ≤ last → OfEarlier R (with k s at)
    of_earlier k s at within i j v w u x less at_i at_j use_v use_w =
        let found : All (FoundIn (made_in k)) (called_in k) = found_all k (omega arith) in
        let below = slice_get_within (called_in k) j w at_j in
        let is_v : get_or (called_in k) i v ≡ v = get_or_from_slice_get (called_in k) i v v at_i in
        let is_w : get_or (called_in k) j v ≡ w = get_or_from_slice_get (called_in k) j w v at_j in
        let found_v : FoundIn (made_in k) v = subst (FoundIn (made_in k)) is_v (found i v (omega arith)) in
        let found_w : FoundIn (made_in k) w = subst (FoundIn (made_in k)) is_w (found j v below) in
        let pair : OfUses R v w = subst (OfUses R v) is_w (subst (λ (y : Invocation). OfUses R y (get_or (called_in k) j v)) is_v (uses_so_far k within i j v less below)) in
        pair u x (to_whole k s at v u (found_more (made_in k) (instances_at s) v.inst found_v) use_v) (to_whole k s at w x (found_more (made_in k) (instances_at s) w.inst found_w) use_w)

  module _ (R : Use → Use → Type 0) (each : (k : ℕ) (s : Statement) (at : slice_get c.body k ≡ Some s) → All (λ w. (x u : Use) → IsUseOf (with k s at) w x → IsEarlierUse (with k s at) x u → R u x) (invocations_at s)) where
    pub uses_paired : AllPairs (OfUses R) whole.invocations
    uses_paired =
        let P : List Statement → Type 0 = λ body. AllPairs (OfUses R) (flat_map invocations_at body) in
        let all : length c.body ≤ length c.body = omega arith in
        subst P (take-length c.body) (uses_so_far R (length c.body) all (λ k s at below. each k s at) (length c.body) all)

    pub all_earlier : (k : ℕ) (s : Statement) (at : slice_get c.body k ≡ Some s) → OfEarlier R (with k s at)
    all_earlier k s at =
        let all : length c.body ≤ length c.body = omega arith in
        let below = slice_get_within c.body k s at in
        of_earlier R (length c.body) all (λ k s at below. each k s at) k s at (omega arith)

  -- F12 at all statements gives it of each two uses, and the other way
  module _ (apart : (k : ℕ) (s : Statement) → slice_get c.body k ≡ Some s → All (KeepsUsesApart (scope_with earlier c (take k c.body) s)) (invocations_at s)) where
    pub pairs_in_time : ((k : ℕ) (s : Statement) → slice_get c.body k ≡ Some s → All (EndsInTime (scope_with earlier c (take k c.body) s)) (invocations_at s))
        → (k : ℕ) (s : Statement) → slice_get c.body k ≡ Some s → All (KeepsPairsInTime (scope_with earlier c (take k c.body) s)) (invocations_at s)
    pairs_in_time ends k s at j d below =
        pairs_by_ends (with k s at) (get_or (invocations_at s) j d) (apart k s at j d below)
        (all_earlier AreDisjoint (λ k s at j d below x u used known. (apart k s at j d below x u used known).1) k s at) (ends k s at j d below)

    pub ends_in_time : ((k : ℕ) (s : Statement) → slice_get c.body k ≡ Some s → All (KeepsPairsInTime (scope_with earlier c (take k c.body) s)) (invocations_at s))
        → (k : ℕ) (s : Statement) → slice_get c.body k ≡ Some s → All (EndsInTime (scope_with earlier c (take k c.body) s)) (invocations_at s)
    ends_in_time pairs k s at j d below =
        ends_by_pairs (with k s at) (get_or (invocations_at s) j d) (apart k s at j d below)
        (all_earlier (AreInTime whole) (λ k s at j d below x u used known. pairs k s at j d below x u used known) k s at) (pairs k s at j d below)

  -- an invocation's uses of one event are one
  pub one_use : (v : Invocation) (u x : Use) → IsUseOf whole v u → IsUseOf whole v x → u.event ≡ x.event → (u.at ≡ x.at) × (u.hold ≡ x.hold)
  one_use v u x (sig, is, used) (sig', is', used') same =
      let U : Signature → Type 0 = λ s. IsUse s v.inst v.gives.times x in
      let one : u ≡ x = same_use used (subst U (same_Some sig' sig (sym is' ∙ is)) used') same in
      (ap (λ (w : Use). w.at) one, ap (λ (w : Use). w.hold) one)

  abbrev pub HasFineUses : Invocation → Type 0
  HasFineUses v = (u : Use) → IsUseOf whole v u → IsFine c u

  -- F2 and F10 of all uses
  module _ (delays : (k : ℕ) (s : Statement) → slice_get c.body k ≡ Some s → OfInvocation (KeepsDelays (scope_after earlier c (take k c.body))) (scope_after earlier c (take k c.body)) s) where
    fine_by : (k : ℕ) (s : Statement) (at : slice_get c.body k ≡ Some s) (inst : Text) (gives : Giving) (o : Option Signature) → o ≡ instance_signature whole inst → IfSome o (λ sig. KeepsDelays (before k s at) sig inst gives) → All (λ (t : TimeAt). NamesEvent c t.event) gives.times
        → (name : Text) → HasFineUses (record { name = name; inst = inst; gives = gives })
    fine_by k s at inst gives o same kept times name u (sig, is, used) =
        let K : Option Signature → Type 0 = λ o. IfSome o (λ sig. KeepsDelays (before k s at) sig inst gives) in
        record {
          named = All-contains (λ (t : TimeAt). NamesEvent c t.event) gives.times u.at times (Contains-at gives.times u.event u.at (parts_of used).time);
          short = subst K (same ∙ is) kept u used;
        }

    fine_at : (k : ℕ) (s : Statement) → slice_get c.body k ≡ Some s → All HasFineUses (invocations_at s)
    fine_at k (New name made params) at = All-nil _
    fine_at k (Connect output value) at = All-nil _
    fine_at k (Call name inst gives) at =
        let s = Call name inst gives in
        let known = named.known_names k s at in
        All-cons HasFineUses _ []
        (fine_by k s at inst gives (instance_signature (before k s at) inst)
        (same_meaning (made_in k) (flat_map instances_at (drop k c.body)) inst (cut_before k s at) (some_there (instance_named (made_in k) inst) known.0)) (delays k s at) known.1.times name) (All-nil _)
    fine_at k (Both name made params gives) at =
        let s = Both name made params gives in
        let i : Instance = record { name = name; made = made; params = params } in
        let last = find_last (made_in k) i (All-head (λ (i : Instance). ¬ Contains (instance_names (made_in k)) i.name) i [] (named.new_names k s at).instances) in
        All-cons HasFineUses _ []
        (fine_by k s at name gives (signature_in earlier made params)
        (sym (ap (option_and_then (signature_of earlier)) last) ∙ same_meaning (made_in k ++ i ∷ []) (flat_map instances_at (drop (k + 1) c.body)) name (cut_with k s at) (i, last)) (delays k s at) (named.known_names k s at).1.times name) (All-nil _)

    pub fine : All HasFineUses whole.invocations
    fine = All-flat_map HasFineUses invocations_at c.body (λ k d within. fine_at k (get_or c.body k d) (slice_get-get_or c.body k d within))

  module _ (sharing : KeepsShared earlier c) where
    abbrev ShareWell : Invocation → Invocation → Type 0
    ShareWell v w = (u x : Use) → IsUseOf whole v u → IsUseOf whole w x → u.inst ≡ x.inst → u.event ≡ x.event → AreShared c u x

    share : AllPairs ShareWell whole.invocations
    share = uses_paired (AreShared c)
        (λ k s at j d below x u used known.
        let kept = sharing.apart k s at j d below x u used known in
        record { event = kept.0; disjoint = kept.1; in_time = pairs_in_time sharing.apart sharing.in_time k s at j d below x u used known })

    -- a hold by transaction m
    abbrev IsHoldOf : ℕ → Start → Hold → Type 0
    IsHoldOf m s h = (v : Invocation) × Contains whole.invocations v × IsHoldBy whole m s v h

    abbrev block : ℕ → Start → List Hold
    block m s = flat_map (holds_by whole m s) whole.invocations

    block_holds : (m : ℕ) (s : Start) → All (IsHoldOf m s) (block m s)
    block_holds m s =
        All-flat_map (IsHoldOf m s) (holds_by whole m s) whole.invocations
        (λ k d within.
        let v = get_or whole.invocations k d in
        All-weaker (IsHoldBy whole m s v) (IsHoldOf m s) (λ h by. (v, (k, within, get_or_default whole.invocations k v d within), by)) (holds_by whole m s v) (holds_of_call m s v))

    -- holds by one transaction
    call_apart : (m : ℕ) (s : Start) (v : Invocation) → AllPairs NeverMeet (holds_by whole m s v)
    call_apart m s v =
        let test = λ (u : Use). bytes_eq u.at.event s.event in
        let risen = AllPairs-filter (λ (u w : Use). u.event < w.event) test (uses_of whole v) (uses_of_call v).1 in
        AllPairs-mapped NeverMeet (hold_from m s.row v.name) (filter test (uses_of whole v))
        (λ i j d less within same_instance same_event. let rise = risen i j d less within in absurd (omega arith))

    same_apart : (m : ℕ) (s : Start) (v w : Invocation) → ShareWell v w → (h k : Hold) → IsHoldBy whole m s v h → IsHoldBy whole m s w k → NeverMeet h k
    same_apart m s v w well h k of_h of_k same_instance same_event =
        let u = of_h.use_now in
        let x = of_k.use_now in
        let instance : u.inst ≡ x.inst = sym (ap (λ (h : Hold). h.inst) of_h.is) ∙ same_instance ∙ ap (λ (h : Hold). h.inst) of_k.is in
        let event : u.event ≡ x.event = sym (ap (λ (h : Hold). h.event) of_h.is) ∙ same_event ∙ ap (λ (h : Hold). h.event) of_k.is in
        let h_from : h.from ≡ s.row + u.at.plus = ap (λ (h : Hold). h.from) of_h.is in
        let h_to : h.to ≡ s.row + u.at.plus + u.hold = ap (λ (h : Hold). h.to) of_h.is in
        let k_from : k.from ≡ s.row + x.at.plus = ap (λ (h : Hold). h.from) of_k.is in
        let k_to : k.to ≡ s.row + x.at.plus + x.hold = ap (λ (h : Hold). h.to) of_k.is in
        elim (well u x of_h.uses of_k.uses instance event).disjoint [
          | inl first ↦ (let under : u.at.plus + u.hold ≤ x.at.plus = first in inl (omega arith))
          | inr second ↦ (let under : x.at.plus + x.hold ≤ u.at.plus = second in inr (omega arith))
        ]

    calls_apart : (m : ℕ) (s : Start) → AllPairs (λ v w. All (λ h. All (NeverMeet h) (holds_by whole m s w)) (holds_by whole m s v)) whole.invocations
    calls_apart m s i j d less within k g below l f below' =
        let v = get_or whole.invocations i d in
        let w = get_or whole.invocations j d in
        same_apart m s v w (share i j d less within) (get_or (holds_by whole m s v) k g) (get_or (holds_by whole m s w) l f) (holds_of_call m s v k g below) (holds_of_call m s w l f below')

    block_apart : (m : ℕ) (s : Start) → AllPairs NeverMeet (block m s)
    block_apart m s =
        AllPairs-flat NeverMeet (holds_by whole m s) whole.invocations (λ k d within. call_apart m s (get_or whole.invocations k d)) (calls_apart m s)

    -- a later transaction of the same event
    later_rows : (s t : Start) (u x : Use) (e : Event) → Follows c s t → u.at.event ≡ s.event → x.at.event ≡ t.event → u.at.event ≡ x.at.event → Contains c.events e → e.name ≡ u.at.event
        → u.at.plus + u.hold ≤ x.at.plus + e.delay → (s.row + u.at.plus) + u.hold ≤ t.row + x.at.plus
    later_rows s t u x e follows on_s on_t same has named within =
        let rows = (follows (sym on_s ∙ same ∙ on_t)).1 e has (named ∙ on_s) in omega arith

    apart_later : (m m' : ℕ) (s t : Start) (h k : Hold) → Follows c s t → IsHoldOf m s h → IsHoldOf m' t k → NeverMeet h k
    apart_later m m' s t h k follows (v, has_v, of_h) (w, has_w, of_k) same_instance same_event =
        let u = of_h.use_now in
        let x = of_k.use_now in
        let instance : u.inst ≡ x.inst = sym (ap (λ (h : Hold). h.inst) of_h.is) ∙ same_instance ∙ ap (λ (h : Hold). h.inst) of_k.is in
        let event : u.event ≡ x.event = sym (ap (λ (h : Hold). h.event) of_h.is) ∙ same_event ∙ ap (λ (h : Hold). h.event) of_k.is in
        let h_to : h.to ≡ s.row + u.at.plus + u.hold = ap (λ (h : Hold). h.to) of_h.is in
        let k_from : k.from ≡ t.row + x.at.plus = ap (λ (h : Hold). h.from) of_k.is in
        let good : IsFine c u = All-contains HasFineUses whole.invocations v (fine sharing.delays) has_v u of_h.uses in
        let on = event_named c u.at.event good.named in
        let apart_by : u.at.event ≡ x.at.event → u.at.plus + u.hold ≤ x.at.plus + on.0.delay → h.to ≤ k.from = λ same within.
        (let rows = later_rows s t u x on.0 follows of_h.on of_k.on same on.1 on.2 within in omega arith) in
        elim (two_of ShareWell whole.invocations v w share has_v has_w) [
          | inl one ↦
              (let U : Invocation → Type 0 = λ i. IsUseOf whole i x in
              let same = one_use v u x of_h.uses (subst U (sym one) of_k.uses) event in
              let plus : u.at.plus ≡ x.at.plus = ap (λ (a : TimeAt). a.plus) same.0 in
              let short : u.hold ≤ on.0.delay = good.short on.0 on.1 on.2 in
              inl (apart_by (ap (λ (a : TimeAt). a.event) same.0) (omega arith)))
          | inr two ↦ elim two [
            | inl well ↦
                (let shared = well u x of_h.uses of_k.uses instance event in
                inl (apart_by shared.event (shared.in_time on.0 on.1 (on.2 ∙ shared.event)).0))
            | inr well ↦
                (let shared = well x u of_k.uses of_h.uses (sym instance) (sym event) in
                inl (apart_by (sym shared.event) (shared.in_time on.0 on.1 on.2).1))
          ]
        ]

    apart_spaced : (m m' : ℕ) (s t : Start) (h k : Hold) → AreSpaced c s t → IsHoldOf m s h → IsHoldOf m' t k → NeverMeet h k
    apart_spaced m m' s t h k (inl follows) of_h of_k = apart_later m m' s t h k follows of_h of_k
    apart_spaced m m' s t h k (inr follows) of_h of_k = λ same_instance same_event.
        elim (apart_later m' m t s k h follows of_k of_h (sym same_instance) (sym same_event)) [ inl first ↦ inr first | inr second ↦ inl second ]

    apart_after : (m m' : ℕ) (s : Start) (h : Hold) → IsHoldOf m s h → (starts : List Start) → All (AreSpaced c s) starts → All (NeverMeet h) (holds_from whole m' starts)
    apart_after m m' s h of_h [] spaced = All-nil _
    apart_after m m' s h of_h (t ∷ starts) spaced =
        All-append (NeverMeet h) (block m' t) (holds_from whole (suc m') starts)
        (All-weaker (IsHoldOf m' t) (NeverMeet h) (λ k of_k. apart_spaced m m' s t h k (All-head (AreSpaced c s) t starts spaced) of_h of_k) (block m' t) (block_holds m' t))
        (apart_after m (suc m') s h of_h starts (All-tail (AreSpaced c s) t starts spaced))

    pub own_apart : (m : ℕ) (starts : List Start) → IsSpaced c starts → AllPairs NeverMeet (holds_from whole m starts)
    own_apart m [] spaced = λ i j d less within. absurd (omega arith)
    own_apart m (s ∷ starts) spaced =
        AllPairs-append NeverMeet (block m s) (holds_from whole (suc m) starts) (block_apart m s) (own_apart (suc m) starts (AllPairs-tail (AreSpaced c) s starts spaced))
        (All-weaker (IsHoldOf m s) (λ h. All (NeverMeet h) (holds_from whole (suc m) starts)) (λ h of_h. apart_after m (suc m) s h of_h starts (AllPairs-head (AreSpaced c) s starts spaced)) (block m s) (block_holds m s))

module _ (comps : Design) (rules : FilRules comps) (n : ℕ) (c : Component) (there : slice_get comps n ≡ Some c) where
  pub names_of : KeepsNames (take n comps) c
  names_of = record {
    new_names = λ k s at. at_statement comps rules n c there k s at 0 F1 (omega arith);
    known_names = λ k s at. at_statement comps rules n c there k s at 1 F1 (omega arith);
  }

  shared_of : KeepsShared (take n comps) c
  shared_of = record {
    delays = λ k s at. at_statement comps rules n c there k s at 9 F1 (omega arith);
    apart = λ k s at. at_statement comps rules n c there k s at 10 F1 (omega arith);
    in_time = λ k s at. at_statement comps rules n c there k s at 11 F1 (omega arith);
  }

pub spaced_holds_are_apart : SpacedHoldsAreApart
spaced_holds_are_apart comps n c starts rules there spaced = own_apart (take n comps) c (names_of comps rules n c there) (shared_of comps rules n c there) 0 starts spaced

pub own_holds_are_apart : OwnHoldsAreApart
own_holds_are_apart comps n c starts rules there legal = own_apart (take n comps) c (names_of comps rules n c there) (shared_of comps rules n c there) 0 starts (λ i j d less within. inl (legal i j d less within))
