-- What a statement leaves of the places before it: what its invocation means, and that the uses so far share their instances well.
use Rattle.std.proofs.Common.{◌≡◌, ℕ, zero, suc, ◌+◌, ◌-◌, ◌<◌, ◌≤◌, ◌⊎◌, inl, inr, Bool, true, false, cond, List, [], ◌∷◌, ◌++◌, length, map, flat_map, All, Contains, Option, Some, None, get_or, slice_get, refl, sym, ap, subst, ◌∙◌, arith}
use Rattle.std.specs.Option.{IfSome}
use Rattle.std.specs.Str.{bytes_eq}
use Rattle.std.proofs.lemmas.List.{get_or_past, length-map}
use Rattle.std.proofs.lemmas.List.Elements.{All-cons, All-nil, Contains-get_or}
use Rattle.std.proofs.lemmas.Option.{none-some, same_Some, get_or_from_slice_get, slice_get_within}
use Rattle.hw_names.specs.Name.{Text, AreDistinct}
use Rattle.fil_ast.proofs.SharingLemmas.{pairs_by_ends}
use Rattle.fil_ast.proofs.UseLemmas.{parts_of}
use Rattle.fil_ast.specs.Connections.{connected_at}
use Rattle.fil_ast.specs.Naming.{MakesNewNames, instance_names}
use Rattle.fil_ast.specs.Rules.{Rule, F1, F7, F10, F11, F12, F13}
use Rattle.fil_ast.specs.Scope.{Scope, Instance, Invocation, instance_signature, invocations_at, signature_in}
use Rattle.fil_ast.specs.Sharing.{IsEarlierUse, KeepsUsesApart, EndsInTime, TriggersWithInterface}
use Rattle.fil_ast.specs.Signature.{Delay, Fixed, Gap, End, Signature}
use Rattle.fil_ast.specs.Timeline.{HoldsSome, IsUse, KeepsDelays, Use, hold_of, until}
use Rattle.fil_ast.specs.Tree.{Giving, Statement, New, Call, Both, Connect, TimeAt, ValueTree}
use Rattle.fil_place.specs.Callees.{HasGoodDelay, HasGoodTimes, IsGoodDelay}
use Rattle.fil_ast.specs.declared.tree.FilComp.{FilComp}
use Rattle.fil_rules.specs.Held.{AreHeld}
use Rattle.fil_rules.specs.inside.StandsAt.{AreShared, SharesWell, StandsAt}
use Rattle.fil_place.specs.Place.{with_instance}
use Rattle.fil_rules.specs.inside.Shared.{IsInvoked, KeepsSharing}
use Rattle.fil_place.specs.Starts.{ListsAllUses}
use Rattle.fil_rules.specs.inside.Stages.{HoldsUses, KeepsFrom, KeptAt}
use Rattle.fil_place.specs.Tables.{Shows, calls_at, calls_from, calls_of, grown, listed, signature_at, times_of, times_shown}
use Rattle.fil_place.specs.Times.{AreTimes}
use Rattle.fil_place.specs.declared.earlier.Earlier.{Earlier}
use Rattle.fil_place.specs.declared.tables.Tables.{Tables}
use Rattle.fil_place.specs.declared.times.Offset.{Offset}
use Rattle.fil_rules.proofs.AvailableLemmas.{among}
use Rattle.fil_place.proofs.GeneralLemmas.{mapped_at, unmapped}
use Rattle.fil_rules.proofs.StageLemmas.{keeps_more, keeps_none}
use Rattle.fil_place.proofs.StatementLemmas.{both_instance}
use Rattle.fil_place.proofs.InvocationLemmas.{instance_listed_of, no_calls, one_there, signed_with, use_before, in_parts}

-- where nothing is known of the instance, nothing is used
pub unsigned_kept : (with : Scope) (v : Invocation) → instance_signature with v.inst ≡ None → KeepsSharing with v
unsigned_kept with v none = record {
  apart = λ u earlier (sig, signed, used) by. absurd (none-some sig (sym none ∙ signed));
  in_time = λ u earlier first last (sig, signed, used) by is_first is_last e there named. absurd (none-some sig (sym none ∙ signed));
  triggers = record {
    triggers = λ u (sig, signed, used) some. absurd (none-some sig (sym none ∙ signed));
    once = λ earlier u w there same (sig, signed, used) by on. absurd (none-some sig (sym none ∙ signed));
  };
}

-- a used is held for a row or more, where delays are, and a register's times are apart
use_held : (sig : Signature) (inst : Text) (times : List TimeAt) (u : Use) → HasGoodTimes sig → HoldsSome sig times → IsUse sig inst times u → 0 < u.hold
use_held sig inst times u good some used =
    by used.event.delay refl (slice_get times (u.event + 1)) refl (parts_of used).held (among_delay used.event.delay refl)
  where
    among_delay : (d : Delay) → used.event.delay ≡ d → IsGoodDelay d
    among_delay d is =
        let within = slice_get_within sig.events u.event used.event used.of in
        let G : Delay → Type 0 = IsGoodDelay in
        subst G is (among HasGoodDelay sig.events used.event good.delays (u.event, within, get_or_from_slice_get sig.events u.event used.event used.event used.of))

    by : (d : Delay) → used.event.delay ≡ d → (o : Option TimeAt) → slice_get times (u.event + 1) ≡ o → hold_of d u.at o ≡ Some u.hold → IsGoodDelay d → 0 < u.hold
    by (Fixed rows) is o next held good_delay =
        let same = same_Some rows u.hold held in
        let least = good_delay.0 in omega arith
    by Gap is None next held good_delay = absurd (none-some u.hold held)
    by Gap is (Some t) next held good_delay =
        let apart = some u.event used.event used.of is u.at t (parts_of used).time next in
        let same = same_Some (until u.at t) u.hold held in
        omega arith
    by End is o next held good_delay = absurd (none-some u.hold held)

-- so at a statement that keeps F7, with a callee whose delays are small
pub statement_held : (scope : Scope) (before : List Statement) (s : Statement) (o : Option Signature) → o ≡ signature_at scope s → IfSome o HasGoodTimes → KeepsFrom (KeptAt scope before s) 6 10 → HoldsUses scope s
statement_held scope before (New name made params) o is good kept v sig u (k, within, same) signed used = absurd (omega arith)
statement_held scope before (Connect output value) o is good kept v sig u (k, within, same) signed used = absurd (omega arith)
statement_held scope before (Call name inst gives) o is good kept v sig u there signed used =
    let w : Invocation = record { name = name; inst = inst; gives = gives } in
    let G : Option Signature → Type 0 = λ o. IfSome o HasGoodTimes in
    let H : Option Signature → Type 0 = λ o. IfSome o (λ (sig : Signature). HoldsSome sig gives.times) in
    let U : Invocation → Type 0 = λ v. IsUse sig v.inst v.gives.times u in
    use_held sig inst gives.times u (subst G (is ∙ signed) good) (subst H signed (kept 6 F7 (omega arith) (omega arith) refl)) (subst U (sym (one_there w v there)) used)
statement_held scope before (Both name made params gives) o is good kept v sig u there signed used =
    let w : Invocation = record { name = name; inst = name; gives = gives } in
    let G : Option Signature → Type 0 = λ o. IfSome o HasGoodTimes in
    let H : Option Signature → Type 0 = λ o. IfSome o (λ (sig : Signature). HoldsSome sig gives.times) in
    let U : Invocation → Type 0 = λ v. IsUse sig v.inst v.gives.times u in
    use_held sig name gives.times u (subst G (is ∙ signed) good) (subst H signed (kept 6 F7 (omega arith) (omega arith) refl)) (subst U (sym (one_there w v there)) used)

pub held_at_new : (scope : Scope) (name made : Text) (params : List ℕ) → HoldsUses scope (New name made params)
held_at_new scope name made params v sig u (k, within, same) signed used = absurd (omega arith)

pub held_at_connection : (scope : Scope) (output : Text) (value : ValueTree) → HoldsUses scope (Connect output value)
held_at_connection scope output value v sig u (k, within, same) signed used = absurd (omega arith)

module _ (scope : Scope) (s : Statement) (known : (v : Invocation) → Contains scope.invocations v → Contains (instance_names scope.instances) v.inst) where
  abbrev with : Scope
  with = with_instance scope s

  pub held_with : AreHeld scope → AreHeld with
  held_with held v u there used = held v u there (use_before scope s known v u there used)

  contained : (k : ℕ) (v : Invocation) → slice_get scope.invocations k ≡ Some v → Contains scope.invocations v
  contained k v at = (k, slice_get_within scope.invocations k v at, get_or_from_slice_get scope.invocations k v v at)

  pub shared_with : SharesWell scope → SharesWell with
  shared_with shared i j v w u x before at_i at_j use_v use_w same_inst same_event =
      let a = shared i j v w u x before at_i at_j (use_before scope s known v u (contained i v at_i) use_v) (use_before scope s known w x (contained j w at_j) use_w) same_inst same_event in
      record { event = a.event; disjoint = a.disjoint; in_time = a.in_time }

nothing_off : (k : ℕ) → k - 0 ≡ k
nothing_off k = omega arith

-- where an element of two lists stands
at_parts : {X : Type 0} (xs ys : List X) (k : ℕ) (x : X) → slice_get (xs ++ ys) k ≡ Some x → ((k < length xs) × (slice_get xs k ≡ Some x)) ⊎ ((length xs ≤ k) × (slice_get ys (k - length xs) ≡ Some x))
at_parts [] ys k x at = inr (omega arith, ap (slice_get ys) (nothing_off k) ∙ at)
at_parts (y ∷ xs) ys zero x at = inl (omega arith, at)
at_parts (y ∷ xs) ys (suc k) x at = by (at_parts xs ys k x at)
  where
    by : ((k < length xs) × (slice_get xs k ≡ Some x)) ⊎ ((length xs ≤ k) × (slice_get ys (k - length xs) ≡ Some x))
        → ((suc k < length (y ∷ xs)) × (slice_get (y ∷ xs) (suc k) ≡ Some x)) ⊎ ((length (y ∷ xs) ≤ suc k) × (slice_get ys (suc k - length (y ∷ xs)) ≡ Some x))
    by (inl (below, is)) = inl (omega arith, is)
    by (inr (past, is)) =
        let same : k - length xs ≡ suc k - length (y ∷ xs) = omega arith in
        inr (omega arith, ap (slice_get ys) (sym same) ∙ is)

few : (s : Statement) → length (invocations_at s) ≤ 1
few (New name made params) = omega arith
few (Connect output value) = omega arith
few (Call name inst gives) = omega arith
few (Both name made params gives) = omega arith

module _ (scope : Scope) (before : List Statement) (s : Statement) (signed : (v : Invocation) → Contains (invocations_at s) v → instance_signature (with_instance scope s) v.inst ≡ signature_at scope s) where
  abbrev after : Scope
  after = grown scope s

  pub held_grown : AreHeld (with_instance scope s) → HoldsUses scope s → AreHeld after
  held_grown held own v u there used = by (in_parts scope.invocations (invocations_at s) v there)
    where
      by : Contains scope.invocations v ⊎ Contains (invocations_at s) v → 0 < u.hold
      by (inl old) = held v u old used
      by (inr new) = own v used.0 u new (sym (signed v new) ∙ used.1) used.2

  pub shared_grown : SharesWell (with_instance scope s) → KeepsFrom (KeptAt scope before s) 10 13 → SharesWell after
  shared_grown shared kept i j v w u x earlier at_i at_j use_v use_w same_inst same_event =
      by (at_parts scope.invocations (invocations_at s) i v at_i) (at_parts scope.invocations (invocations_at s) j w at_j)
    where
      by : ((i < length scope.invocations) × (slice_get scope.invocations i ≡ Some v)) ⊎ ((length scope.invocations ≤ i) × (slice_get (invocations_at s) (i - length scope.invocations) ≡ Some v))
          → ((j < length scope.invocations) × (slice_get scope.invocations j ≡ Some w)) ⊎ ((length scope.invocations ≤ j) × (slice_get (invocations_at s) (j - length scope.invocations) ≡ Some w)) → AreShared after u x
      by (inl (i_in, at_v)) (inl (j_in, at_w)) =
          let a = shared i j v w u x earlier at_v at_w use_v use_w same_inst same_event in
          record { event = a.event; disjoint = a.disjoint; in_time = a.in_time }
      by (inl (i_in, at_v)) (inr (j_out, at_w)) =
          let last = j - length scope.invocations in
          let w_in : Contains (invocations_at s) w = (last, slice_get_within (invocations_at s) last w at_w, get_or_from_slice_get (invocations_at s) last w w at_w) in
          let apart : KeepsUsesApart (with_instance scope s) w = among (KeepsUsesApart (with_instance scope s)) (invocations_at s) w (kept 10 F11 (omega arith) (omega arith) refl) w_in in
          let ends : EndsInTime (with_instance scope s) w = among (EndsInTime (with_instance scope s)) (invocations_at s) w (kept 11 F12 (omega arith) (omega arith) refl) w_in in
          let in_time = pairs_by_ends (with_instance scope s) w apart (λ i j v w u x less at_i at_j use_v use_w inst event. (shared i j v w u x less at_i at_j use_v use_w inst event).disjoint) ends in
          let by_earlier : IsEarlierUse (with_instance scope s) x u =
          record {
            invocation = v;
            is_earlier = (i, i_in, get_or_from_slice_get scope.invocations i v v at_v);
            uses = use_v;
            same_instance = same_inst;
            same_event = same_event;
          } in
          let a = apart x u use_w by_earlier in
          record { event = a.0; disjoint = a.1; in_time = in_time x u use_w by_earlier }
      by (inr (i_out, at_v)) right =
          let one = few s in
          let within_i = slice_get_within (invocations_at s) (i - length scope.invocations) v at_v in
          absurd (past right)
        where
          past : ((j < length scope.invocations) × (slice_get scope.invocations j ≡ Some w)) ⊎ ((length scope.invocations ≤ j) × (slice_get (invocations_at s) (j - length scope.invocations) ≡ Some w)) → ⊥
          past (inl (j_in, at_w)) = omega arith
          past (inr (j_out, at_w)) =
              let one = few s in
              let within_j = slice_get_within (invocations_at s) (j - length scope.invocations) w at_w in
              omega arith

-- calls are among the invocations
abbrev IsBelow : ℕ → ℕ → Type 0
IsBelow end k = k < end

calls_below : (j : ℕ) (name : Text) (vs : List Invocation) (end : ℕ) → j + length vs ≤ end → All (IsBelow end) (calls_from j name vs)
calls_below j name [] end within = All-nil (IsBelow end)
calls_below j name (v ∷ vs) end within = by (bytes_eq v.inst name) refl (calls_below (suc j) name vs end (omega arith))
  where
    by : (b : Bool) → bytes_eq v.inst name ≡ b → All (IsBelow end) (calls_from (suc j) name vs) → All (IsBelow end) (calls_from j name (v ∷ vs))
    by true is rest =
        let A : List ℕ → Type 0 = All (IsBelow end) in
        let here : j < end = omega arith in
        subst A (sym (ap (λ (b : Bool). cond b (j ∷ calls_from (suc j) name vs) (calls_from (suc j) name vs)) is)) (All-cons (IsBelow end) j (calls_from (suc j) name vs) here rest)
    by false is rest =
        let A : List ℕ → Type 0 = All (IsBelow end) in
        subst A (sym (ap (λ (b : Bool). cond b (j ∷ calls_from (suc j) name vs) (calls_from (suc j) name vs)) is)) rest

pub calls_within : (tables : Tables) (scope : Scope) → map (times_shown tables.events) tables.times.items ≡ map times_of scope.invocations → (name : Text) (calls : List ℕ) (end : ℕ) → end ≡ length tables.times.items → calls ≡ calls_from 0 name scope.invocations
    → All (λ (k : ℕ). k < end) calls
calls_within tables scope times name calls end counted are =
    let A : List ℕ → Type 0 = All (λ (k : ℕ). k < end) in
    let count : length tables.times.items ≡ length scope.invocations =
    sym (length-map tables.times.items (times_shown tables.events)) ∙ ap length times ∙ length-map scope.invocations times_of in
    subst A (sym are) (calls_below 0 name scope.invocations end (omega arith))

-- the calls that the tables list
module _ (earlier : Earlier) (tables : Tables) (scope : Scope) (shown : Shows earlier tables scope) (name : Text) where
  pub calls_absent : (Contains tables.instances name → ⊥) → [] ≡ calls_from 0 name scope.invocations
  calls_absent absent =
      let C : Text → Type 0 = λ t. Contains (instance_names scope.instances) t in
      let D : List Text → Type 0 = λ ts. Contains ts name in
      sym (no_calls 0 name scope.invocations (λ v there same. absent (subst D (sym shown.instances) (subst C same (instance_listed_of earlier tables scope shown v there)))))

  module _ (n : ℕ) (at : slice_get tables.instances n ≡ Some name) where
    abbrev instance : (i : Instance) × (slice_get scope.instances n ≡ Some i) × (i.name ≡ name)
    instance = unmapped (λ (i : Instance). i.name) scope.instances n name (ap (λ (ts : List Text). slice_get ts n) (sym shown.instances) ∙ at)

    calls_here : slice_get (map listed tables.calls.items) n ≡ Some (calls_of scope.invocations instance.0)
    calls_here = ap (λ (os : List (List ℕ)). slice_get os n) shown.calls ∙ mapped_at (calls_of scope.invocations) scope.instances n instance.0 instance.1

    pub calls_found : calls_at tables n ≡ calls_from 0 name scope.invocations
    calls_found =
        get_or_from_slice_get (map listed tables.calls.items) n (calls_of scope.invocations instance.0) [] calls_here
        ∙ ap (λ (t : Text). calls_from 0 t scope.invocations) instance.2

  -- those of a new instance
  pub calls_past : (n : ℕ) → length tables.instances ≤ n → (Contains tables.instances name → ⊥) → calls_at tables n ≡ calls_from 0 name scope.invocations
  calls_past n past absent =
      let listed_so : length (map listed tables.calls.items) ≡ length scope.instances = ap length shown.calls ∙ length-map scope.instances (calls_of scope.invocations) in
      let named : length tables.instances ≡ length scope.instances = ap length shown.instances ∙ length-map scope.instances (λ (i : Instance). i.name) in
      get_or_past (map listed tables.calls.items) n [] (omega arith) ∙ calls_absent absent

-- a statement without a callee uses nothing
pub none_used : (scope : Scope) (before : List Statement) (s : Statement) → MakesNewNames scope s → None ≡ signature_at scope s → KeepsFrom (KeptAt scope before s) 10 13
none_used scope before s new none =
    let keeps : Rule → Type 0 = KeptAt scope before s in
    let with = with_instance scope s in
    let each : (v : Invocation) → Contains (invocations_at s) v → KeepsSharing with v = λ v there. unsigned_kept with v (signed_with scope s new v there ∙ sym none) in
    let all : (P : Invocation → Type 0) → ((v : Invocation) → KeepsSharing with v → P v) → All P (invocations_at s) =
    λ P of k v within. of (get_or (invocations_at s) k v) (each (get_or (invocations_at s) k v) (Contains-get_or (invocations_at s) k v within)) in
    keeps_more keeps 10 12 F13 refl
    (keeps_more keeps 10 11 F12 refl
    (keeps_more keeps 10 10 F11 refl (keeps_none keeps 10) (all (KeepsUsesApart with) (λ v kept. kept.apart)))
    (all (EndsInTime with) (λ v kept. kept.in_time)))
    (all (TriggersWithInterface with) (λ v kept. kept.triggers))

-- what F11 to F13 are judged by
module _ (names : List Text) (earlier : Earlier) (comp : FilComp) (tables : Tables) (scope : Scope) (before : List Statement) (stands : StandsAt names earlier comp tables scope before) where
  pub invoked_at : (s : Statement) → MakesNewNames scope s → (v : Invocation) → Contains (invocations_at s) v → (sig : Signature) → signature_at scope s ≡ Some sig
      → (calls : List ℕ) → calls ≡ calls_from 0 v.inst scope.invocations → (at : List Offset) → AreTimes tables.events at v.gives.times → HoldsSome sig v.gives.times
      → KeepsDelays scope sig v.inst v.gives → IsInvoked names comp tables calls sig at (with_instance scope s) v
  invoked_at s new v there sig signed calls are at given holds delays =
      let known = instance_listed_of earlier tables scope stands.place.shows in
      record {
        is_comp = stands.place.is_comp;
        events = stands.place.shows.events;
        distinct = stands.distinct;
        times = stands.place.shows.times;
        earlier = are;
        signature = signed_with scope s new v there ∙ signed;
        own_times = given;
        own_holds = holds;
        own_delays = delays;
        held = held_with scope s known stands.held;
        shared = shared_with scope s known stands.shared;
      }

  module _ (name inst : Text) (gives : Giving) (kept : KeepsFrom (KeptAt scope before (Call name inst gives)) 0 10) (sig : Signature) (signed : instance_signature scope inst ≡ Some sig) where
    pub invoked_call : (calls : List ℕ) → calls ≡ calls_from 0 inst scope.invocations → (at : List Offset) → AreTimes tables.events at gives.times
        → IsInvoked names comp tables calls sig at (with_instance scope (Call name inst gives)) (record { name = name; inst = inst; gives = gives })
    invoked_call calls are at given =
        let H : Option Signature → Type 0 = λ o. IfSome o (λ (sig : Signature). HoldsSome sig gives.times) in
        let D : Option Signature → Type 0 = λ o. IfSome o (λ (sig : Signature). KeepsDelays scope sig inst gives) in
        invoked_at (Call name inst gives) (kept 0 F1 (omega arith) (omega arith) refl) (record { name = name; inst = inst; gives = gives }) (0, omega arith, refl) sig signed calls are at given
        (subst H signed (kept 6 F7 (omega arith) (omega arith) refl)) (subst D signed (kept 9 F10 (omega arith) (omega arith) refl))

  module _ (name made : Text) (params : List ℕ) (gives : Giving) (kept : KeepsFrom (KeptAt scope before (Both name made params gives)) 0 10) (sig : Signature) (signed : signature_in scope.comps made params ≡ Some sig) where
    pub invoked_both : (n : ℕ) → length tables.instances ≤ n → (at : List Offset) → AreTimes tables.events at gives.times
        → IsInvoked names comp tables (calls_at tables n) sig at (with_instance scope (Both name made params gives)) (record { name = name; inst = name; gives = gives })
    invoked_both n past at given =
        let H : Option Signature → Type 0 = λ o. IfSome o (λ (sig : Signature). HoldsSome sig gives.times) in
        let D : Option Signature → Type 0 = λ o. IfSome o (λ (sig : Signature). KeepsDelays scope sig name gives) in
        let fresh : MakesNewNames scope (Both name made params gives) = kept 0 F1 (omega arith) (omega arith) refl in
        let none = calls_past earlier tables scope stands.place.shows name n past (both_instance names earlier comp tables scope stands.place name made params gives fresh) in
        invoked_at (Both name made params gives) fresh (record { name = name; inst = name; gives = gives }) (0, omega arith, refl) sig signed (calls_at tables n) none at given
        (subst H signed (kept 6 F7 (omega arith) (omega arith) refl)) (subst D signed (kept 9 F10 (omega arith) (omega arith) refl))

  -- where a statement stands that keeps all rules, the next one stands
  pub stands_next : (s : Statement) (new : Tables) → MakesNewNames scope s → HoldsUses scope s → KeepsFrom (KeptAt scope before s) 10 13 → Shows earlier new (grown scope s)
      → ListsAllUses new (grown scope s) → new.connected ≡ flat_map connected_at (before ++ s ∷ []) → StandsAt names earlier comp new (grown scope s) (before ++ s ∷ [])
  stands_next s new fresh own kept shows lists connected =
      let known = instance_listed_of earlier tables scope stands.place.shows in
      let D : List Text → Type 0 = AreDistinct in
      record {
        place = record { shows = shows; is_comp = stands.place.is_comp };
        distinct = subst D (stands.place.shows.events ∙ sym shows.events) stands.distinct;
        connected = connected;
        held = held_grown scope before s (signed_with scope s fresh) (held_with scope s known stands.held) own;
        shared = shared_grown scope before s (signed_with scope s fresh) (shared_with scope s known stands.shared) kept;
        listed = lists;
      }
