-- What the rules say of each invocation of a component, in the scope of the whole component.
use Rattle.std.proofs.Common.{◌≡◌, ℕ, zero, suc, ◌+◌, ◌≤◌, Bool, true, false, cond, List, [], ◌∷◌, ◌++◌, flat_map, reverse, take, drop, get_or, slice_get, All, Option, Some, None, option_map, refl, sym, ap, subst, ◌∙◌, is_some, arith}
use Rattle.std.specs.List.{find}
use Rattle.std.specs.Option.{IfSome, IsSome, option_and_then, option_map_or}
use Rattle.std.specs.Prelude.{AllPairs, Contains, bytes_eq, if◌then◌else◌}
use Rattle.std.proofs.lemmas.List.Elements.{All-cons, All-contains, All-head, All-nil, All-take}
use Rattle.std.proofs.lemmas.Option.{none-some, option_and_then_some, same_Some, slice_get-get_or}
use Rattle.hw_names.specs.Name.{Text, AreDistinct}
use Rattle.hw_prims.specs.Filament.{behaviour_of}
use Rattle.hw_prims.specs.Timed.{Behaviour}
use Rattle.hw_prims.specs.Table.{prim_of}
use Rattle.hw_prims.specs.declared.prim.Primitive.{Primitive}
use Rattle.fil_ast.proofs.UseLemmas.{parts_of}
use Rattle.fil_ast.specs.Items.{TheSignature, scope_after, scope_with}
use Rattle.fil_ast.specs.Naming.{NamesEvent, component_names, instance_names}
use Rattle.fil_ast.specs.Primitives.{filament_primitive, primitive_signature, signature_by, table_name, timing_of}
use Rattle.fil_ast.specs.Rules.{F1, FilRules}
use Rattle.fil_ast.specs.Scope.{Instance, Invocation, bare_signature, component_named, instance_named, instance_signature, instances_at, invocations_at, signature_in}
use Rattle.fil_ast.specs.Sharing.{AreDisjoint, EndsInTime, HasInterface, IsEarlierUse, IsUseOf, IsWithin, KeepsUsesApart, TriggersWithInterface}
use Rattle.fil_ast.specs.Signature.{Signature, component_signature}
use Rattle.fil_ast.specs.Timeline.{HoldsSome, IsUse, KeepsDelays, Use}
use Rattle.fil_ast.specs.Tree.{Component, Design, Event, Giving, Statement, TimeAt, New, Call, Both, Connect}
use Rattle.fil_ast.specs.Typing.{GivesEach}
use Rattle.fil_ast.specs.Wires.{whole_scope}
use Rattle.fil_share.specs.Instances.{CanBeMade, signature_of}
use Rattle.fil_share.proofs.CalleeLemmas.{named_among}
use Rattle.fil_share.proofs.ListLemmas.{All-flat_map, Contains-at}
use Rattle.fil_share.proofs.MakesLemmas.{at_statement, makes_instances}
use Rattle.fil_share.proofs.OwnLemmas.{KeepsNames, cut_before, cut_with, find_last, found_more, names_of, pairs_in_time, same_meaning, some_there, uses_paired}
use Rattle.fil_lower.specs.inside.PlanOf.{behaviour_made, behaviour_named}
use Rattle.fil_lower.proofs.CalleeLemmas.{is_first}
use Rattle.fil_lower.proofs.NameLemmas.{found_back}
use Rattle.fil_lower.proofs.PlanLemmas.{inputs_differ}
use Rattle.fil_lower.proofs.TimedAsLemmas.{IsSound, IsTimedAs, component_timed, primitive_timed}
use Rattle.fil_lower.proofs.TimingLemmas.{filament_timing}

pub found_among : {X : Type 0} (test : X → Bool) (xs : List X) (x : X) → find test xs ≡ Some x → Contains xs x
found_among test [] x is = absurd (none-some x is)
found_among test (y ∷ xs) x is = by (test y) is (λ e. found_among test xs x e)
  where
    by : (b : Bool) → cond b (Some y) (find test xs) ≡ Some x → (find test xs ≡ Some x → Contains xs x) → Contains (y ∷ xs) x
    by true e later = (zero, omega arith, same_Some y x e)
    by false e later = let m = later e in (suc m.0, omega (arith, m.1), m.2)

module _ (comps : Design) (rules : FilRules comps) where
  sound_all : All IsSound comps
  sound_all k d within =
      let x = get_or comps k d in
      let at = rules.keeps k x (slice_get-get_or comps k d within) 0 TheSignature refl in
      record { names = at 1 F1 (omega arith); shape = at 4 F1 (omega arith); short = at 5 F1 (omega arith); ins = inputs_differ comps rules k d within }

  pub sound_at : (n : ℕ) (c : Component) → slice_get comps n ≡ Some c → IsSound c
  sound_at n c here = All-contains IsSound comps c sound_all (Contains-at comps n c here)

  pub sound_before : (n : ℕ) → All IsSound (take n comps)
  sound_before n = All-take IsSound n comps sound_all

-- what an instance with a signature promises is timed as the signature says
module _ (earlier : Design) (distinct : AreDistinct (component_names earlier)) (sound : All IsSound earlier) (i : Instance) where
  as_primitive : (o : Option Primitive) (sig : Signature) → filament_primitive i.made i.params ≡ o → option_map (signature_by (timing_of i.made)) o ≡ Some sig → IsTimedAs (behaviour_made earlier i).sig sig
  as_primitive None sig is signed = absurd (none-some sig signed)
  as_primitive (Some prim) sig is signed =
      subst (λ (s : Signature). IsTimedAs (behaviour_made earlier i).sig s) (same_Some (signature_by (timing_of i.made) prim) sig signed)
      (subst (λ (b : Behaviour). IsTimedAs b.sig (signature_by (timing_of i.made) prim)) (sym (ap (λ (o : Option Primitive). option_map_or behaviour_of o (behaviour_named (reverse earlier) i.made)) is))
      (primitive_timed (timing_of i.made) prim (filament_timing i.made i.params prim is)))

  as_component : (params : List ℕ) (c : Component) (sig : Signature) → filament_primitive i.made i.params ≡ None → component_named earlier i.made ≡ Some c → bare_signature params c ≡ Some sig → IsTimedAs (behaviour_made earlier i).sig sig
  as_component [] c sig none found signed =
      let first = is_first (reverse earlier) i.made c (found_back earlier i.made c distinct found) in
      let same = ap (λ (o : Option Primitive). option_map_or behaviour_of o (behaviour_named (reverse earlier) i.made)) none ∙ first.behaviour in
      subst (λ (s : Signature). IsTimedAs (behaviour_made earlier i).sig s) (same_Some (component_signature c) sig signed)
      (subst (λ (b : Behaviour). IsTimedAs b.sig (component_signature c)) (sym same) (component_timed c (All-contains IsSound earlier c sound (named_among i.made earlier c found))))
  as_component (p ∷ params) c sig none found signed = absurd (none-some sig signed)

  pub timed_as : (sig : Signature) → signature_in earlier i.made i.params ≡ Some sig → IsTimedAs (behaviour_made earlier i).sig sig
  timed_as sig signed = by (table_name i.made) refl
    where
      by : (o : Option Text) → table_name i.made ≡ o → IsTimedAs (behaviour_made earlier i).sig sig
      by None none =
          option_and_then_some (bare_signature i.params) (component_named earlier i.made) sig
          (sym (ap (λ (o : Option Text). if is_some o then primitive_signature i.made i.params else option_and_then (bare_signature i.params) (component_named earlier i.made)) none) ∙ signed)
          (λ c found is. as_component i.params c sig (ap (option_and_then (λ (t : Text). prim_of t i.params)) none) found is)
      by (Some t) some =
          as_primitive (filament_primitive i.made i.params) sig refl
          (sym (ap (λ (o : Option Text). if is_some o then primitive_signature i.made i.params else option_and_then (bare_signature i.params) (component_named earlier i.made)) some) ∙ signed)

-- ---- invocations

-- F4, F7, F10 and F13 of an invocation, and the names of its times
pub record IsCalled (earlier : Design) (c : Component) (v : Invocation) : Type 0 where
  pub sig : Signature
  pub signed : instance_signature (whole_scope earlier c) v.inst ≡ Some sig
  pub each : GivesEach sig v.gives
  pub holds : HoldsSome sig v.gives.times
  pub times : All (λ (t : TimeAt). NamesEvent c t.event) v.gives.times
  pub delays : (u : Use) → IsUse sig v.inst v.gives.times u → (e : Event) → Contains c.events e → e.name ≡ u.at.event → u.hold ≤ e.delay
  pub triggers : (u : Use) → IsUse sig v.inst v.gives.times u → IsSome u.go → HasInterface c u.at.event

-- F11 to F13 of two uses of an event of an instance
pub record ShareUses (c : Component) (u w : Use) : Type 0 where
  pub event : u.at.event ≡ w.at.event
  pub disjoint : AreDisjoint u w
  pub in_time : (e : Event) → Contains c.events e → e.name ≡ w.at.event → IsWithin e.delay w u × IsWithin e.delay u w
  pub interface : HasInterface c w.at.event

module _ (comps : Design) (rules : FilRules comps) (n : ℕ) (c : Component) (here : slice_get comps n ≡ Some c) where
  abbrev earlier : Design
  earlier = take n comps

  abbrev named : KeepsNames (take n comps) c
  named = names_of comps rules n c here

  can_be_made : All (CanBeMade earlier) (whole_scope earlier c).instances
  can_be_made =
      All-flat_map (CanBeMade earlier) instances_at c.body
      (λ k d within. (makes_instances comps rules n c here).made k (get_or c.body k d) (slice_get-get_or c.body k d within))

  -- an instance that is found has a signature
  pub signature_is : (inst : Text) (i : Instance) → instance_named (whole_scope earlier c).instances inst ≡ Some i → (sig : Signature) × (instance_signature (whole_scope earlier c) inst ≡ Some sig)
  signature_is inst i found =
      let made = All-contains (CanBeMade earlier) (whole_scope earlier c).instances i can_be_made (found_among (λ (j : Instance). bytes_eq j.name inst) (whole_scope earlier c).instances i found) in
      let s = some_there (signature_in earlier i.made i.params) made.widths.parameters in
      (s.0, ap (option_and_then (signature_of earlier)) found ∙ s.1)

  module _ (k : ℕ) (s : Statement) (at : slice_get c.body k ≡ Some s) where
    -- an invocation's callee, as its statement sees it, is that of the whole component
    pub record HasCallee (v : Invocation) (o : Option Signature) : Type 0 where
      pub same : o ≡ instance_signature (whole_scope earlier c) v.inst
      pub i : Instance
      pub with : instance_named (flat_map instances_at (take k c.body) ++ instances_at s) v.inst ≡ Some i

  pub call_callee : (k : ℕ) (name inst : Text) (gives : Giving) (at : slice_get c.body k ≡ Some (Call name inst gives)) →
      HasCallee k (Call name inst gives) at (record { name = name; inst = inst; gives = gives }) (instance_signature (scope_after earlier c (take k c.body)) inst)
  call_callee k name inst gives at =
      let found = some_there (instance_named (flat_map instances_at (take k c.body)) inst) (named.known_names k (Call name inst gives) at).0 in
      let more = found_more earlier c named (flat_map instances_at (take k c.body)) [] inst found in
      record {
        same = same_meaning earlier c named (flat_map instances_at (take k c.body)) (flat_map instances_at (drop k c.body)) inst (cut_before earlier c named k (Call name inst gives) at) found;
        i = more.0;
        with = more.1;
      }

  pub both_callee : (k : ℕ) (name made : Text) (params : List ℕ) (gives : Giving) (at : slice_get c.body k ≡ Some (Both name made params gives)) →
      HasCallee k (Both name made params gives) at (record { name = name; inst = name; gives = gives }) (signature_in earlier made params)
  both_callee k name made params gives at =
      let i : Instance = record { name = name; made = made; params = params } in
      let last = find_last (flat_map instances_at (take k c.body)) i (All-head (λ (i : Instance). ¬ Contains (instance_names (flat_map instances_at (take k c.body))) i.name) i [] (named.new_names k (Both name made params gives) at).instances) in
      record {
        same =
            sym (ap (option_and_then (signature_of earlier)) last)
            ∙ same_meaning earlier c named (flat_map instances_at (take k c.body) ++ i ∷ []) (flat_map instances_at (drop (k + 1) c.body)) name (cut_with earlier c named k (Both name made params gives) at) (i, last);
        i = i;
        with = last;
      }

  module _ (k : ℕ) (s : Statement) (at : slice_get c.body k ≡ Some s) where
    -- a use in the whole component is one as the statement sees it
    to_with : (v : Invocation) (i : Instance) → instance_named (flat_map instances_at (take k c.body) ++ instances_at s) v.inst ≡ Some i → (u : Use) → IsUseOf (whole_scope earlier c) v u → IsUseOf (scope_with earlier c (take k c.body) s) v u
    to_with v i found u (sig, is, used) =
        (sig, same_meaning earlier c named (flat_map instances_at (take k c.body) ++ instances_at s) (flat_map instances_at (drop (k + 1) c.body)) v.inst (cut_with earlier c named k s at) (i, found) ∙ is, used)

    called_by : (v : Invocation) (o : Option Signature) → HasCallee k s at v o → IfSome o (λ sig. GivesEach sig v.gives) → IfSome o (λ sig. HoldsSome sig v.gives.times) →
        IfSome o (λ sig. KeepsDelays (scope_after earlier c (take k c.body)) sig v.inst v.gives) → All (λ (t : TimeAt). NamesEvent c t.event) v.gives.times →
        TriggersWithInterface (scope_with earlier c (take k c.body) s) v → IsCalled earlier c v
    called_by v o callee each holds delays times triggers =
        let later = found_more earlier c named (flat_map instances_at (take k c.body) ++ instances_at s) (flat_map instances_at (drop (k + 1) c.body)) v.inst (callee.i, callee.with) in
        let found : instance_named (whole_scope earlier c).instances v.inst ≡ Some later.0 = sym (ap (λ (is : List Instance). instance_named is v.inst) (cut_with earlier c named k s at)) ∙ later.1 in
        let sig = signature_is v.inst later.0 found in
        let is : o ≡ Some sig.0 = callee.same ∙ sig.1 in
        let kept : KeepsDelays (scope_after earlier c (take k c.body)) sig.0 v.inst v.gives = subst (λ (o : Option Signature). IfSome o (λ sig. KeepsDelays (scope_after earlier c (take k c.body)) sig v.inst v.gives)) is delays in
        record {
          sig = sig.0;
          signed = sig.1;
          each = subst (λ (o : Option Signature). IfSome o (λ sig. GivesEach sig v.gives)) is each;
          holds = subst (λ (o : Option Signature). IfSome o (λ sig. HoldsSome sig v.gives.times)) is holds;
          times = times;
          delays = kept;
          triggers = λ u used some. triggers.triggers u (to_with v callee.i callee.with u (sig.0, sig.1, used)) some;
        }

  called_at : (k : ℕ) (s : Statement) → slice_get c.body k ≡ Some s → All (IsCalled earlier c) (invocations_at s)
  called_at k (New name made params) at = All-nil (IsCalled earlier c)
  called_at k (Connect output value) at = All-nil (IsCalled earlier c)
  called_at k (Call name inst gives) at =
      let s = Call name inst gives in
      let v : Invocation = record { name = name; inst = inst; gives = gives } in
      let keeps = at_statement comps rules n c here k s at in
      All-cons (IsCalled earlier c) v []
      (called_by k s at v (instance_signature (scope_after earlier c (take k c.body)) inst) (call_callee k name inst gives at) (keeps 3 F1 (omega arith)) (keeps 6 F1 (omega arith)) (keeps 9 F1 (omega arith))
      (named.known_names k s at).1.times (All-head (TriggersWithInterface (scope_with earlier c (take k c.body) s)) v [] (keeps 12 F1 (omega arith))))
      (All-nil (IsCalled earlier c))
  called_at k (Both name made params gives) at =
      let s = Both name made params gives in
      let v : Invocation = record { name = name; inst = name; gives = gives } in
      let keeps = at_statement comps rules n c here k s at in
      All-cons (IsCalled earlier c) v []
      (called_by k s at v (signature_in earlier made params) (both_callee k name made params gives at) (keeps 3 F1 (omega arith)) (keeps 6 F1 (omega arith)) (keeps 9 F1 (omega arith))
      (named.known_names k s at).1.times (All-head (TriggersWithInterface (scope_with earlier c (take k c.body) s)) v [] (keeps 12 F1 (omega arith))))
      (All-nil (IsCalled earlier c))

  pub all_called : All (IsCalled earlier c) (whole_scope earlier c).invocations
  all_called =
      All-flat_map (IsCalled earlier c) invocations_at c.body
      (λ k d within. called_at k (get_or c.body k d) (slice_get-get_or c.body k d within))

  -- two invocations share each event of an instance that both use
  abbrev pub ShareWell : Invocation → Invocation → Type 0
  ShareWell v w = (u x : Use) → IsUseOf (whole_scope earlier c) v u → IsUseOf (whole_scope earlier c) w x → u.inst ≡ x.inst → u.event ≡ x.event → ShareUses c u x

  pub share : AllPairs ShareWell (whole_scope earlier c).invocations
  share = uses_paired earlier c named (ShareUses c) each
    where
      apart_at : (k : ℕ) (s : Statement) → slice_get c.body k ≡ Some s → All (KeepsUsesApart (scope_with earlier c (take k c.body) s)) (invocations_at s)
      apart_at k s at = at_statement comps rules n c here k s at 10 F1 (omega arith)

      in_time_at : (k : ℕ) (s : Statement) → slice_get c.body k ≡ Some s → All (EndsInTime (scope_with earlier c (take k c.body) s)) (invocations_at s)
      in_time_at k s at = at_statement comps rules n c here k s at 11 F1 (omega arith)

      each : (k : ℕ) (s : Statement) (at : slice_get c.body k ≡ Some s) → All (λ w. (x u : Use) → IsUseOf (scope_with earlier c (take k c.body) s) w x → IsEarlierUse (scope_with earlier c (take k c.body) s) x u → ShareUses c u x) (invocations_at s)
      each k s at j d below x u used known =
          let w = get_or (invocations_at s) j d in
          let triggers : All (TriggersWithInterface (scope_with earlier c (take k c.body) s)) (invocations_at s) = at_statement comps rules n c here k s at 12 F1 (omega arith) in
          let kept = apart_at k s at j d below x u used known in
          let same_inst : known.invocation.inst ≡ w.inst = sym (parts_of known.uses.2).named ∙ known.same_instance ∙ (parts_of used.2).named in
          record {
            event = kept.0;
            disjoint = kept.1;
            in_time = pairs_in_time earlier c named apart_at in_time_at k s at j d below x u used known;
            interface = (triggers j d below).once known.invocation x u known.is_earlier same_inst used known.uses kept.0;
          }
