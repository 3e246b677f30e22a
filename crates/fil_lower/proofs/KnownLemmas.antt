-- What the rules give where assignments are made: known names, and bits that are there.
use Rattle.std.proofs.Common.{◌≡◌, ◌≢◌, ℕ, zero, suc, ◌+◌, ◌-◌, ◌<◌, ◌≤◌, Bool, true, false, cond, max, List, [], ◌∷◌, ◌++◌, length, map, filter, flat_map, take, drop, get_or, slice_get, bytes_eq, is_some, All, inl, inr, Contains, Option, Some, None, option_map, refl, sym, ap, subst, ◌∙◌, add-one, arith}
use Rattle.std.specs.Option.{IsSome, option_and_then, option_map_or}
use Rattle.std.specs.Prelude.{if◌then◌else◌}
use Rattle.std.proofs.lemmas.List.{length-map, map-append, take-append-drop}
use Rattle.std.proofs.lemmas.List.Concat.{flat_map-append}
use Rattle.std.proofs.lemmas.List.Elements.{All-cons, All-contains, All-nil, All-weaker, Contains-append_left, Contains-append_right}
use Rattle.std.proofs.lemmas.Option.{get_or_from_slice_get, none-some, same_Some, slice_get-get_or, slice_get-map}
use Rattle.std.proofs.lemmas.Slice.Eq.{bytes_eq-Decides}
use Rattle.hw_names.specs.Name.{Text}
use Rattle.fil_ast.proofs.UseLemmas.{parts_of}
use Rattle.fil_ast.specs.Holds.{uses_of}
use Rattle.fil_ast.specs.Items.{scope_after}
use Rattle.fil_ast.specs.Naming.{IsKnownValue, NamesEvent, UsesKnownNames, instance_names, invocation_names}
use Rattle.fil_ast.specs.Scope.{Instance, Invocation, Scope, instance_signature, instances_at, invocation_named, invocations_at, result_at}
use Rattle.fil_ast.specs.Signature.{SigEvent, SigPort, Signature, event_number, interface_of}
use Rattle.fil_ast.specs.Timeline.{Interval, IsUse, Use, interval_at, interval_between}
use Rattle.fil_ast.specs.Tree.{Component, Design, Event, Interface, Statement, TimeAt, New, Call, Both, Connect, ValueTree, InputValue, OutputValue, Literal}
use Rattle.fil_fsm.specs.Chain.{bit_of, chain_bits}
use Rattle.fil_share.proofs.ListLemmas.{All-flat_map, Contains-at, Contains-here, Contains-there}
use Rattle.fil_share.proofs.OwnLemmas.{names_of}
use Rattle.cal_ast.specs.Tree.{PortName, own}
use Rattle.fil_lower.specs.inside.Lowering.{HasEnoughBits, Lowering, argument_set, argument_sets, bits_of, go_of, inputs_of_callee, last_bit, registers_of, wanted_by, wants_in}
use Rattle.fil_lower.specs.inside.Place.{NamesInvocation, ShowsBody, Starts, greatest}
use Rattle.fil_lower.specs.declared.body.Body.{Body}
use Rattle.fil_lower.proofs.CallLemmas.{IsCalled, all_called}
use Rattle.fil_lower.proofs.ListLemmas.{contains_in_flat, contains_none, first_or_later}
use Rattle.fil_lower.proofs.NameLemmas.{same_name}
use Rattle.fil_lower.proofs.StepLemmas.{greatest-append}
use Rattle.fil_lower.proofs.TimedAsLemmas.{number_of}
use Rattle.fil_lower.proofs.UseLemmas.{all_uses}

-- what the rules say of the invocations
pub called : (body : Body) (scope : Scope) (shows : ShowsBody body scope) → All (IsCalled (take shows.number shows.design) scope.comp) scope.invocations
called body scope shows =
    let P : Scope → Type 0 = λ s. All (IsCalled (take shows.number shows.design) scope.comp) s.invocations in
    subst P (sym shows.whole) (all_called shows.design shows.rules shows.number scope.comp shows.at)

-- an input of a callee is one of its signature
pub callee_port : (l : Lowering) (inst : Text) (p : SigPort) → Contains (inputs_of_callee l inst) p → (sig : Signature) × (instance_signature l.scope inst ≡ Some sig) × Contains sig.ins p
callee_port l inst p there = by (instance_signature l.scope inst) refl there
  where
    by : (o : Option Signature) → instance_signature l.scope inst ≡ o → Contains (option_map_or (λ (sig : Signature). sig.ins) o []) p → (sig : Signature) × (instance_signature l.scope inst ≡ Some sig) × Contains sig.ins p
    by None none empty = absurd (contains_none p empty)
    by (Some sig) signed among = (sig, signed, among)

-- ---- bits that are there

at_most : (numbers : List ℕ) (n : ℕ) → Contains numbers n → n ≤ greatest numbers
at_most [] n there = absurd (contains_none n there)
at_most (m ∷ numbers) n there =
    let whole : greatest (m ∷ numbers) ≡ max (greatest (m ∷ [])) (greatest numbers) = greatest-append (m ∷ []) numbers in
    elim (first_or_later m numbers n there) [
      | inl here ↦ omega (arith, whole, here)
      | inr later ↦ omega (arith, whole, at_most numbers n later)
    ]

-- an event with an interface port has a bit more than its last
pub bits_length : (l : Lowering) (event go : Text) → HasEnoughBits l → NamesEvent l.scope.comp event → go_of l event ≡ Some go → length (bits_of l event) ≡ last_bit l event + 1
bits_length l event go enough named there =
    let (e, at, is_e) = number_of l.scope.comp.events event named in
    let k = event_number l.scope.comp.events event in
    let last_of : Event → ℕ = λ e. last_bit l e.name in
    let found : option_map (length {A = Text}) (slice_get l.registers k) ≡ Some (last_bit l event) =
    sym (slice_get-map (length {A = Text}) l.registers k) ∙ ap (λ ns. slice_get ns k) enough ∙ slice_get-map last_of l.scope.comp.events k ∙ ap (option_map last_of) at ∙ ap (λ t. Some (last_bit l t)) is_e in
    by (slice_get l.registers k) refl found
  where
    by : (o : Option (List Text)) → slice_get l.registers (event_number l.scope.comp.events event) ≡ o → option_map (length {A = Text}) o ≡ Some (last_bit l event) → length (bits_of l event) ≡ last_bit l event + 1
    by None none found = absurd (none-some (last_bit l event) found)
    by (Some few) some found =
        let registers : registers_of l event ≡ few = get_or_from_slice_get l.registers (event_number l.scope.comp.events event) few [] some in
        let count : length few ≡ last_bit l event = same_Some (length few) (last_bit l event) found in
        let bits : bits_of l event ≡ chain_bits (own go) few = ap (λ o. option_map_or (λ go. chain_bits (own go) (registers_of l event)) o []) there ∙ ap (chain_bits (own go)) registers in
        ap (length {A = PortName}) bits ∙ omega (arith, length-map few bit_of, count)

-- what is wanted of an event by an invocation is at most its last bit
wanted_at_most : (l : Lowering) (event go : Text) (v : Invocation) (n : ℕ) → go_of l event ≡ Some go → Contains l.scope.invocations v → Contains (wanted_by l event v) n → n ≤ last_bit l event
wanted_at_most l event go v n there among wants =
    let last : last_bit l event ≡ greatest (flat_map (wanted_by l event) l.scope.invocations) =
    ap (λ o. option_map_or (λ go. greatest (flat_map (wanted_by l event) l.scope.invocations)) o 0) there in
    omega (arith, last, at_most (flat_map (wanted_by l event) l.scope.invocations) n (contains_in_flat (wanted_by l event) l.scope.invocations v n among wants))

-- an argument is given within the bits of its event
pub argument_fits : (l : Lowering) (v : Invocation) (port : SigPort) (i : Interval) (go : Text) → HasEnoughBits l → Contains l.scope.invocations v → Contains (inputs_of_callee l v.inst) port
    → interval_at v.gives.times port ≡ Some i → NamesEvent l.scope.comp i.event → go_of l i.event ≡ Some go → i.to ≤ length (bits_of l i.event)
argument_fits l v port i go enough among input at named there =
    let W : SigPort → List ℕ = λ port. option_map_or (wants_in l i.event) (interval_at v.gives.times port) [] in
    let wants : (i.to - 1) ∷ [] ≡ W port =
    sym (ap (λ o. option_map_or (wants_in l i.event) o []) at ∙ ap (λ (b : Bool). if b then (i.to - 1) ∷ [] else []) (same_name i.event i.event refl)) in
    let C : List ℕ → Type 0 = λ ns. Contains ns (i.to - 1) in
    let first = contains_in_flat W (inputs_of_callee l v.inst) port (i.to - 1) input (subst C wants (Contains-here (i.to - 1) [])) in
    let within = wanted_at_most l i.event go v (i.to - 1) there among (Contains-append_left (flat_map W (inputs_of_callee l v.inst)) _ (i.to - 1) first) in
    omega (arith, within, bits_length l i.event go enough named there)

-- the event of an interval is that of one of the times
pub interval_event : (c : Component) (times : List TimeAt) (port : SigPort) (i : Interval) → All (λ (t : TimeAt). NamesEvent c t.event) times → interval_at times port ≡ Some i → NamesEvent c i.event
interval_event c times port i named at = by (slice_get times port.from.event) refl at
  where
    by : (o : Option TimeAt) → slice_get times port.from.event ≡ o → option_and_then (λ s. option_map (λ t. interval_between s t port) (slice_get times port.to.event)) o ≡ Some i → NamesEvent c i.event
    by None none is = absurd (none-some i is)
    by (Some s) some is = to (slice_get times port.to.event) is
      where
        to : (o : Option TimeAt) → option_map (λ t. interval_between s t port) o ≡ Some i → NamesEvent c i.event
        to None is' = absurd (none-some i is')
        to (Some t) is' =
            let event : s.event ≡ i.event = ap (λ (j : Interval). j.event) (same_Some (interval_between s t port) i is') in
            subst (NamesEvent c) event (All-contains (λ (t : TimeAt). NamesEvent c t.event) times s named (Contains-at times port.from.event s some))

-- an event with an interface has an interface port
interface_there : (interfaces : List Interface) (event : Text) → Contains (map (λ (g : Interface). g.event) interfaces) event → (go : Text) × (interface_of interfaces event ≡ Some go)
interface_there [] event there = absurd (contains_none event there)
interface_there (g ∷ interfaces) event there = by (bytes_eq g.event event) refl (λ later. interface_there interfaces event later)
  where
    by : (b : Bool) → bytes_eq g.event event ≡ b → (Contains (map (λ (g : Interface). g.event) interfaces) event → (go : Text) × (interface_of interfaces event ≡ Some go))
        → (go : Text) × (interface_of (g ∷ interfaces) event ≡ Some go)
    by true is rest = (g.name, ap (λ (b : Bool). if b then Some g.name else interface_of interfaces event) is)
    by false is rest =
        elim (first_or_later g.event (map (λ (g : Interface). g.event) interfaces) event there) [
          | inl here ↦ let yes = same_name g.event event here in absurd (cc)
          | inr later ↦ let found = rest later in (found.0, ap (λ (b : Bool). if b then Some g.name else interface_of interfaces event) is ∙ found.1)
        ]

among_filter : (test : Use → Bool) (us : List Use) (u : Use) → Contains us u → test u ≡ true → Contains (filter test us) u
among_filter test [] u there passes = absurd (contains_none u there)
among_filter test (w ∷ us) u there passes = by (test w) refl (λ later. among_filter test us u later passes)
  where
    by : (b : Bool) → test w ≡ b → (Contains us u → Contains (filter test us) u) → Contains (cond b (w ∷ filter test us) (filter test us)) u
    by true is rest =
        elim (first_or_later w us u there) [
          | inl here ↦ subst (Contains (w ∷ filter test us)) here (Contains-here w (filter test us))
          | inr later ↦ Contains-there w (filter test us) u (rest later)
        ]
    by false is rest =
        elim (first_or_later w us u there) [
          | inl here ↦ let same : test w ≡ test u = ap test here in absurd (cc)
          | inr later ↦ rest later
        ]

pub among_map : {X Y : Type 0} (f : X → Y) (xs : List X) (x : X) → Contains xs x → Contains (map f xs) (f x)
among_map f [] x there = absurd (contains_none x there)
among_map f (y ∷ xs) x there =
    elim (first_or_later y xs x there) [
      | inl here ↦ subst (λ z. Contains (f y ∷ map f xs) (f z)) here (Contains-here (f y) (map f xs))
      | inr later ↦ Contains-there (f y) (map f xs) (f x) (among_map f xs x later)
    ]

-- a use of an event with an interface port starts at a bit
use_fits : (l : Lowering) (v : Invocation) (u : Use) (go : Text) → HasEnoughBits l → Contains l.scope.invocations v → Contains (uses_of l.scope v) u → NamesEvent l.scope.comp u.at.event
    → go_of l u.at.event ≡ Some go → u.at.plus < length (bits_of l u.at.event)
use_fits l v u go enough among use_in named there =
    let plus_of : Use → ℕ = λ u. u.at.plus in
    let on : Use → Bool = λ w. bytes_eq w.at.event u.at.event in
    let listed = among_map plus_of (filter on (uses_of l.scope v)) u (among_filter on (uses_of l.scope v) u use_in (same_name u.at.event u.at.event refl)) in
    let within = wanted_at_most l u.at.event go v u.at.plus there among (Contains-append_right (flat_map (λ port. option_map_or (wants_in l u.at.event) (interval_at v.gives.times port) []) (inputs_of_callee l v.inst)) (map plus_of (filter on (uses_of l.scope v))) u.at.plus listed) in
    omega (arith, within, bits_length l u.at.event go enough named there)

pub starts_fit : (body : Body) (l : Lowering) (shows : ShowsBody body l.scope) → HasEnoughBits l → (inst : Text) (sig : Signature) (k : ℕ) (e : SigEvent) (go : Text)
    → instance_signature l.scope inst ≡ Some sig → slice_get sig.events k ≡ Some e → e.go ≡ Some go → Starts l inst k
starts_fit body l shows enough inst sig k e go signed at has v u among use_in same_inst same_event =
    let is = All-contains (IsCalled (take shows.number shows.design) l.scope.comp) l.scope.invocations v (called body l.scope shows) among in
    let S : Scope → Type 0 = λ s. instance_signature s v.inst ≡ Some is.sig in
    let signed_v : instance_signature l.scope v.inst ≡ Some is.sig = subst S (sym shows.whole) is.signed in
    let used = All-contains (IsUse is.sig v.inst v.gives.times) (uses_of l.scope v) u (all_uses l.scope v is.sig signed_v) use_in in
    let named = All-contains (λ (t : TimeAt). NamesEvent l.scope.comp t.event) v.gives.times u.at is.times (Contains-at v.gives.times u.event u.at (parts_of used).time) in
    let same_sig : is.sig ≡ sig = same_Some is.sig sig (sym signed_v ∙ ap (instance_signature l.scope) (sym (parts_of used).named ∙ same_inst) ∙ signed) in
    let same_e : used.event ≡ e = same_Some used.event e (sym used.of ∙ ap (λ (s : Signature). slice_get s.events u.event) same_sig ∙ ap (slice_get sig.events) same_event ∙ at) in
    let some : u.go ≡ Some go = (parts_of used).go ∙ ap (λ (x : SigEvent). x.go) same_e ∙ has in
    let triggered = is.triggers u used (ap (λ o. is_some o) some) in
    let found = interface_there l.scope.comp.interfaces u.at.event triggered in
    (named, use_fits l v u found.0 enough among use_in named found.1)

pub some_of : {X : Type 0} (xs : List X) → xs ≢ [] → 0 < length xs
some_of [] none = absurd (none refl)
some_of (x ∷ xs) some = omega arith

-- ---- values that are known

named_there : (vs : List Invocation) (name : Text) → IsSome (invocation_named vs name) → Contains (invocation_names vs) name
named_there [] name found = absurd (cc)
named_there (v ∷ vs) name found = by (bytes_eq v.name name) refl found (named_there vs name)
  where
    by : (b : Bool) → bytes_eq v.name name ≡ b → IsSome (cond b (Some v) (invocation_named vs name)) → (IsSome (invocation_named vs name) → Contains (invocation_names vs) name) → Contains (invocation_names (v ∷ vs)) name
    by true is found rest = subst (Contains (v.name ∷ invocation_names vs)) ((bytes_eq-Decides v.name name).0 is) (Contains-here v.name (invocation_names vs))
    by false is found rest = Contains-there v.name (invocation_names vs) name (rest found)

known_value : (scope : Scope) (more : List Invocation) (value : ValueTree) → IsKnownValue scope value → NamesInvocation (scope.invocations ++ more) value
known_value scope more (InputValue name) known = tt
known_value scope more (OutputValue invocation port) known =
    let C : List Text → Type 0 = λ ts. Contains ts invocation in
    subst C (sym (map-append (λ (v : Invocation). v.name) scope.invocations more))
    (Contains-append_left (invocation_names scope.invocations) (invocation_names more) invocation (named_there scope.invocations invocation (found (invocation_named scope.invocations invocation) known)))
  where
    found : (o : Option Invocation) → IsSome (option_and_then (λ v. result_at scope v port) o) → IsSome o
    found None known = known
    found (Some v) known = refl
known_value scope more (Literal width value) known = tt

module _ (body : Body) (scope : Scope) (shows : ShowsBody body scope) where
  abbrev earlier : Design
  earlier = take shows.number shows.design

  -- what stands before a statement stands before the end
  before_end : (k : ℕ) → flat_map invocations_at (take k scope.comp.body) ++ flat_map invocations_at (drop k scope.comp.body) ≡ scope.invocations
  before_end k =
      sym (flat_map-append invocations_at (take k scope.comp.body) (drop k scope.comp.body)) ∙ ap (flat_map invocations_at) (take-append-drop k scope.comp.body) ∙ ap (λ (s : Scope). s.invocations) (sym shows.whole)

  known_at : (k : ℕ) (s : Statement) → slice_get scope.comp.body k ≡ Some s → UsesKnownNames (scope_after earlier scope.comp (take k scope.comp.body)) s
  known_at k s at = (names_of shows.design shows.rules shows.number scope.comp shows.at).known_names k s at

  value_known : (k : ℕ) (value : ValueTree) → IsKnownValue (scope_after earlier scope.comp (take k scope.comp.body)) value → NamesInvocation scope.invocations value
  value_known k value known =
      subst (λ (vs : List Invocation). NamesInvocation vs value) (before_end k) (known_value (scope_after earlier scope.comp (take k scope.comp.body)) (flat_map invocations_at (drop k scope.comp.body)) value known)

  abbrev GivesNamed : Invocation → Type 0
  GivesNamed v = All (NamesInvocation scope.invocations) v.gives.args

  gives_named : (k : ℕ) (s : Statement) → slice_get scope.comp.body k ≡ Some s → All GivesNamed (invocations_at s)
  gives_named k (New name made params) at = All-nil GivesNamed
  gives_named k (Connect output value) at = All-nil GivesNamed
  gives_named k (Call name inst gives) at =
      All-cons GivesNamed (record { name = name; inst = inst; gives = gives }) []
      (All-weaker (IsKnownValue (scope_after earlier scope.comp (take k scope.comp.body))) (NamesInvocation scope.invocations) (value_known k) gives.args (known_at k (Call name inst gives) at).1.args) (All-nil GivesNamed)
  gives_named k (Both name made params gives) at =
      All-cons GivesNamed (record { name = name; inst = name; gives = gives }) []
      (All-weaker (IsKnownValue (scope_after earlier scope.comp (take k scope.comp.body))) (NamesInvocation scope.invocations) (value_known k) gives.args (known_at k (Both name made params gives) at).1.args) (All-nil GivesNamed)

  -- the arguments of each invocation name invocations
  pub args_named : All GivesNamed scope.invocations
  args_named =
      let P : Scope → Type 0 = λ s. All GivesNamed s.invocations in
      subst P (sym shows.whole) (All-flat_map GivesNamed invocations_at scope.comp.body (λ k d within. gives_named k (get_or scope.comp.body k d) (slice_get-get_or scope.comp.body k d within)))

  -- and so do connected values
  pub connected_named : (k : ℕ) (output : Text) (value : ValueTree) → slice_get scope.comp.body k ≡ Some (Connect output value) → NamesInvocation scope.invocations value
  connected_named k output value at = value_known k value (known_at k (Connect output value) at).1

  -- an invocation of a statement is one of the component
  pub invocation_among : (s : Statement) (v : Invocation) → Contains scope.comp.body s → v ∷ [] ≡ invocations_at s → Contains scope.invocations v
  invocation_among s v among is =
      let C : List Invocation → Type 0 = λ vs. Contains vs v in
      let P : Scope → Type 0 = λ s. Contains s.invocations v in
      subst P (sym shows.whole) (contains_in_flat invocations_at scope.comp.body s v among (subst C is (Contains-here v [])))

-- ---- arguments, one after another

pub argument_next : (l : Lowering) (v : Invocation) (ports : List SigPort) (args : List ValueTree) (i : ℕ) (p : SigPort) → slice_get ports i ≡ Some p
    → argument_sets l v (take (i + 1) ports) args ≡ argument_sets l v (take i ports) args ++ option_map_or (λ a. argument_set l v p a ∷ []) (slice_get args i) []
argument_next l v ports args i p at = ap (λ n. argument_sets l v (take n ports) args) (add-one i) ∙ next ports args i at
  where
    next : (ports : List SigPort) (args : List ValueTree) (i : ℕ) → slice_get ports i ≡ Some p
        → argument_sets l v (take (suc i) ports) args ≡ argument_sets l v (take i ports) args ++ option_map_or (λ a. argument_set l v p a ∷ []) (slice_get args i) []
    next [] args i at = absurd (none-some p at)
    next (q ∷ ports) [] zero at = refl
    next (q ∷ ports) [] (suc i) at = refl
    next (q ∷ ports) (a ∷ args) zero at = ap (λ p. argument_set l v p a ∷ []) (same_Some q p at)
    next (q ∷ ports) (a ∷ args) (suc i) at = ap (λ sets. argument_set l v q a ∷ sets) (next ports args i at)

-- an instance of a statement is one of the component
pub instance_among : (body : Body) (scope : Scope) (shows : ShowsBody body scope) (s : Statement) (i : Instance) → Contains scope.comp.body s → i ∷ [] ≡ instances_at s → Contains (instance_names scope.instances) i.name
instance_among body scope shows s i among is =
    let C : List Instance → Type 0 = λ is. Contains is i in
    let P : Scope → Type 0 = λ s. Contains s.instances i in
    among_map (λ (i : Instance). i.name) scope.instances i
    (subst P (sym shows.whole) (contains_in_flat instances_at scope.comp.body s i among (subst C is (Contains-here i []))))
