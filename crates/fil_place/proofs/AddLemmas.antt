-- That tables into which a statement is put show the scope after it.
use Rattle.std.proofs.Common.{◌≡◌, ℕ, zero, suc, ◌+◌, ◌<◌, cond, Bool, true, false, List, [], ◌∷◌, ◌++◌, length, map, flat_map, get_or, set, slice_get, Contains, Option, Some, Result, Ok, Err, Vec, Global, refl, sym, ap, ap₂, subst, ◌∙◌, append_assoc, zero-add, arith}
use Rattle.std.specs.Prelude.{OnOk}
use Rattle.std.specs.Str.{bytes_eq}
use Rattle.std.proofs.lemmas.Bool.{false_from_ne_true}
use Rattle.std.proofs.lemmas.Option.{none-some, same_Some, get_or_from_slice_get, slice_get_within}
use Rattle.std.proofs.lemmas.Slice.Eq.{bytes_eq-Decides}
use Rattle.std.proofs.lemmas.List.{append-nil, get_or-map, length-map, map-append, map-set}
use Rattle.hw_names.specs.Name.{Text, AreDistinct}
use Rattle.hw_names.proofs.NameLemmas.{AreDistinct-push, KeepsTexts-append}
use Rattle.fil_ast.specs.Connections.{connected_at}
use Rattle.fil_ast.specs.Naming.{instance_names, invocation_names, port_names}
use Rattle.fil_ast.specs.Scope.{Scope, Instance, Invocation, signature_in}
use Rattle.fil_ast.specs.Tree.{Giving, Statement, New, Call, Both, TimeAt}
use Rattle.fil_place.specs.Tables.{AddsInstance, AddsInvocation, Shows, calls_from, calls_of, grown, instance_of, listed, made_signature, meant_signature, times_of, times_shown}
use Rattle.fil_place.specs.Times.{AreTimes}
use Rattle.fil_place.specs.declared.earlier.Earlier.{Earlier}
use Rattle.fil_place.specs.declared.tables.Made.{Made}
use Rattle.fil_place.specs.declared.tables.Tables.{Tables}
use Rattle.fil_place.specs.declared.times.Offset.{Offset}
use Rattle.fil_place.proofs.InvocationLemmas.{instance_listed_of, no_calls}

-- what follows where there was memory
pub on_ok : {X E P Q : Type 0} (r : Result X E) → OnOk r P → (P → Q) → OnOk r Q
on_ok (Ok x) p then = then p
on_ok (Err e) p then = tt

pub on_ok_all : {X E P : Type 0} (r : Result X E) → P → OnOk r P
on_ok_all (Ok x) p = p
on_ok_all (Err e) p = tt

pub on_ok_both : {X E P Q R : Type 0} (r : Result X E) → OnOk r P → OnOk r Q → (P → Q → R) → OnOk r R
on_ok_both (Ok x) p q then = then p q
on_ok_both (Err e) p q then = tt

-- invocations keep their instances where instances are added
kept_instances : (listed more : List Text) (ns : List ℕ) (vs : List Invocation) → map (slice_get listed) ns ≡ map instance_of vs → map (slice_get (listed ++ more)) ns ≡ map instance_of vs
kept_instances listed more [] [] e = refl
kept_instances listed more [] (v ∷ vs) e = absurd (cc)
kept_instances listed more (n ∷ ns) [] e = absurd (cc)
kept_instances listed more (n ∷ ns) (v ∷ vs) e =
    let head : slice_get listed n ≡ Some v.inst = cc in
    let tail : map (slice_get listed) ns ≡ map instance_of vs = cc in
    ap₂ ◌∷◌ (KeepsTexts-append listed more n v.inst head) (kept_instances listed more ns vs tail)

-- a call put last among those of an instance
pub call_put : (os : List (Vec ℕ Global)) (n m : ℕ) (x y : Vec ℕ Global) → n < length os → x ≡ get_or os n x → y.items ≡ x.items ++ m ∷ [] → map listed (set os n y) ≡ set (map listed os) n (get_or (map listed os) n [] ++ m ∷ [])
call_put os n m x y within is put =
    map-set listed os n y ∙ ap (set (map listed os) n) (put ∙ ap (λ ns. ns ++ m ∷ []) (ap listed is ∙ sym (get_or-map listed os n x [] within)))

-- the calls of an instance, with one more invocation
calls_more : (k : ℕ) (name : Text) (vs : List Invocation) (v : Invocation) → v.inst ≡ name → calls_from k name (vs ++ v ∷ []) ≡ calls_from k name vs ++ (k + length vs) ∷ []
calls_more k name [] v same =
    let here : k ≡ k + 0 = omega arith in
    ap (λ (b : Bool). cond b (k ∷ []) []) ((bytes_eq-Decides v.inst name).1 same) ∙ ap (λ n. n ∷ []) here
calls_more k name (w ∷ vs) v same = by (bytes_eq w.inst name) refl (calls_more (suc k) name vs v same)
  where
    count : suc k + length vs ≡ k + length (w ∷ vs)
    count = omega arith

    by : (b : Bool) → bytes_eq w.inst name ≡ b → calls_from (suc k) name (vs ++ v ∷ []) ≡ calls_from (suc k) name vs ++ (suc k + length vs) ∷ [] → calls_from k name (w ∷ vs ++ v ∷ []) ≡ calls_from k name (w ∷ vs) ++ (k + length (w ∷ vs)) ∷ []
    by true is rest =
        ap (λ (b : Bool). cond b (k ∷ calls_from (suc k) name (vs ++ v ∷ [])) (calls_from (suc k) name (vs ++ v ∷ []))) is ∙ ap (λ ns. k ∷ ns) (rest ∙ ap (λ n. calls_from (suc k) name vs ++ n ∷ []) count)
        ∙ ap (λ ns. ns ++ (k + length (w ∷ vs)) ∷ []) (sym (ap (λ (b : Bool). cond b (k ∷ calls_from (suc k) name vs) (calls_from (suc k) name vs)) is))
    by false is rest =
        ap (λ (b : Bool). cond b (k ∷ calls_from (suc k) name (vs ++ v ∷ [])) (calls_from (suc k) name (vs ++ v ∷ []))) is ∙ rest ∙ ap (λ n. calls_from (suc k) name vs ++ n ∷ []) count
        ∙ ap (λ ns. ns ++ (k + length (w ∷ vs)) ∷ []) (sym (ap (λ (b : Bool). cond b (k ∷ calls_from (suc k) name vs) (calls_from (suc k) name vs)) is))

calls_same : (k : ℕ) (name : Text) (vs : List Invocation) (v : Invocation) → (v.inst ≡ name → ⊥) → calls_from k name (vs ++ v ∷ []) ≡ calls_from k name vs
calls_same k name [] v apart = ap (λ (b : Bool). cond b (k ∷ []) []) (false_from_ne_true (bytes_eq v.inst name) (λ same. apart ((bytes_eq-Decides v.inst name).0 same)))
calls_same k name (w ∷ vs) v apart =
    ap (λ ns. cond (bytes_eq w.inst name) (k ∷ ns) ns) (calls_same (suc k) name vs v apart)

later_names : (name : Text) (names : List Text) → AreDistinct (name ∷ names) → AreDistinct names
later_names name names distinct i j d before within = distinct (suc i) (suc j) d (omega arith) (omega arith)

-- those of other instances stay
calls_kept : (is : List Instance) (vs : List Invocation) (v : Invocation) → ((i : Instance) → Contains is i → v.inst ≡ i.name → ⊥) → map (calls_of (vs ++ v ∷ [])) is ≡ map (calls_of vs) is
calls_kept [] vs v apart = refl
calls_kept (i ∷ is) vs v apart =
    ap₂ ◌∷◌ (calls_same 0 i.name vs v (apart i (zero, omega arith, refl))) (calls_kept is vs v (λ j (k, within, same). apart j (suc k, omega arith, same)))

-- the calls of all instances, with one more of the instance with this number
calls_set : (is : List Instance) (vs : List Invocation) (v : Invocation) (n : ℕ) → AreDistinct (instance_names is) → slice_get (instance_names is) n ≡ Some v.inst
    → map (calls_of (vs ++ v ∷ [])) is ≡ set (map (calls_of vs) is) n (get_or (map (calls_of vs) is) n [] ++ length vs ∷ [])
calls_set [] vs v n distinct at = absurd (none-some v.inst at)
calls_set (i ∷ is) vs v zero distinct at =
    let same : v.inst ≡ i.name = sym (same_Some i.name v.inst at) in
    ap₂ ◌∷◌ (calls_more 0 i.name vs v same ∙ ap (λ n. calls_from 0 i.name vs ++ n ∷ []) (zero-add (length vs))) (calls_kept is vs v (λ j (k, within, here) named.
    let names = instance_names is in
    let below : k < length names = omega (arith, length-map is (λ (i : Instance). i.name)) in
    let there : get_or (map (λ (i : Instance). i.name) is) k i.name ≡ j.name = get_or-map (λ (i : Instance). i.name) is k j i.name within ∙ ap (λ (i : Instance). i.name) here in
    distinct 0 (suc k) i.name (omega arith) (omega arith) (sym same ∙ named ∙ sym there)))
calls_set (i ∷ is) vs v (suc n) distinct at =
    let below = slice_get_within (instance_names is) n v.inst at in
    let apart : v.inst ≡ i.name → ⊥ = λ same. distinct 0 (suc n) v.inst (omega arith) (omega arith) (sym same ∙ sym (get_or_from_slice_get (instance_names is) n v.inst v.inst at)) in
    ap₂ ◌∷◌ (calls_same 0 i.name vs v apart) (calls_set is vs v n (later_names i.name (instance_names is) distinct) at)

abbrev plus_instance : Scope → Instance → Scope
plus_instance scope i = record { comps = scope.comps; comp = scope.comp; instances = scope.instances ++ i ∷ []; invocations = scope.invocations }

abbrev plus_invocation : Scope → Invocation → Scope
plus_invocation scope v = record { comps = scope.comps; comp = scope.comp; instances = scope.instances; invocations = scope.invocations ++ v ∷ [] }

module _ (earlier : Earlier) (old new : Tables) (scope : Scope) (shown : Shows earlier old scope) where
  shows_instance : (i : Instance) (m : Made) → AddsInstance old new i.name m → (Contains old.instances i.name → ⊥) → made_signature earlier m ≡ signature_in scope.comps i.made i.params → Shows earlier new (plus_instance scope i)
  shows_instance i m adds absent signed = record {
    components = shown.components;
    events = adds.events ∙ shown.events;
    ports = adds.ports ∙ shown.ports;
    instances = adds.instances ∙ ap (λ ts. ts ++ i.name ∷ []) shown.instances ∙ sym named;
    distinct =
        (let D : List Text → Type 0 = AreDistinct in
        subst D (sym named) (AreDistinct-push (instance_names scope.instances) i.name shown.distinct (λ there. absent (subst (λ (ts : List Text). Contains ts i.name) (sym shown.instances) there))));
    made =
        ap (map (made_signature earlier)) adds.made_of ∙ map-append (made_signature earlier) old.made.items (m ∷ [])
        ∙ ap₂ (λ os o. os ++ o ∷ []) shown.made signed ∙ sym (map-append (meant_signature scope.comps) scope.instances (i ∷ []));
    invoked =
        ap₂ (λ (ts : List Text) ns. map (slice_get ts) ns) adds.instances adds.invoked
        ∙ kept_instances old.instances (i.name ∷ []) old.invoked.items scope.invocations shown.invoked;
    times = ap₂ (λ (ts : List Text) (os : List (Vec Offset Global)). map (times_shown ts) os) adds.events adds.times ∙ shown.times;
    calls = adds.calls ∙ ap₂ (λ (os : List (List ℕ)) o. os ++ o ∷ []) shown.calls (sym uncalled) ∙ sym (map-append (calls_of scope.invocations) scope.instances (i ∷ []));
  }
    where
      uncalled : calls_of scope.invocations i ≡ []
      uncalled = no_calls 0 i.name scope.invocations (λ v there same.
          absent (subst (λ (t : Text). Contains old.instances t) same (subst (λ (ts : List Text). Contains ts v.inst) (sym shown.instances) (instance_listed_of earlier old scope shown v there))))

      named : instance_names (scope.instances ++ i ∷ []) ≡ instance_names scope.instances ++ i.name ∷ []
      named = map-append (λ (i : Instance). i.name) scope.instances (i ∷ [])

  shows_invocation : (v : Invocation) (n : ℕ) (at : Vec Offset Global) → AddsInvocation old new v.name n at → slice_get old.instances n ≡ Some v.inst → AreTimes old.events at.items v.gives.times → Shows earlier new (plus_invocation scope v)
  shows_invocation v n at adds there given = record {
    components = shown.components;
    events = adds.events ∙ shown.events;
    ports =
        adds.ports ∙ ap (λ ts. ts ++ v.name ∷ []) shown.ports ∙ append_assoc (port_names scope.comp) (invocation_names scope.invocations) (v.name ∷ [])
        ∙ ap (λ ts. port_names scope.comp ++ ts) (sym (map-append (λ (v : Invocation). v.name) scope.invocations (v ∷ [])));
    instances = adds.instances ∙ shown.instances;
    distinct = shown.distinct;
    made = ap (map (made_signature earlier)) adds.made ∙ shown.made;
    invoked =
        ap₂ (λ (ts : List Text) ns. map (slice_get ts) ns) adds.instances adds.invoked
        ∙ map-append (slice_get old.instances) old.invoked.items (n ∷ [])
        ∙ ap₂ (λ os o. os ++ o ∷ []) shown.invoked there ∙ sym (map-append instance_of scope.invocations (v ∷ []));
    times =
        ap₂ (λ (ts : List Text) (os : List (Vec Offset Global)). map (times_shown ts) os) adds.events adds.times
        ∙ map-append (times_shown old.events) old.times.items (at ∷ [])
        ∙ ap₂ (λ (os : List (List (Option TimeAt))) o. os ++ o ∷ []) shown.times given ∙ sym (map-append times_of scope.invocations (v ∷ []));
    calls =
        (let invocations = scope.invocations in
        let count : length old.invoked.items ≡ length invocations = sym (length-map old.invoked.items (slice_get old.instances)) ∙ ap length shown.invoked ∙ length-map invocations instance_of in
        let put : List (List ℕ) → ℕ → List (List ℕ) = λ os m. set os n (get_or os n [] ++ m ∷ []) in
        adds.calls ∙ ap₂ put shown.calls count
        ∙ sym (calls_set scope.instances invocations v n shown.distinct (ap (λ (ts : List Text). slice_get ts n) (sym shown.instances) ∙ there)));
  }

  pub grown_new : (name of : Text) (params : List ℕ) (m : Made) → AddsInstance old new name m → (Contains old.instances name → ⊥) → made_signature earlier m ≡ signature_in scope.comps of params → Shows earlier new (grown scope (New name of params))
  grown_new name of params m adds absent signed =
      let i : Instance = record { name = name; made = of; params = params } in
      let S : List Invocation → Type 0 = λ vs. Shows earlier new (record { comps = scope.comps; comp = scope.comp; instances = scope.instances ++ i ∷ []; invocations = vs }) in
      subst S (sym (append-nil scope.invocations)) (shows_instance i m adds absent signed)

  pub grown_call : (name inst : Text) (gives : Giving) (n : ℕ) (at : Vec Offset Global) → AddsInvocation old new name n at → slice_get old.instances n ≡ Some inst → AreTimes old.events at.items gives.times → Shows earlier new (grown scope (Call name inst gives))
  grown_call name inst gives n at adds there given =
      let v : Invocation = record { name = name; inst = inst; gives = gives } in
      let S : List Instance → Type 0 = λ is. Shows earlier new (record { comps = scope.comps; comp = scope.comp; instances = is; invocations = scope.invocations ++ v ∷ [] }) in
      subst S (sym (append-nil scope.instances)) (shows_invocation v n at adds there given)

-- the outputs that are connected after a statement
pub connected_more : (before : List Statement) (s : Statement) (old new : List Text) → old ≡ flat_map connected_at before → new ≡ old ++ connected_at s → new ≡ flat_map connected_at (before ++ s ∷ [])
connected_more before s old new are more =
    more ∙ ap (λ ts. ts ++ connected_at s) are ∙ sym (spread before)
  where
    spread : (before : List Statement) → flat_map connected_at (before ++ s ∷ []) ≡ flat_map connected_at before ++ connected_at s
    spread [] = append-nil (connected_at s)
    spread (t ∷ before) = ap (λ ts. connected_at t ++ ts) (spread before) ∙ sym (append_assoc (connected_at t) (flat_map connected_at before) (connected_at s))

pub connected_same : (before : List Statement) (s : Statement) (old new : List Text) → old ≡ flat_map connected_at before → connected_at s ≡ [] → new ≡ old → new ≡ flat_map connected_at (before ++ s ∷ [])
connected_same before s old new are none same = connected_more before s old new are (same ∙ sym (append-nil old) ∙ ap (λ ts. old ++ ts) (sym none))

-- an instance and its invocation
pub grown_both : (earlier : Earlier) (old mid new : Tables) (scope : Scope) → Shows earlier old scope → (name of : Text) (params : List ℕ) (gives : Giving) (m : Made) (n : ℕ) (at : Vec Offset Global)
    → AddsInstance old mid name m → AddsInvocation mid new name n at → (Contains old.instances name → ⊥) → made_signature earlier m ≡ signature_in scope.comps of params → slice_get mid.instances n ≡ Some name
    → AreTimes old.events at.items gives.times → Shows earlier new (grown scope (Both name of params gives))
grown_both earlier old mid new scope shown name of params gives m n at first second absent signed there given =
    let i : Instance = record { name = name; made = of; params = params } in
    let v : Invocation = record { name = name; inst = name; gives = gives } in
    let T : List Text → Type 0 = λ ts. AreTimes ts at.items gives.times in
    shows_invocation earlier mid new (plus_instance scope i) (shows_instance earlier old mid scope shown i m first absent signed) v n at second there (subst T (sym first.events) given)
