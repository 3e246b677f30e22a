-- The uses so far of instances are those by their invocations, from statement to statement.
use Rattle.std.proofs.Common.{◌≡◌, ◌+◌, ◌≤◌, ◌<◌, ◌⊎◌, inl, inr, ℕ, List, [], ◌∷◌, ◌++◌, length, length-append, get_or, slice_get, Contains, Option, Some, None, refl, sym, ap, subst, subst₂, ◌∙◌, arith}
use Rattle.std.specs.Option.{IsSome}
use Rattle.std.proofs.lemmas.Bool.{cases_lt}
use Rattle.std.proofs.lemmas.List.{append-nil, length-map, map-append}
use Rattle.std.proofs.lemmas.List.Elements.{Contains-append_left, Contains-append_right}
use Rattle.std.proofs.lemmas.Option.{none-some, same_Some, slice_get_past, slice_get-get_or}
use Rattle.hw_names.specs.Name.{Text, AreDistinct}
use Rattle.hw_names.proofs.NameLemmas.{KeepsTexts-append, same_number}
use Rattle.fil_ast.specs.Naming.{MakesNewNames, instance_names}
use Rattle.fil_ast.specs.Scope.{Scope, Instance, Invocation, instance_signature, instances_at, invocations_at}
use Rattle.fil_ast.specs.Sharing.{IsUseOf}
use Rattle.fil_ast.specs.Signature.{Signature}
use Rattle.fil_ast.specs.Timeline.{IsUse, Use}
use Rattle.fil_ast.specs.Tree.{Connect, Statement, ValueTree}
use Rattle.fil_place.specs.Place.{with_instance}
use Rattle.fil_place.specs.Uses.{IsShownBy}
use Rattle.fil_place.specs.Starts.{AddsUses, IsStart, ListsAllUses, use_at}
use Rattle.fil_place.specs.Tables.{AddsInstance, Shows, grown, made_signature, meant_signature, signature_at}
use Rattle.fil_place.specs.declared.starts.Starts.{Starts}
use Rattle.fil_place.specs.declared.earlier.Earlier.{Earlier}
use Rattle.fil_place.specs.declared.tables.Made.{Made}
use Rattle.fil_place.specs.declared.tables.Tables.{Tables}
use Rattle.fil_place.specs.declared.uses.Use as numbers
use Rattle.fil_place.proofs.InvocationLemmas.{at_of, in_parts, instance_listed_of, signed_with, use_after, use_before}

-- ---- from statement to statement

-- what the uses by the invocation of a statement add
pub record GrowsStarts (scope : Scope) (s : Statement) (old new : Tables) : Type 0 where
  pub kept : (i k start : ℕ) → IsSome (use_at old.starts i k start) → IsSome (use_at new.starts i k start)
  pub has : (v : Invocation) (sig : Signature) (u : Use) (n : ℕ) → Contains (invocations_at s) v → signature_at scope s ≡ Some sig → IsUse sig v.inst v.gives.times u → slice_get new.instances n ≡ Some v.inst
      → IsSome (use_at new.starts n u.event u.at.plus)
  pub are : (i k start : ℕ) (held : numbers.Use) → use_at new.starts i k start ≡ Some held
      → (use_at old.starts i k start ≡ Some held) ⊎ ((v : Invocation) × Contains (invocations_at s) v × (slice_get new.instances i ≡ Some v.inst) × (sig : Signature) × (u : Use) × (signature_at scope s ≡ Some sig) × IsUse sig v.inst v.gives.times u × (u.event ≡ k)
      × (u.at.plus ≡ start) × IsShownBy old.events held u)

-- a statement without an invocation adds none
pub grows_none : (scope : Scope) (s : Statement) (old new : Tables) → invocations_at s ≡ [] → new.starts ≡ old.starts → GrowsStarts scope s old new
grows_none scope s old new none same = record {
  kept = λ i k start some. subst (λ (t : Starts). IsSome (use_at t i k start)) (sym same) some;
  has = λ v sig u n there signed used at_n. absurd (empty v (subst (λ (vs : List Invocation). Contains vs v) none there));
  are = λ i k start held here. inl (subst (λ (t : Starts). use_at t i k start ≡ Some held) same here);
}
  where
    empty : (v : Invocation) → Contains {X = Invocation} [] v → ⊥
    empty v (k, within, at) = omega arith

one_there : (v w : Invocation) → Contains (v ∷ []) w → v ≡ w
one_there v w (k, within, same) =
    let first : slice_get (v ∷ []) k ≡ Some w = slice_get-get_or (v ∷ []) k w within ∙ ap Some same in
    let zero : k ≡ 0 = omega arith in
    same_Some v w (sym (ap (slice_get (v ∷ [])) zero) ∙ first)

-- one with an invocation adds the uses by it
pub grows_one : (scope : Scope) (s : Statement) (old new : Tables) (v : Invocation) (n : ℕ) → invocations_at s ≡ v ∷ [] → AreDistinct new.instances → slice_get new.instances n ≡ Some v.inst
    → AddsUses old.events (signature_at scope s) v.inst v.gives.times n old.starts new.starts → GrowsStarts scope s old new
grows_one scope s old new v n one distinct at_v adds = record {
  kept = adds.kept;
  has = λ w sig u m there signed used at_m.
      (let same = one_there v w (subst (λ (vs : List Invocation). Contains vs w) one there) in
      let its : IsUse sig v.inst v.gives.times u = subst (λ (x : Invocation). IsUse sig x.inst x.gives.times u) (sym same) used in
      let number = same_number new.instances n m v.inst distinct at_v (at_m ∙ ap (λ (x : Invocation). Some x.inst) (sym same)) in
      subst (λ (i : ℕ). IsSome (use_at new.starts i u.event u.at.plus)) number (adds.has sig u signed its));
  are = λ i k start held here. elim (adds.are i k start held here) [
    | inl before ↦ inl before
    | inr (same, sig, u, signed, used, event, plus, shown) ↦
        inr (v, subst (λ (vs : List Invocation). Contains vs v) (sym one) (0, omega arith, refl), ap (slice_get new.instances) same ∙ at_v, sig, u, signed, used, event, plus, shown)
  ];
}

module _ (earlier : Earlier) (old new : Tables) (scope : Scope) (s : Statement) (shown : Shows earlier old scope) (shows : Shows earlier new (grown scope s))
    (signed : (v : Invocation) → Contains (invocations_at s) v → instance_signature (with_instance scope s) v.inst ≡ signature_at scope s) (grows : GrowsStarts scope s old new) (lists : ListsAllUses old scope) where
  known : (v : Invocation) → Contains scope.invocations v → Contains (instance_names scope.instances) v.inst
  known v there = instance_listed_of earlier old scope shown v there

  more : new.instances ≡ old.instances ++ instance_names (instances_at s)
  more =
      shows.instances ∙ map-append (λ (i : Instance). i.name) scope.instances (instances_at s)
      ∙ ap (λ (ts : List Text). ts ++ instance_names (instances_at s)) (sym shown.instances)

  distinct : AreDistinct new.instances
  distinct = subst (λ (ts : List Text). AreDistinct ts) (sym shows.instances) shows.distinct

  in_new : (i : ℕ) (name : Text) → slice_get old.instances i ≡ Some name → slice_get new.instances i ≡ Some name
  in_new i name at = ap (λ (ts : List Text). slice_get ts i) more ∙ KeepsTexts-append old.instances (instance_names (instances_at s)) i name at

  -- an invocation so far is of an instance so far
  in_old : (w : Invocation) → Contains scope.invocations w → (i : ℕ) → slice_get new.instances i ≡ Some w.inst → slice_get old.instances i ≡ Some w.inst
  in_old w there i at =
      let place = at_of old.instances w.inst (subst (λ (ts : List Text). Contains ts w.inst) (sym shown.instances) (known w there)) in
      let same = same_number new.instances place.0 i w.inst distinct (in_new place.0 w.inst place.1) at in
      ap (slice_get old.instances) (sym same) ∙ place.1

  fewer : length old.instances ≤ length new.instances
  fewer = let count = ap length more in omega (arith, count, length-more)
    where
      length-more : length (old.instances ++ instance_names (instances_at s)) ≡ length old.instances + length (instance_names (instances_at s))
      length-more = length-append old.instances (instance_names (instances_at s))

  events : old.events ≡ new.events
  events = shown.events ∙ sym shows.events

  lists_has : (i : ℕ) (name : Text) → slice_get new.instances i ≡ Some name → (w : Invocation) (u : Use) → Contains (grown scope s).invocations w → w.inst ≡ name → IsUseOf (grown scope s) w u → IsSome (use_at new.starts i u.event u.at.plus)
  lists_has i name at w u there named is_u = elim (in_parts scope.invocations (invocations_at s) w there) [
    | inl before ↦
        let at_w : slice_get new.instances i ≡ Some w.inst = at ∙ ap Some (sym named) in
        grows.kept i u.event u.at.plus ((lists.each i w.inst (in_old w before i at_w)).has w u before refl (use_before scope s known w u before is_u))
    | inr now ↦ grows.has w is_u.0 u i now (sym (signed w now) ∙ is_u.1) is_u.2 (at ∙ ap Some (sym named))
  ]

  lists_are : (i : ℕ) (name : Text) → slice_get new.instances i ≡ Some name → (k start : ℕ) (held : numbers.Use) → use_at new.starts i k start ≡ Some held → IsStart new.events (grown scope s) name k start held
  lists_are i name at k start held here = elim (grows.are i k start held here) [
    | inl before ↦ elim (cases_lt i (length old.instances)) [
      | inl within ↦
          let old_name = get_or_there i within in
          let same = same_Some old_name.0 name (sym (in_new i old_name.0 old_name.1) ∙ at) in
          let b = (lists.each i old_name.0 old_name.1).are k start held before in
          record {
            invocation = b.invocation;
            is_earlier = Contains-append_left scope.invocations (invocations_at s) b.invocation b.is_earlier;
            named = b.named ∙ same;
            use_then = b.use_then;
            triggered = use_after scope s known b.invocation b.use_then b.is_earlier b.triggered;
            same_event = b.same_event;
            starts = b.starts;
            shown = subst (λ (ts : List Text). IsShownBy ts held b.use_then) events b.shown;
          }
      | inr past ↦ absurd (none-some held (sym (lists.past i k start past) ∙ before))
    ]
    | inr (v, there, at_v, sig, u, is_sig, used, event, plus, shown_u) ↦
        record {
          invocation = v;
          is_earlier = Contains-append_right scope.invocations (invocations_at s) v there;
          named = same_Some v.inst name (sym at_v ∙ at);
          use_then = u;
          triggered = (sig, signed v there ∙ is_sig, used);
          same_event = event;
          starts = plus;
          shown = subst (λ (ts : List Text). IsShownBy ts held u) events shown_u;
        }
  ]
    where
      get_or_there : (i : ℕ) → i < length old.instances → (name : Text) × (slice_get old.instances i ≡ Some name)
      get_or_there i within = (get_or old.instances i [], slice_get-get_or old.instances i [] within)

  lists_past : (i k start : ℕ) → length new.instances ≤ i → use_at new.starts i k start ≡ None
  lists_past i k start past = by (use_at new.starts i k start) refl
    where
      by : (o : Option numbers.Use) → use_at new.starts i k start ≡ o → use_at new.starts i k start ≡ None
      by None e = e
      by (Some held) e = elim (grows.are i k start held e) [
        | inl before ↦ absurd (let far : length old.instances ≤ i = omega (arith, fewer) in none-some held (sym (lists.past i k start far) ∙ before))
        | inr (v, there, at_v, sig, u, is_sig, used, event, plus, shown_u) ↦ absurd (none-some v.inst (sym (slice_get_past new.instances i past) ∙ at_v))
      ]

  pub lists_grown : ListsAllUses new (grown scope s)
  lists_grown = record {
    each = λ i name at. record { has = λ w u there named is_u. lists_has i name at w u there named is_u; are = λ k start held here. lists_are i name at k start held here };
    past = λ i k start past. lists_past i k start past;
  }

module _ (earlier : Earlier) (old new : Tables) (scope : Scope) (s : Statement) (shown : Shows earlier old scope) (fresh : MakesNewNames scope s) (shows : Shows earlier new (grown scope s)) (lists : ListsAllUses old scope) where
  pub lists_none : invocations_at s ≡ [] → new.starts ≡ old.starts → ListsAllUses new (grown scope s)
  lists_none none same =
      lists_grown earlier old new scope s shown shows (signed_with scope s fresh) (grows_none scope s old new none same) lists

  pub lists_one : (v : Invocation) (n : ℕ) → invocations_at s ≡ v ∷ [] → slice_get new.instances n ≡ Some v.inst → AddsUses old.events (signature_at scope s) v.inst v.gives.times n old.starts new.starts → ListsAllUses new (grown scope s)
  lists_one v n one at_v adds =
      let named : AreDistinct new.instances = subst (λ (ts : List Text). AreDistinct ts) (sym shows.instances) shows.distinct in
      lists_grown earlier old new scope s shown shows (signed_with scope s fresh) (grows_one scope s old new v n one named at_v adds) lists

-- a connection adds none
pub lists_connect : (old new : Tables) (scope : Scope) (output : Text) (value : ValueTree) → new.instances ≡ old.instances → new.starts ≡ old.starts → new.events ≡ old.events → ListsAllUses old scope → ListsAllUses new (grown scope (Connect output value))
lists_connect old new scope output value instances starts events lists =
    subst₂ (λ (is : List Instance) (vs : List Invocation). ListsAllUses new (record { comps = scope.comps; comp = scope.comp; instances = is; invocations = vs })) (sym (append-nil scope.instances)) (sym (append-nil scope.invocations))
    (record {
      each = λ i inst at.
          (let l = lists.each i inst (subst (λ (ts : List Text). slice_get ts i ≡ Some inst) instances at) in
          record {
            has = λ w u there named is_u. subst (λ (t : Starts). IsSome (use_at t i u.event u.at.plus)) (sym starts) (l.has w u there named is_u);
            are = λ k start held here. subst (λ (ts : List Text). IsStart ts scope inst k start held) (sym events) (l.are k start held (subst (λ (t : Starts). use_at t i k start ≡ Some held) starts here));
          });
      past = λ i k start past.
          subst (λ (t : Starts). use_at t i k start ≡ None) (sym starts) (lists.past i k start (subst (λ (ts : List Text). length ts ≤ i) instances past));
    })

-- what a new instance is made of stands last
pub made_last : (earlier : Earlier) (old mid : Tables) (scope : Scope) → Shows earlier old scope → (name : Text) (m : Made) → AddsInstance old mid name m → (n : ℕ) → slice_get mid.instances n ≡ Some name → n ≡ length old.instances → slice_get mid.made.items n ≡ Some m
made_last earlier old mid scope shown name m adds n at last =
    let made : length old.made.items ≡ length scope.instances = sym (length-map old.made.items (made_signature earlier)) ∙ ap length shown.made ∙ length-map scope.instances (meant_signature scope.comps) in
    let named : length old.instances ≡ length scope.instances = ap length shown.instances ∙ length-map scope.instances (λ (i : Instance). i.name) in
    let count : n ≡ length old.made.items = omega arith in
    ap (slice_get mid.made.items) count ∙ ap (λ (ms : List Made). slice_get ms (length old.made.items)) adds.made_of ∙ last_made old.made.items m
  where
    last_made : (ms : List Made) (m : Made) → slice_get (ms ++ m ∷ []) (length ms) ≡ Some m
    last_made [] m = refl
    last_made (x ∷ ms) m = last_made ms m
