-- That a body shows a scope which grows, and what its names are found to be.
use Rattle.std.proofs.Common.{◌≡◌, ◌⊎◌, inl, inr, ℕ, zero, suc, ◌+◌, ◌*◌, ◌-◌, ◌^◌, ◌<◌, ◌≤◌, List, [], ◌∷◌, ◌++◌, length, map, slice_get, Contains, Some, Vec, Global, option_map, is_some, refl, sym, ap, ap₂, subst, ◌∙◌, arith}
use Rattle.std.specs.List.{AllZip}
use Rattle.std.specs.Option.{option_and_then, IsSome}
use Rattle.std.proofs.lemmas.Bool.{false≢true}
use Rattle.std.proofs.lemmas.List.{length-append, length-map, map_push}
use Rattle.std.proofs.lemmas.List.Elements.{All-nil, All-push}
use Rattle.std.proofs.lemmas.Option.{none-some, same_Some, slice_get-map, slice_get_within}
use Rattle.std.proofs.lemmas.Simd.{map-map}
use Rattle.hw_names.specs.Name.{Text, AreDistinct}
use Rattle.hw_names.specs.declared.names.Names.{Names}
use Rattle.fil_ast.specs.Items.{scope_after}
use Rattle.fil_ast.specs.Scope.{Instance, Invocation, Scope, input_of, instance_named, invocation_named, result_of, signature_in}
use Rattle.fil_ast.specs.Signature.{SigPort, sig_port}
use Rattle.fil_ast.specs.Tree.{Component, Design, ValueTree, InputValue, OutputValue}
use Rattle.fil_flow.specs.inside.Body.{Calls, IsBody, IsEarlier, IsCalleeOf, data_names, outputs_from, outputs_of, plus_instance, plus_invocation}
use Rattle.fil_flow.specs.declared.body.Body.{Body}
use Rattle.fil_flow.specs.declared.body.Invoked.{Invoked}
use Rattle.fil_flow.specs.declared.earlier.Earlier.{Earlier}
use Rattle.fil_flow.specs.declared.plan.Callee.{Callee}
use Rattle.fil_flow.proofs.CalleeLemmas.{gives, sig_names}
use Rattle.fil_flow.proofs.Lookups.{find_at_place, find_kept, find_named, find_nowhere}
use Rattle.fil_flow.proofs.PairLemmas.{zip_both, zip_length, zip_push, zip_weaker}
use Rattle.fil_flow.proofs.ScopeLemmas.{output_result, some_of}

-- ---- places of lists that grow

pub get_kept : {X : Type 0} (xs ys : List X) (n : ℕ) (x : X) → slice_get xs n ≡ Some x → slice_get (xs ++ ys) n ≡ Some x
get_kept [] ys n x at = absurd (none-some x at)
get_kept (y ∷ xs) ys zero x at = at
get_kept (y ∷ xs) ys (suc n) x at = get_kept xs ys n x at

get_back : {X : Type 0} (xs ys : List X) (n : ℕ) → n < length xs → slice_get (xs ++ ys) n ≡ slice_get xs n
get_back [] ys n within = absurd (omega arith)
get_back (x ∷ xs) ys zero within = refl
get_back (x ∷ xs) ys (suc n) within = get_back xs ys n (omega arith)

get_after : {X : Type 0} (xs ys : List X) (n : ℕ) → slice_get (xs ++ ys) (length xs + n) ≡ slice_get ys n
get_after [] ys n = let e : 0 + n ≡ n = omega arith in ap (slice_get ys) e
get_after (x ∷ xs) ys n = let e : suc (length xs) + n ≡ suc (length xs + n) = omega arith in ap (slice_get (x ∷ xs ++ ys)) e ∙ get_after xs ys n

get_push : {X : Type 0} (xs : List X) (y : X) (n : ℕ) (x : X) → slice_get (xs ++ y ∷ []) n ≡ Some x → (slice_get xs n ≡ Some x) ⊎ ((n ≡ length xs) × (y ≡ x))
get_push [] y zero x at = inr (refl, same_Some y x at)
get_push [] y (suc n) x at = absurd (none-some x at)
get_push (z ∷ xs) y zero x at = inl at
get_push (z ∷ xs) y (suc n) x at = by (get_push xs y n x at)
  where
    by : (slice_get xs n ≡ Some x) ⊎ ((n ≡ length xs) × (y ≡ x)) → (slice_get xs n ≡ Some x) ⊎ ((suc n ≡ suc (length xs)) × (y ≡ x))
    by (inl there) = inl there
    by (inr (last, same)) = inr (ap suc last, same)

get_last : {X : Type 0} (xs : List X) (y : X) → slice_get (xs ++ y ∷ []) (length xs) ≡ Some y
get_last [] y = refl
get_last (x ∷ xs) y = get_last xs y

-- ---- nothing but inputs, one more instance, one more invocation

pub body_start : (earlier : Earlier) (before : Design) (comp : Component) (body : Body) → IsEarlier before earlier → body.inputs ≡ data_names comp.ins → body.instances ≡ []
    → body.made.items ≡ [] → body.invocations ≡ [] → body.invoked.items ≡ []
    → body.places ≡ length body.inputs → body.places < 2 ^ 32 → IsBody earlier (scope_after before comp []) (map InputValue (data_names comp.ins)) body
body_start earlier before comp body known inputs instances made invocations invoked places few =
    let M : List Callee → Type 0 = AllZip (IsCalleeOf earlier) [] in
    let C : List Invoked → Type 0 = AllZip (Calls earlier []) [] in
    record {
      components = known;
      inputs = inputs;
      instances = instances;
      signed = All-nil (λ (i : Instance). IsSome (signature_in before i.made i.params));
      made = subst M (sym made) tt;
      invocations = invocations;
      invoked = subst C (sym invoked) tt;
      input_places = λ place name at.
          slice_get-map InputValue (data_names comp.ins) place ∙ ap (option_map InputValue) (ap (λ (ts : List Text). slice_get ts place) (sym inputs) ∙ at);
      output_places = λ n k invocation port v at at_v at_k. absurd (none-some invocation (sym (ap (λ (ts : List Text). slice_get ts n) invocations) ∙ at));
      places = places ∙ ap (length {A = Text}) inputs ∙ sym (length-map (data_names comp.ins) InputValue);
      few = omega arith;
      fits = omega arith;
    }

module _ (earlier : Earlier) (scope : Scope) (held : List ValueTree) (old : Body) (known : IsBody earlier scope held old) where
  pub body_instance : (i : Instance) (callee : Callee) (instances : Names) (made : Vec Callee Global) → instances ≡ old.instances ++ i.name ∷ []
      → made.items ≡ old.made.items ++ callee ∷ [] → IsCalleeOf earlier i callee → IsSome (signature_in scope.comps i.made i.params)
      → IsBody earlier (plus_instance scope i) held (record old { instances = instances; made = made })
  body_instance i callee instances made named put is signed =
      let M : List Callee → Type 0 = AllZip (IsCalleeOf earlier) (scope.instances ++ i ∷ []) in
      record {
        components = known.components;
        inputs = known.inputs;
        instances = named ∙ ap (λ ts. ts ++ i.name ∷ []) known.instances ∙ sym (map_push (λ (i : Instance). i.name) scope.instances i);
        signed = All-push (λ (i : Instance). IsSome (signature_in scope.comps i.made i.params)) scope.instances i known.signed signed;
        made = subst M (sym put) (zip_push (IsCalleeOf earlier) scope.instances old.made.items i callee known.made is);
        invocations = known.invocations;
        invoked = zip_weaker (Calls earlier scope.instances) (Calls earlier (scope.instances ++ i ∷ []))
            (λ v w (j, found, made_of). (j, find_kept _ scope.instances (i ∷ []) j found, made_of)) scope.invocations old.invoked.items known.invoked;
        input_places = known.input_places;
        output_places = known.output_places;
        places = known.places;
        few = known.few;
        fits = known.fits;
      }

  -- there are as many invocations as names
  each_invoked : length old.invoked.items ≡ length old.invocations
  each_invoked =
      zip_length (Calls earlier scope.instances) scope.invocations old.invoked.items known.invoked
      ∙ sym (length-map scope.invocations (λ (v : Invocation). v.name)) ∙ ap (length {A = Text}) (sym known.invocations)

  module _ (v : Invocation) (i : Instance) (callee : Callee) (invocations : Names) (invoked : Vec Invoked Global) (places : ℕ)
      (named : invocations ≡ old.invocations ++ v.name ∷ []) (put : invoked.items ≡ old.invoked.items ++ record { callee = callee; first = old.places } ∷ [])
      (count : places ≡ old.places + length (outputs_of earlier callee)) (few : length (outputs_of earlier callee) < 2 ^ 32) (fits : places < 2 ^ 64)
      (found : instance_named scope.instances v.inst ≡ Some i) (is : IsCalleeOf earlier i callee) where
    abbrev more : List ValueTree
    more = outputs_from v.name (outputs_of earlier callee)

    abbrev last : Invoked
    last = record { callee = callee; first = old.places }

    output_places : (n k : ℕ) (invocation port : Text) (w : Invoked) → slice_get invocations n ≡ Some invocation → slice_get invoked.items n ≡ Some w
        → slice_get (outputs_of earlier w.callee) k ≡ Some port → slice_get (held ++ more) (w.first + k) ≡ Some (OutputValue invocation port)
    output_places n k invocation port w at_n at_w at_k = by (get_push old.invocations v.name n invocation (ap (λ (ts : List Text). slice_get ts n) (sym named) ∙ at_n))
      where
        at_last : n ≡ length old.invocations → last ≡ w
        at_last here =
            same_Some last w (sym (ap (λ (ws : List Invoked). slice_get ws n) put
            ∙ ap (slice_get (old.invoked.items ++ last ∷ [])) (here ∙ sym each_invoked) ∙ get_last old.invoked.items last) ∙ at_w)

        by : (slice_get old.invocations n ≡ Some invocation) ⊎ ((n ≡ length old.invocations) × (v.name ≡ invocation))
            → slice_get (held ++ more) (w.first + k) ≡ Some (OutputValue invocation port)
        by (inl there) =
            let within : n < length old.invoked.items = omega (arith, slice_get_within old.invocations n invocation there, each_invoked) in
            let at_old = sym (get_back old.invoked.items (last ∷ []) n within) ∙ ap (λ (ws : List Invoked). slice_get ws n) (sym put) ∙ at_w in
            get_kept held more (w.first + k) (OutputValue invocation port) (known.output_places n k invocation port w there at_old at_k)
        by (inr (here, same)) =
            let is_w = at_last here in
            let first : w.first + k ≡ length held + k = ap (λ (x : Invoked). x.first + k) (sym is_w) ∙ ap (λ (m : ℕ). m + k) known.places in
            let at_port : slice_get (outputs_of earlier callee) k ≡ Some port = ap (λ (x : Invoked). slice_get (outputs_of earlier x.callee) k) is_w ∙ at_k in
            ap (slice_get (held ++ more)) first ∙ get_after held more k
            ∙ slice_get-map (OutputValue v.name) (outputs_of earlier callee) k ∙ ap (option_map (OutputValue v.name)) at_port
            ∙ ap (λ (t : Text). Some (OutputValue t port)) same

    pub body_invocation : IsBody earlier (plus_invocation scope v) (held ++ more) (record old { invocations = invocations; invoked = invoked; places = places })
    body_invocation =
        let C : List Invoked → Type 0 = AllZip (Calls earlier scope.instances) (scope.invocations ++ v ∷ []) in
        record {
          components = known.components;
          inputs = known.inputs;
          instances = known.instances;
          signed = known.signed;
          made = known.made;
          invocations = named ∙ ap (λ ts. ts ++ v.name ∷ []) known.invocations ∙ sym (map_push (λ (v : Invocation). v.name) scope.invocations v);
          invoked = subst C (sym put) (zip_push (Calls earlier scope.instances) scope.invocations old.invoked.items v (record { callee = callee; first = old.places }) known.invoked (i, found, is));
          input_places = λ place name at. get_kept held more place (InputValue name) (known.input_places place name at);
          output_places = output_places;
          places = count ∙ ap₂ ◌+◌ known.places (sym (length-map (outputs_of earlier callee) (OutputValue v.name))) ∙ sym (length-append held more);
          few = (let long : length invocations ≡ length old.invocations + 1 = ap (length {A = Text}) named ∙ length-append old.invocations (v.name ∷ []) in omega (arith, known.few));
          fits = fits;
        }

  -- ---- what names are found to be

  pub instance_unknown : (name : Text) → (Contains old.instances name → ⊥) → IsSome (instance_named scope.instances name) → ⊥
  instance_unknown name absent is =
      let none = find_nowhere (λ (i : Instance). i.name) scope.instances name (λ there. absent (subst (λ (ts : List Text). Contains ts name) (sym known.instances) there)) in
      absurd (false≢true (sym (ap is_some none) ∙ is))

  pub instance_within : (n : ℕ) (name : Text) → slice_get old.instances n ≡ Some name → n < length old.made.items
  instance_within n name at =
      let long =
      zip_length (IsCalleeOf earlier) scope.instances old.made.items known.made
      ∙ sym (length-map scope.instances (λ (i : Instance). i.name)) ∙ ap (length {A = Text}) (sym known.instances) in
      omega (arith, slice_get_within old.instances n name at, long)

  pub instance_made : (n : ℕ) (name : Text) (i : Instance) (callee : Callee) → AreDistinct old.instances → slice_get old.instances n ≡ Some name
      → slice_get old.made.items n ≡ Some callee → instance_named scope.instances name ≡ Some i → IsCalleeOf earlier i callee
  instance_made n name i callee distinct at at_callee found =
      let D : List Text → Type 0 = AreDistinct in
      let at_i =
      sym (find_at_place (λ (i : Instance). i.name) scope.instances name n (subst D known.instances distinct)
      (ap (λ (ts : List Text). slice_get ts n) (sym known.instances) ∙ at)) ∙ found in
      zip_both (IsCalleeOf earlier) scope.instances old.made.items n i callee known.made at_i at_callee

  pub invocation_unknown : (name : Text) → (Contains old.invocations name → ⊥) → IsSome (invocation_named scope.invocations name) → ⊥
  invocation_unknown name absent is =
      let none = find_nowhere (λ (v : Invocation). v.name) scope.invocations name (λ there. absent (subst (λ (ts : List Text). Contains ts name) (sym known.invocations) there)) in
      absurd (false≢true (sym (ap is_some none) ∙ is))

  pub invocation_within : (n : ℕ) (name : Text) → slice_get old.invocations n ≡ Some name → n < length old.invoked.items
  invocation_within n name at = omega (arith, slice_get_within old.invocations n name at, each_invoked)

  pub invocation_calls : (n : ℕ) (name : Text) (v : Invocation) (w : Invoked) → AreDistinct old.invocations → slice_get old.invocations n ≡ Some name
      → slice_get old.invoked.items n ≡ Some w → invocation_named scope.invocations name ≡ Some v → Calls earlier scope.instances v w
  invocation_calls n name v w distinct at at_w found =
      let D : List Text → Type 0 = AreDistinct in
      let at_v =
      sym (find_at_place (λ (v : Invocation). v.name) scope.invocations name n (subst D known.invocations distinct)
      (ap (λ (ts : List Text). slice_get ts n) (sym known.invocations) ∙ at)) ∙ found in
      zip_both (Calls earlier scope.instances) scope.invocations old.invoked.items n v w known.invoked at_v at_w

  pub input_unknown : (name : Text) → (Contains old.inputs name → ⊥) → IsSome (input_of scope name) → ⊥
  input_unknown name absent is =
      let ports = map (sig_port scope.comp.events) scope.comp.ins in
      let names : sig_names ports ≡ old.inputs = map-map (λ (p : SigPort). p.name) (sig_port scope.comp.events) scope.comp.ins ∙ sym known.inputs in
      let none = find_nowhere (λ (p : SigPort). p.name) ports name (λ there. absent (subst (λ (ts : List Text). Contains ts name) names there)) in
      absurd (false≢true (sym (ap is_some none) ∙ is))

  -- a known output is one of its invocation's callee
  pub output_there : (invocation port : Text) (w : Invoked) → IsSome (result_of scope invocation port)
      → ((v : Invocation) → invocation_named scope.invocations invocation ≡ Some v → Calls earlier scope.instances v w) → Contains (outputs_of earlier w.callee) port
  output_there invocation port w is calls =
      let (r, is_r) = some_of (result_of scope invocation port) is in
      let o = output_result scope invocation port r is_r in
      let (i, found, made) = calls o.v o.named in
      let signed : signature_in scope.comps i.made i.params ≡ Some o.sig = sym (ap (option_and_then (λ (i : Instance). signature_in scope.comps i.made i.params)) found) ∙ o.signed in
      let it = gives scope.comps earlier w.callee i o.sig known.components made signed in
      subst (λ (ts : List Text). Contains ts port) (sym it.outputs) (find_named (λ (p : SigPort). p.name) o.sig.outs port r.port o.found)

  pub invocation_known : (invocation port : Text) → IsSome (result_of scope invocation port) → IsSome (invocation_named scope.invocations invocation)
  invocation_known invocation port is =
      let (r, is_r) = some_of (result_of scope invocation port) is in
      ap is_some (output_result scope invocation port r is_r).named

-- fewer than 2 ^ 32 invocations of fewer than 2 ^ 32 outputs each need fewer than 2 ^ 64 places
pub places_fit : (old new : List Text) (name : Text) (places count : ℕ) → new ≡ old ++ name ∷ [] → places ≤ (2 ^ 32 - 1) * (1 + length old) → length new < 2 ^ 32 → count < 2 ^ 32
    → places + count < 2 ^ 64
places_fit old new name places count put few short small =
    let long : length new ≡ length old + 1 = ap (length {A = Text}) put ∙ length-append old (name ∷ []) in
    omega arith
