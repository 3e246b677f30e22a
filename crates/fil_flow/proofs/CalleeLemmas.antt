-- What a name with parameters calls: its widths, its outputs' names and its flow.
use Rattle.std.proofs.Common.{◌≡◌, ℕ, ◌-◌, ◌<◌, Bool, true, false, cond, List, [], ◌∷◌, ◌++◌, length, map, filter, reverse, get_or, slice_get, Contains, Option, Some, None, option_map, is_some, refl, sym, ap, ap₂, subst, ◌∙◌, arith}
use Rattle.std.specs.Option.{option_and_then, option_map_or, IsSome}
use Rattle.std.specs.Prelude.{if◌then◌else◌, bytes_eq, codes, slice_index_or}
use Rattle.std.proofs.lemmas.Bool.{false≢true}
use Rattle.std.proofs.lemmas.List.{get_or-reverse, length-reverse, reverse-append, map-append}
use Rattle.std.proofs.lemmas.Option.{none-some, same_Some, slice_get-map, slice_get_within, slice_get-get_or, get_or_from_slice_get}
use Rattle.std.proofs.lemmas.Simd.{map-map}
use Rattle.hw_names.specs.Name.{Text, AreDistinct}
use Rattle.hw_prims.specs.Filament.{is_data_pin}
use Rattle.hw_prims.specs.Table.{IsMade, Pin, pin, inputs_of, outputs_of, pin_widths}
use Rattle.hw_prims.specs.declared.prim.Primitive.{Primitive}
use Rattle.fil_ast.specs.Flow.{Named, component_flow, flow, flow_of, made_flow, primitive_outputs}
use Rattle.fil_ast.specs.Naming.{component_names}
use Rattle.fil_ast.specs.Primitives.{Timing, filament_primitive, input_port, is_filament_primitive, output_port, primitive_signature, signature_by, table_name, timing_of}
use Rattle.fil_ast.specs.Scope.{Instance, bare_signature, component_named, signature_in}
use Rattle.fil_ast.specs.Signature.{SigPort, Signature, component_signature, sig_port}
use Rattle.fil_ast.specs.Tree.{Component, Design}
use Rattle.fil_flow.specs.inside.Body.{IsEarlier, IsCalleeOf, data_names, output_names}
use Rattle.fil_flow.specs.inside.Body as bodies
use Rattle.fil_flow.specs.Plans.{HasShape, Shape, callee_values, primitive_shape}
use Rattle.fil_flow.specs.Shown.{component_shape, flow_at}
use Rattle.fil_flow.specs.declared.earlier.Earlier.{Earlier}
use Rattle.fil_flow.specs.declared.plan.Callee.{Callee}
use Rattle.fil_flow.specs.declared.plan.Callee.TheVariants as callee
use Rattle.fil_flow.proofs.Lookups.{find_at_place, find_nowhere}
use Rattle.fil_flow.proofs.ScopeLemmas.{option_map_some}
use Rattle.fil_flow.proofs.TableLemmas.{filament_flow, one_output}

abbrev pub sig_names : List SigPort → List Text
sig_names ports = map (λ (p : SigPort). p.name) ports

abbrev pub sig_widths : List SigPort → List ℕ
sig_widths ports = map (λ (p : SigPort). p.width) ports

abbrev pub named_names : List Named → List Text
named_names ports = map (λ (p : Named). p.name) ports

abbrev pub named_values : List Named → List ℕ
named_values ports = map (λ (p : Named). p.value) ports

-- the widths of a signature
abbrev pub sig_shape : Signature → Shape
sig_shape sig = record { ins = sig_widths sig.ins; outs = sig_widths sig.outs }

-- what an instance with this signature gives, as a callee
pub record Gives (before : Design) (earlier : Earlier) (callee : Callee) (i : Instance) (sig : Signature) : Type 0 where
  pub shape : HasShape (map component_shape before) callee (sig_shape sig)
  pub outputs : bodies.outputs_of earlier callee ≡ sig_names sig.outs
  pub distinct : AreDistinct (sig_names sig.outs)
  pub names : (args : List ℕ) → named_names (made_flow (flow_of (reverse before)) i args) ≡ sig_names sig.outs
  pub values : (args : List ℕ) → named_values (made_flow (flow_of (reverse before)) i args) ≡ callee_values (flow_at before) callee args

-- ---- a primitive

one_is_distinct : (name : Text) → AreDistinct (name ∷ [])
one_is_distinct name i j d before within same = absurd (omega arith)

module _ (before : Design) (earlier : Earlier) (i : Instance) (prim : Primitive) (is : filament_primitive i.made i.params ≡ Some prim) (made : IsMade prim) where
  abbrev timed : Timing
  timed = timing_of i.made

  is_filament : is_filament_primitive i.made ≡ true
  is_filament = by (table_name i.made) refl
    where
      by : (o : Option Text) → table_name i.made ≡ o → is_some o ≡ true
      by None none = absurd (none-some prim (sym (ap (option_and_then (λ (t : Text). Rattle.hw_prims.specs.Table.prim_of t i.params)) none) ∙ is))
      by (Some t) some = refl

  primitive_signed : signature_in before i.made i.params ≡ Some (signature_by timed prim)
  primitive_signed =
      ap (λ (b : Bool). if b then primitive_signature i.made i.params else option_and_then (bare_signature i.params) (component_named before i.made)) is_filament
      ∙ ap (option_map (signature_by (timing_of i.made))) is

  flow_is : (args : List ℕ) → made_flow (flow_of (reverse before)) i args ≡ primitive_outputs prim args
  flow_is args = ap (λ o. option_map_or (λ (p : Primitive). primitive_outputs p args) o (flow_of (reverse before) i.made args)) is

  input_widths : sig_widths (signature_by timed prim).ins ≡ (primitive_shape prim).ins
  input_widths = map-map (λ (p : SigPort). p.width) input_port (filter is_data_pin (inputs_of prim))

  output_widths : sig_widths (signature_by timed prim).outs ≡ (primitive_shape prim).outs
  output_widths = map-map (λ (p : SigPort). p.width) (output_port timed) (filter is_data_pin (outputs_of prim))

  output_name : sig_names (signature_by timed prim).outs ≡ codes "out" ∷ []
  output_name =
      map-map (λ (p : SigPort). p.name) (output_port timed) (filter is_data_pin (outputs_of prim))
      ∙ ap (map (λ (p : Pin). p.name)) (one_output prim (filament_flow i.made i.params prim is)).1

  primitive_gives : Gives before earlier (callee.Primitive prim) i (signature_by timed prim)
  primitive_gives = record {
    shape = (made, filament_flow i.made i.params prim is, ap₂ (λ (ins outs : List ℕ). record { ins = ins; outs = outs }) input_widths output_widths);
    outputs = sym output_name;
    distinct = (let D : List Text → Type 0 = AreDistinct in subst D (sym output_name) (one_is_distinct (codes "out")));
    names = λ args. ap named_names (flow_is args) ∙ sym output_name;
    values = λ args. ap named_values (flow_is args);
  }

-- ---- a component

no_table_signed : (before : Design) (name : Text) (params : List ℕ) → table_name name ≡ None
    → signature_in before name params ≡ option_and_then (bare_signature params) (component_named before name)
no_table_signed before name params no_table =
    ap (λ (o : Option Text). if is_some o then primitive_signature name params else option_and_then (bare_signature params) (component_named before name)) no_table

-- what no primitive and no component has for its name has no signature
pub unknown : (before : Design) (name : Text) (params : List ℕ) → table_name name ≡ None → (Contains (component_names before) name → ⊥) → IsSome (signature_in before name params) → ⊥
unknown before name params no_table absent is =
    let none = no_table_signed before name params no_table ∙ ap (option_and_then (bare_signature params)) (find_nowhere (λ (c : Component). c.name) before name absent) in
    absurd (false≢true (sym (ap is_some none) ∙ is))

distinct_back : (names : List Text) → AreDistinct names → AreDistinct (reverse names)
distinct_back names distinct i j d before within same =
    let long : length (reverse names) ≡ length names = length-reverse names in
    let at_i = get_or-reverse names i d (omega arith) in
    let at_j = get_or-reverse names j d (omega arith) in
    distinct (length names - 1 - j) (length names - 1 - i) d (omega arith) (omega arith) (sym at_j ∙ sym same ∙ at_i)

map_reverse : {X Y : Type 0} (f : X → Y) (xs : List X) → map f (reverse xs) ≡ reverse (map f xs)
map_reverse f [] = refl
map_reverse f (x ∷ xs) =
    ap (map f) (reverse-append (x ∷ []) xs) ∙ map-append f (reverse xs) (x ∷ []) ∙ ap (λ ys. ys ++ f x ∷ []) (map_reverse f xs) ∙ sym (reverse-append (f x ∷ []) (map f xs))

-- where the latest component stands first, each is found by its name too
found_back : (comps : Design) (name : Text) (n : ℕ) (c : Component) → AreDistinct (component_names comps) → slice_get comps n ≡ Some c
    → c.name ≡ name → component_named (reverse comps) name ≡ Some c
found_back comps name n c distinct at named =
    let D : List Text → Type 0 = AreDistinct in
    let within = slice_get_within comps n c at in
    let long : length (reverse comps) ≡ length comps = length-reverse comps in
    let k : ℕ = length comps - 1 - n in
    let below : k < length (reverse comps) = omega arith in
    let again : length comps - 1 - k ≡ n = omega arith in
    let at_k : slice_get (reverse comps) k ≡ Some c =
    slice_get-get_or (reverse comps) k c below ∙ ap Some (get_or-reverse comps k c (omega arith) ∙ ap (λ (m : ℕ). get_or comps m c) again ∙ get_or_from_slice_get comps n c c at) in
    let name_of : Component → Text = λ c. c.name in
    find_at_place name_of (reverse comps) name k
    (subst D (sym (map_reverse name_of comps)) (distinct_back (component_names comps) distinct))
    (slice_get-map name_of (reverse comps) k ∙ ap (option_map name_of) at_k ∙ ap Some named)
    ∙ at_k

flow_named : (comps : List Component) (name : Text) (c : Component) (args : List ℕ) → component_named comps name ≡ Some c → named_names (flow_of comps name args) ≡ output_names c
flow_named [] name c args found = absurd (none-some c found)
flow_named (d ∷ comps) name c args found = by (bytes_eq d.name name) (λ later. flow_named comps name c args later) found
  where
    by : (b : Bool) → (component_named comps name ≡ Some c → named_names (flow_of comps name args) ≡ output_names c) → cond b (Some d) (component_named comps name) ≡ Some c
        → named_names (if b then component_flow (flow_of comps) d args else flow_of comps name args) ≡ output_names c
    by true later here =
        map-map (λ (p : Named). p.name) _ d.outs ∙ ap output_names (same_Some d c here)
    by false later there = later there

module _ (before : Design) (earlier : Earlier) (known : IsEarlier before earlier) (i : Instance) (n : ℕ) (no_table : table_name i.made ≡ None) (at : slice_get earlier.names n ≡ Some i.made) where
  no_primitive : filament_primitive i.made i.params ≡ None
  no_primitive = ap (option_and_then (λ (t : Text). Rattle.hw_prims.specs.Table.prim_of t i.params)) no_table

  component_signed : signature_in before i.made i.params ≡ option_and_then (bare_signature i.params) (component_named before i.made)
  component_signed = no_table_signed before i.made i.params no_table

  bare : (params : List ℕ) (c : Component) (sig : Signature) → bare_signature params c ≡ Some sig → component_signature c ≡ sig
  bare [] c sig is = same_Some (component_signature c) sig is
  bare (p ∷ params) c sig is = absurd (none-some sig is)

  name_at : slice_get (component_names before) n ≡ Some i.made
  name_at = ap (λ (ts : List Text). slice_get ts n) (sym known.names) ∙ at

  component_at : (c : Component) × (slice_get before n ≡ Some c) × (c.name ≡ i.made)
  component_at = option_map_some (λ (c : Component). c.name) (slice_get before n) i.made (sym (slice_get-map (λ (c : Component). c.name) before n) ∙ name_at) (λ c here named. (c, here, named))

  module _ (c : Component) (here : slice_get before n ≡ Some c) (named : c.name ≡ i.made) where
    found : component_named before i.made ≡ Some c
    found = find_at_place (λ (c : Component). c.name) before i.made n known.distinct name_at ∙ here

    flow_is' : (args : List ℕ) → made_flow (flow_of (reverse before)) i args ≡ flow_of (reverse before) i.made args
    flow_is' args = ap (λ o. option_map_or (λ (p : Primitive). primitive_outputs p args) o (flow_of (reverse before) i.made args)) no_primitive

    names_of : sig_names (component_signature c).outs ≡ output_names c
    names_of = map-map (λ (p : SigPort). p.name) (sig_port c.events) c.outs

    shape_of : component_shape c ≡ sig_shape (component_signature c)
    shape_of =
        ap₂ (λ (ins outs : List ℕ). record { ins = ins; outs = outs })
        (sym (map-map (λ (p : SigPort). p.width) (sig_port c.events) c.ins)) (sym (map-map (λ (p : SigPort). p.width) (sig_port c.events) c.outs))

    component_gives : Gives before earlier (callee.Component n) i (component_signature c)
    component_gives = record {
      shape = slice_get-map component_shape before n ∙ ap (option_map component_shape) here ∙ ap Some shape_of;
      outputs =
          ap (λ (os : List (List Text)). slice_index_or os n []) known.outs
          ∙ get_or_from_slice_get (map output_names before) n (output_names c) [] (slice_get-map output_names before n ∙ ap (option_map output_names) here)
          ∙ sym names_of;
      distinct =
          (let D : List Text → Type 0 = AreDistinct in
          subst D (ap output_names (get_or_from_slice_get before n c c here) ∙ sym names_of) (known.distinct_outs n c (slice_get_within before n c here)));
      names = λ args. ap named_names (flow_is' args) ∙ flow_named (reverse before) i.made c args (found_back before i.made n c known.distinct here named) ∙ sym names_of;
      values = λ args.
          ap named_values (flow_is' args)
          ∙ ap (λ (t : Text). named_values (flow_of (reverse before) t args)) (sym named)
          ∙ sym (ap (λ o. option_map_or (λ (c : Component). flow before c args) o []) here);
    }

    is_signature : (sig : Signature) → signature_in before i.made i.params ≡ Some sig → component_signature c ≡ sig
    is_signature sig signed = bare i.params c sig (sym (component_signed ∙ ap (option_and_then (bare_signature i.params)) found) ∙ signed)

pub gives : (before : Design) (earlier : Earlier) (callee : Callee) (i : Instance) (sig : Signature) → IsEarlier before earlier → IsCalleeOf earlier i callee
    → signature_in before i.made i.params ≡ Some sig → Gives before earlier callee i sig
gives before earlier (callee.Primitive prim) i sig known (is, made) signed =
    let same = same_Some (signature_by (timing_of i.made) prim) sig (sym (primitive_signed before earlier i prim is made) ∙ signed) in
    let G : Signature → Type 0 = Gives before earlier (callee.Primitive prim) i in
    subst G same (primitive_gives before earlier i prim is made)
gives before earlier (callee.Component n) i sig known (no_table, at) signed =
    let (c, here, named) = component_at before earlier known i n no_table at in
    let G : Signature → Type 0 = Gives before earlier (callee.Component n) i in
    subst G (is_signature before earlier known i n no_table at c here named sig signed) (component_gives before earlier known i n no_table at c here named)
