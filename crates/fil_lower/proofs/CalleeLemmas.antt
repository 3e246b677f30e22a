-- What an instance promises is the flow of what it is made of, at the outputs of its signature.
use Rattle.std.proofs.Common.{◌≡◌, ℕ, Bool, true, false, cond, List, [], ◌∷◌, length, map, reverse, get_or, All, Option, Some, None, option_map, refl, sym, ap, subst, ◌∙◌, is_some}
use Rattle.std.specs.Option.{IsSome, option_and_then, option_map_or}
use Rattle.std.specs.Prelude.{Contains, bytes_eq, codes, if◌then◌else◌}
use Rattle.std.proofs.lemmas.Bool.{false≢true}
use Rattle.std.proofs.lemmas.List.{reverse-reverse}
use Rattle.std.proofs.lemmas.List.Elements.{All-contains, All-map, Contains-get_or}
use Rattle.std.proofs.lemmas.Option.{none-some, option_and_then_some, same_Some}
use Rattle.std.proofs.lemmas.Simd.{map-map}
use Rattle.hw_names.specs.Name.{Text, AreDistinct}
use Rattle.hw_prims.specs.Filament.{behaviour_of, data_inputs, data_outputs, needed}
use Rattle.hw_prims.specs.Filament as filament
use Rattle.hw_prims.specs.Table.{Pin, pin, pin_names, prim_of}
use Rattle.hw_prims.specs.Timed.{Behaviour, TimedPort, Values}
use Rattle.hw_prims.specs.declared.prim.Primitive.{Primitive}
use Rattle.fil_ast.specs.Behaviours.{component_behaviour, timed_port}
use Rattle.fil_ast.specs.Flow.{Named, component_flow, flow_of, made_flow, primitive_outputs, value_named}
use Rattle.fil_ast.specs.Naming.{component_names}
use Rattle.fil_ast.specs.Primitives.{Timing, filament_primitive, input_port, output_port, primitive_signature, signature_by, table_name, timing_of}
use Rattle.fil_ast.specs.Scope.{Instance, bare_signature, component_named, sig_port_named, signature_in}
use Rattle.fil_ast.specs.Signature.{SigPort, Signature, component_signature, sig_port}
use Rattle.fil_ast.specs.Tree.{Component, DataPort, Design}
use Rattle.fil_share.proofs.CalleeLemmas.{named_among}
use Rattle.fil_lower.specs.inside.PlanOf.{behaviour_made, behaviour_named}
use Rattle.fil_lower.proofs.NameLemmas.{found_back, from_map, given_each, given_to, map_agree, same_element, sig_names}
use Rattle.fil_lower.proofs.PrimitiveLemmas.{inputs_distinct, one_output}
use Rattle.fil_lower.proofs.TimingLemmas.{filament_is_timed}

-- among components with the latest first, what the one of a name gives and promises
pub record IsFirst (comps : List Component) (name : Text) (c : Component) : Type 0 where
  pub before : List Component
  pub flow : (args : List ℕ) → flow_of comps name args ≡ component_flow (flow_of before) c args
  pub behaviour : behaviour_named comps name ≡ component_behaviour (reverse before) c

pub is_first : (comps : List Component) (name : Text) (c : Component) → component_named comps name ≡ Some c → IsFirst comps name c
is_first [] name c is = absurd (none-some c is)
is_first (d ∷ comps) name c is = by (bytes_eq d.name name) refl is (is_first comps name c)
  where
    by : (b : Bool) → bytes_eq d.name name ≡ b → cond b (Some d) (component_named comps name) ≡ Some c → (component_named comps name ≡ Some c → IsFirst comps name c) → IsFirst (d ∷ comps) name c
    by true here e later =
        subst (λ (x : Component). IsFirst (d ∷ comps) name x) (same_Some d c e) (record {
          before = comps;
          flow = λ args. ap (λ (b : Bool). if b then component_flow (flow_of comps) d args else flow_of comps name args) here;
          behaviour = ap (λ (b : Bool). if b then component_behaviour (reverse comps) d else behaviour_named comps name) here;
        })
    by false there e later =
        let m = later e in record {
          before = m.before;
          flow = λ args. ap (λ (b : Bool). if b then component_flow (flow_of comps) d args else flow_of comps name args) there ∙ m.flow args;
          behaviour = ap (λ (b : Bool). if b then component_behaviour (reverse comps) d else behaviour_named comps name) there ∙ m.behaviour;
        }

-- a behaviour is the flow of an instance of this signature
pub record IsPromised (b : Behaviour) (sig : Signature) (gives : List ℕ → List Named) : Type 0 where
  -- on values by name that are those by position
  pub flow : (xs : List ℕ) → length xs ≡ length sig.ins → (values : Values) → ((name : Text) → values name ≡ given_to sig.ins xs name) →
      (port : Text) → IsSome (sig_port_named sig.outs port) → value_named (gives xs) port ≡ b.flow values port
  -- an input goes by the same event
  pub ins : (p : TimedPort) → Contains b.sig.ins p → All (λ (q : SigPort). q.name ≡ p.name → q.from.event ≡ p.event) sig.ins

-- values by name, read in the order of the inputs
values_in_order : (sig : Signature) (xs : List ℕ) (values : Values) → AreDistinct (sig_names sig.ins) → length xs ≡ length sig.ins → ((name : Text) → values name ≡ given_to sig.ins xs name) → map values (sig_names sig.ins) ≡ xs
values_in_order sig xs values distinct long same =
    map_agree values (given_to sig.ins xs) (sig_names sig.ins) (λ name there. same name) ∙ given_each sig.ins xs distinct long

-- ---- a primitive

-- where only one output is known, it is the one that is asked for
only_output : {X : Type 0} (b : Bool) (x : X) (value : ℕ) → IsSome (cond b (Some x) None) → cond b value 0 ≡ value
only_output true x value some = refl
only_output false x value some = absurd (false≢true some)

primitive_promised : (t : Timing) (prim : Primitive) (timed : filament.is_timed prim ≡ true) → IsPromised (behaviour_of prim) (signature_by t prim) (primitive_outputs prim)
primitive_promised t prim timed = record {
  flow = λ xs long values same port some.
      let one = one_output prim timed in
      let seen : IsSome (sig_port_named (map (output_port t) (data_outputs prim)) port) = some in
      let only : IsSome (cond (bytes_eq (codes "out") port) (Some (output_port t (pin (codes "out") one.0))) None) =
      subst (λ (pins : List Pin). IsSome (sig_port_named (map (output_port t) pins) port)) one.1 seen in
      let names : sig_names (signature_by t prim).ins ≡ pin_names (data_inputs prim) = map-map (λ (p : SigPort). p.name) input_port (data_inputs prim) in
      let D : List Text → Type 0 = AreDistinct in
      let ordered : map values (sig_names (signature_by t prim).ins) ≡ xs = values_in_order (signature_by t prim) xs values (subst D (sym names) (inputs_distinct prim)) long same in
      only_output (bytes_eq (codes "out") port) (output_port t (pin (codes "out") one.0)) (filament.primitive_flow prim xs) only
      ∙ ap (filament.primitive_flow prim) (sym (ap (map values) (sym names) ∙ ordered));
  ins = λ p has.
      let m = from_map needed (data_inputs prim) p has in
      All-map (λ (q : SigPort). q.name ≡ p.name → q.from.event ≡ p.event) input_port (data_inputs prim) (λ k d within name. ap (λ (x : TimedPort). x.event) m.2);
}

-- ---- a component

abbrev pub data_names : List DataPort → List Text
data_names ports = map (λ (p : DataPort). p.name) ports

component_promised : (before : List Component) (c : Component) → AreDistinct (data_names c.ins) → IsPromised (component_behaviour (reverse before) c) (component_signature c) (component_flow (flow_of before) c)
component_promised before c distinct = record {
  flow = λ xs long values same port some.
      let names : sig_names (component_signature c).ins ≡ data_names c.ins = map-map (λ (p : SigPort). p.name) (sig_port c.events) c.ins in
      let D : List Text → Type 0 = AreDistinct in
      let ordered : map values (sig_names (component_signature c).ins) ≡ xs = values_in_order (component_signature c) xs values (subst D (sym names) distinct) long same in
      let given : map (λ (p : DataPort). values p.name) c.ins ≡ xs = sym (map-map values (λ (p : DataPort). p.name) c.ins) ∙ ap (map values) (sym names) ∙ ordered in
      ap (λ (ys : List ℕ). value_named (component_flow (flow_of before) c ys) port) (sym given)
      ∙ ap (λ (comps : List Component). value_named (component_flow (flow_of comps) c (map (λ (p : DataPort). values p.name) c.ins)) port) (sym (reverse-reverse before));
  ins = λ p has.
      let m = from_map timed_port (component_signature c).ins p has in
      let n = from_map (sig_port c.events) c.ins m.0 m.1 in
      let is : timed_port (sig_port c.events n.0) ≡ p = ap timed_port n.2 ∙ m.2 in
      All-map (λ (q : SigPort). q.name ≡ p.name → q.from.event ≡ p.event) (sig_port c.events) c.ins (λ k d within named.
      let dp = get_or c.ins k d in
      let one : dp ≡ n.0 = same_element (λ (x : DataPort). x.name) c.ins dp n.0 distinct (Contains-get_or c.ins k d within) n.1 (named ∙ sym (ap (λ (x : TimedPort). x.name) is)) in
      ap (λ (x : DataPort). (sig_port c.events x).from.event) one ∙ ap (λ (x : TimedPort). x.event) is);
}

-- ---- what an instance with a signature is made of

pub bare : (params : List ℕ) (c : Component) (sig : Signature) → bare_signature params c ≡ Some sig → component_signature c ≡ sig
bare [] c sig is = same_Some (component_signature c) sig is
bare (p ∷ params) c sig is = absurd (none-some sig is)

module _ (earlier : Design) (distinct : AreDistinct (component_names earlier)) (ports : All (λ (d : Component). AreDistinct (data_names d.ins)) earlier) (i : Instance) where
  by_primitive : (prim : Primitive) (sig : Signature) → filament_primitive i.made i.params ≡ Some prim → signature_by (timing_of i.made) prim ≡ sig → IsPromised (behaviour_made earlier i) sig (made_flow (flow_of (reverse earlier)) i)
  by_primitive prim sig is same =
      let made = primitive_promised (timing_of i.made) prim (filament_is_timed i.made i.params prim is) in
      let b : behaviour_of prim ≡ behaviour_made earlier i = sym (ap (λ (o : Option Primitive). option_map_or behaviour_of o (behaviour_named (reverse earlier) i.made)) is) in
      let given : (args : List ℕ) → primitive_outputs prim args ≡ made_flow (flow_of (reverse earlier)) i args =
      λ args. sym (ap (λ (o : Option Primitive). option_map_or (λ (p : Primitive). primitive_outputs p args) o (flow_of (reverse earlier) i.made args)) is) in
      let f : primitive_outputs prim ≡ made_flow (flow_of (reverse earlier)) i = λ j args. given args j in
      subst (λ (s : Signature). IsPromised (behaviour_made earlier i) s (made_flow (flow_of (reverse earlier)) i)) same
      (subst (λ (x : Behaviour). IsPromised x (signature_by (timing_of i.made) prim) (made_flow (flow_of (reverse earlier)) i)) b
      (subst (λ (g : List ℕ → List Named). IsPromised (behaviour_of prim) (signature_by (timing_of i.made) prim) g) f made))

  by_component : (c : Component) (sig : Signature) → filament_primitive i.made i.params ≡ None → component_named earlier i.made ≡ Some c → component_signature c ≡ sig → IsPromised (behaviour_made earlier i) sig (made_flow (flow_of (reverse earlier)) i)
  by_component c sig none found same =
      let first = is_first (reverse earlier) i.made c (found_back earlier i.made c distinct found) in
      let made = component_promised first.before c (All-contains (λ (d : Component). AreDistinct (data_names d.ins)) earlier c ports (named_among i.made earlier c found)) in
      let b : component_behaviour (reverse first.before) c ≡ behaviour_made earlier i =
      sym (ap (λ (o : Option Primitive). option_map_or behaviour_of o (behaviour_named (reverse earlier) i.made)) none ∙ first.behaviour) in
      let given : (args : List ℕ) → component_flow (flow_of first.before) c args ≡ made_flow (flow_of (reverse earlier)) i args =
      λ args. sym (ap (λ (o : Option Primitive). option_map_or (λ (p : Primitive). primitive_outputs p args) o (flow_of (reverse earlier) i.made args)) none ∙ first.flow args) in
      let f : component_flow (flow_of first.before) c ≡ made_flow (flow_of (reverse earlier)) i = λ j args. given args j in
      subst (λ (s : Signature). IsPromised (behaviour_made earlier i) s (made_flow (flow_of (reverse earlier)) i)) same
      (subst (λ (x : Behaviour). IsPromised x (component_signature c) (made_flow (flow_of (reverse earlier)) i)) b
      (subst (λ (g : List ℕ → List Named). IsPromised (component_behaviour (reverse first.before) c) (component_signature c) g) f made))

  mapped : (o : Option Primitive) (sig : Signature) → filament_primitive i.made i.params ≡ o → option_map (signature_by (timing_of i.made)) o ≡ Some sig → IsPromised (behaviour_made earlier i) sig (made_flow (flow_of (reverse earlier)) i)
  mapped None sig is signed = absurd (none-some sig signed)
  mapped (Some prim) sig is signed = by_primitive prim sig is (same_Some (signature_by (timing_of i.made) prim) sig signed)

  pub promised : (sig : Signature) → signature_in earlier i.made i.params ≡ Some sig → IsPromised (behaviour_made earlier i) sig (made_flow (flow_of (reverse earlier)) i)
  promised sig signed = by (table_name i.made) refl
    where
      by : (o : Option Text) → table_name i.made ≡ o → IsPromised (behaviour_made earlier i) sig (made_flow (flow_of (reverse earlier)) i)
      by None none =
          option_and_then_some (bare_signature i.params) (component_named earlier i.made) sig
          (sym (ap (λ (o : Option Text). if is_some o then primitive_signature i.made i.params else option_and_then (bare_signature i.params) (component_named earlier i.made)) none) ∙ signed)
          (λ c found is. by_component c sig (ap (option_and_then (λ (t : Text). prim_of t i.params)) none) found (bare i.params c sig is))
      by (Some t) some =
          mapped (filament_primitive i.made i.params) sig refl
          (sym (ap (λ (o : Option Text). if is_some o then primitive_signature i.made i.params else option_and_then (bare_signature i.params) (component_named earlier i.made)) some) ∙ signed)
