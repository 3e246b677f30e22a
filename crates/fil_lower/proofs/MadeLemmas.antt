-- What the instances of a component that keeps the rules are made of; their names differ.
use Rattle.std.proofs.Common.{◌≡◌, ◌⊎◌, ℕ, ◌<◌, Bool, List, [], ◌∷◌, map, take, get_or, slice_get, All, Option, Some, None, option_map, is_some, refl, sym, ap, ◌∙◌, inl, inr, arith}
use Rattle.std.specs.List.{find}
use Rattle.std.specs.Option.{option_and_then}
use Rattle.std.specs.Prelude.{Contains, bytes_eq, if◌then◌else◌}
use Rattle.std.proofs.lemmas.List.{length-take}
use Rattle.std.proofs.lemmas.List.Elements.{All-contains}
use Rattle.std.proofs.lemmas.Option.{none-some, option_and_then_some, same_Some, slice_get-get_or, slice_get_within}
use Rattle.std.proofs.lemmas.Slice.Eq.{bytes_eq-Decides}
use Rattle.hw_names.specs.Name.{Text, AreDistinct}
use Rattle.hw_prims.specs.Table.{prim_of}
use Rattle.hw_prims.specs.declared.prim.Primitive.{Primitive}
use Rattle.fil_ast.specs.Primitives.{signature_by, table_name, timing_of}
use Rattle.fil_ast.specs.Rules.{FilRules}
use Rattle.fil_ast.specs.Scope.{Instance, Scope, bare_signature, component_named, instance_named, instance_signature, instances_at, signature_in}
use Rattle.fil_ast.specs.Signature.{Signature, component_signature}
use Rattle.fil_ast.specs.Tree.{Component, Design}
use Rattle.fil_ast.specs.Wires.{whole_scope}
use Rattle.fil_share.specs.Instances.{CanBeMade, signature_of}
use Rattle.fil_share.proofs.CalleeLemmas.{named_among}
use Rattle.fil_share.proofs.ListLemmas.{All-flat_map, slice_get-take}
use Rattle.fil_share.proofs.MakesLemmas.{makes_instances}
use Rattle.fil_share.proofs.OwnLemmas.{names_of, some_there}
use Rattle.fil_lower.proofs.AvailableLemmas.{found_passes}
use Rattle.fil_lower.proofs.CallLemmas.{found_among}
use Rattle.fil_lower.proofs.NewNameLemmas.{instances_distinct}
use Rattle.fil_lower.proofs.NameLemmas.{later_distinct, first_differs, other_name, same_name}
use Rattle.fil_lower.proofs.TimedAsLemmas.{contains_map, place_of}
use Rattle.fil_lower.proofs.ListLemmas.{contains_none, first_or_later}

-- an instance of a primitive
pub record OfPrimitive (i : Instance) (sig : Signature) : Type 0 where
  pub table : Text
  pub told : table_name i.made ≡ Some table
  pub prim : Primitive
  pub is : prim_of table i.params ≡ Some prim
  pub same : signature_by (timing_of i.made) prim ≡ sig

-- an instance of component m of the design, which stands before component n
pub record OfComponent (comps : Design) (n : ℕ) (i : Instance) (sig : Signature) : Type 0 where
  pub none : table_name i.made ≡ None
  pub no_params : i.params ≡ []
  pub m : ℕ
  pub below : m < n
  pub d : Component
  pub at : slice_get comps m ≡ Some d
  pub found : component_named (take n comps) i.made ≡ Some d
  pub is_named : d.name ≡ i.made
  pub same : component_signature d ≡ sig

-- what has a name of its own is found by it
pub found_by_name : {X : Type 0} (name_of : X → Text) (xs : List X) (x : X) → AreDistinct (map name_of xs) → Contains xs x → find (λ y. bytes_eq (name_of y) (name_of x)) xs ≡ Some x
found_by_name name_of [] x distinct has = absurd (contains_none x has)
found_by_name name_of (y ∷ xs) x distinct has =
    elim (first_or_later y xs x has) [
      | inl same ↦ ap (λ (b : Bool). if b then Some y else find (λ z. bytes_eq (name_of z) (name_of x)) xs) (same_name (name_of y) (name_of x) (ap name_of same)) ∙ ap Some same
      | inr later ↦
          ap (λ (b : Bool). if b then Some y else find (λ z. bytes_eq (name_of z) (name_of x)) xs) (other_name (name_of y) (name_of x) (first_differs (name_of y) (map name_of xs) (name_of x) distinct (contains_map name_of xs x later)))
          ∙ found_by_name name_of xs x (later_distinct (name_of y) (map name_of xs) distinct) later
    ]

module _ (comps : Design) (rules : FilRules comps) (n : ℕ) (c : Component) (here : slice_get comps n ≡ Some c) where
  abbrev earlier : Design
  earlier = take n comps

  abbrev scope : Scope
  scope = whole_scope earlier c

  pub instance_found : (i : Instance) → Contains scope.instances i → instance_named scope.instances i.name ≡ Some i
  instance_found i has = found_by_name (λ (j : Instance). j.name) scope.instances i (instances_distinct earlier c (names_of comps rules n c here)) has

  can_be_made : All (CanBeMade earlier) scope.instances
  can_be_made = All-flat_map (CanBeMade earlier) instances_at c.body (λ k d within. (makes_instances comps rules n c here).made k (get_or c.body k d) (slice_get-get_or c.body k d within))

  kind_of : (i : Instance) (sig : Signature) → signature_in earlier i.made i.params ≡ Some sig → OfPrimitive i sig ⊎ OfComponent comps n i sig
  kind_of i sig signed = by (table_name i.made) refl
    where
      chosen : (o : Option Text) → table_name i.made ≡ o → (if is_some o then option_map (signature_by (timing_of i.made)) (option_and_then (λ (t : Text). prim_of t i.params) o) else option_and_then (bare_signature i.params) (component_named earlier i.made)) ≡ Some sig
      chosen o is =
          sym (ap (λ (o : Option Text). if is_some o then option_map (signature_by (timing_of i.made)) (option_and_then (λ (t : Text). prim_of t i.params) o) else option_and_then (bare_signature i.params) (component_named earlier i.made)) is)
          ∙ signed

      of_primitive : (table : Text) → table_name i.made ≡ Some table → (o : Option Primitive) → prim_of table i.params ≡ o → option_map (signature_by (timing_of i.made)) o ≡ Some sig → OfPrimitive i sig
      of_primitive table told None is made = absurd (none-some sig made)
      of_primitive table told (Some prim) is made = record { table = table; told = told; prim = prim; is = is; same = same_Some (signature_by (timing_of i.made) prim) sig made }

      bare : (params : List ℕ) (d : Component) → bare_signature params d ≡ Some sig → (params ≡ []) × (component_signature d ≡ sig)
      bare [] d is = (refl, same_Some (component_signature d) sig is)
      bare (p ∷ params) d is = absurd (none-some sig is)

      of_component : table_name i.made ≡ None → OfComponent comps n i sig
      of_component none =
          option_and_then_some (bare_signature i.params) (component_named earlier i.made) sig (chosen None none) (λ d found_d is_bare.
          let place = place_of earlier d (named_among i.made earlier d found_d) in
          let inside = slice_get_within earlier place.0 d place.1 in
          let parts = bare i.params d is_bare in
          record {
            none = none;
            no_params = parts.0;
            m = place.0;
            below = omega (arith, inside, length-take n comps);
            d = d;
            at = slice_get-take n comps place.0 d place.1;
            found = found_d;
            is_named = (bytes_eq-Decides d.name i.made).0 (found_passes (λ (e : Component). bytes_eq e.name i.made) earlier d found_d);
            same = parts.1;
          })

      by : (o : Option Text) → table_name i.made ≡ o → OfPrimitive i sig ⊎ OfComponent comps n i sig
      by None none = inr (of_component none)
      by (Some table) told = inl (of_primitive table told (prim_of table i.params) refl (chosen (Some table) told))

  -- an instance of the component, with its signature
  pub record IsInstance (i : Instance) : Type 0 where
    pub sig : Signature
    pub signed : instance_signature scope i.name ≡ Some sig
    pub kind : OfPrimitive i sig ⊎ OfComponent comps n i sig

  pub is_instance : (i : Instance) → Contains scope.instances i → IsInstance i
  is_instance i has =
      let s = some_there (signature_in earlier i.made i.params) (All-contains (CanBeMade earlier) scope.instances i can_be_made has).widths.parameters in
      record { sig = s.0; signed = ap (option_and_then (signature_of earlier)) (instance_found i has) ∙ s.1; kind = kind_of i s.0 s.1 }

  -- the instance that has a signature
  pub instance_signed : (inst : Text) (sig : Signature) → instance_signature scope inst ≡ Some sig → (i : Instance) × Contains scope.instances i × (i.name ≡ inst)
  instance_signed inst sig signed =
      option_and_then_some (signature_of earlier) (instance_named scope.instances inst) sig signed (λ i found is. (
        i,
        found_among (λ (j : Instance). bytes_eq j.name inst) scope.instances i found,
        (bytes_eq-Decides i.name inst).0 (found_passes (λ (j : Instance). bytes_eq j.name inst) scope.instances i found),
      ))
