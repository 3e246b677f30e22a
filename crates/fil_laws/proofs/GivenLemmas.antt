-- What is given at a path: something where an instance stands, and one thing.
use Rattle.std.proofs.Common.{◌≡◌, ◌⊎◌, ℕ, suc, ◌<◌, Bool, true, false, cond, List, [], ◌∷◌, take, slice_get, Contains, Option, Some, None, option_map, refl, sym, ap, subst, ◌∙◌, inl, inr, is_some, arith}
use Rattle.std.specs.Option.{IsSome, option_and_then}
use Rattle.std.specs.Str.{bytes_eq}
use Rattle.std.proofs.lemmas.Bool.{false≢true}
use Rattle.std.proofs.lemmas.List.{length-take}
use Rattle.std.proofs.lemmas.List.Elements.{All-contains}
use Rattle.std.proofs.lemmas.Option.{none-some, same_Some, slice_get_within}
use Rattle.hw_names.specs.Name.{Path, Text}
use Rattle.hw_prims.specs.Filament.{behaviour_of}
use Rattle.hw_prims.specs.Table.{prim_of}
use Rattle.hw_prims.specs.Timed.{Behaviour, Transaction}
use Rattle.hw_prims.specs.declared.prim.Primitive.{Primitive}
use Rattle.fil_ast.proofs.HoldLemmas.{from_flat}
use Rattle.fil_ast.specs.Behaviours.{IsGiven, Itself, OfPrimitive, Below, component_behaviour, inner_transactions}
use Rattle.fil_ast.specs.Primitives.{filament_primitive, is_filament_primitive, primitive_signature, signature_by, table_name, timing_of}
use Rattle.fil_ast.specs.Rules.{FilRules}
use Rattle.fil_ast.specs.Scope.{Instance, bare_signature, component_named, instance_named, instances_at, signature_in}
use Rattle.fil_ast.specs.Tree.{Component, Design}
use Rattle.fil_ast.specs.Wires.{whole_scope}
use Rattle.fil_promise.specs.Refines as refines
use Rattle.fil_promise.specs.Refines.{IsInstanceAt}
use Rattle.fil_share.proofs.ListLemmas.{slice_get-take}
use Rattle.fil_share.proofs.MakesLemmas.{makes_instances}
use Rattle.fil_share.specs.Instances.{CanBeMade}
use Rattle.fil_lower.proofs.DesignLemmas.{same_place}
use Rattle.fil_laws.proofs.EventLemmas.{is_name}
use Rattle.fil_laws.proofs.PlaceLemmas.{place_of}
use Rattle.fil_laws.specs.Paths.{EachInstanceIsGiven, IsGivenAt, WhatIsGivenIsOne}

-- ---- one thing

-- what is given at the empty path
pub record IsItself (comps : Design) (b : Behaviour) (given : List Transaction) (n : ℕ) (txs : List Transaction) : Type 0 where
  pub c : Component
  pub at : slice_get comps n ≡ Some c
  pub promises : b ≡ component_behaviour (take n comps) c
  pub list : given ≡ txs

pub of_itself : (comps : Design) (b : Behaviour) (given : List Transaction) (n : ℕ) (txs : List Transaction) → IsGiven comps b given n txs [] → IsItself comps b given n txs
of_itself comps b given n txs (Itself k c at is) = record { c = c; at = at; promises = is; list = refl }

-- what is given to a primitive instance
pub record IsOfPrimitive (comps : Design) (b : Behaviour) (given : List Transaction) (n : ℕ) (txs : List Transaction) (inst : Text) (path : Path) : Type 0 where
  pub c : Component
  pub at : slice_get comps n ≡ Some c
  pub i : Instance
  pub found : instance_named (whole_scope (take n comps) c).instances inst ≡ Some i
  pub prim : Primitive
  pub means : filament_primitive i.made i.params ≡ Some prim
  pub promises : b ≡ behaviour_of prim
  pub list : given ≡ inner_transactions (take n comps) c txs inst
  pub ends : path ≡ []

-- what is given in or below an instance of a component
pub record IsBelow (comps : Design) (b : Behaviour) (given : List Transaction) (n : ℕ) (txs : List Transaction) (inst : Text) (path : Path) : Type 0 where
  pub c : Component
  pub at : slice_get comps n ≡ Some c
  pub i : Instance
  pub found : instance_named (whole_scope (take n comps) c).instances inst ≡ Some i
  pub none : is_filament_primitive i.made ≡ false
  pub m : ℕ
  pub below : m < n
  pub d : Component
  pub at_m : slice_get comps m ≡ Some d
  pub named : d.name ≡ i.made
  pub rest : IsGiven comps b given m (inner_transactions (take n comps) c txs inst) path

pub of_instance : (comps : Design) (b : Behaviour) (given : List Transaction) (n : ℕ) (txs : List Transaction) (inst : Text) (path : Path) → IsGiven comps b given n txs (inst ∷ path) →
    IsOfPrimitive comps b given n txs inst path ⊎ IsBelow comps b given n txs inst path
of_instance comps b given n txs inst path (OfPrimitive k us c name i prim at found means promises list) =
    inl (record { c = c; at = at; i = i; found = found; prim = prim; means = means; promises = promises; list = list; ends = refl })
of_instance comps b given n txs inst path (Below k m us c d name i deeper at found none below at_m named rest) =
    inr (record { c = c; at = at; i = i; found = found; none = none; m = m; below = below; d = d; at_m = at_m; named = named; rest = rest })

-- a name that means a primitive is no component's
pub primitive_name : (i : Instance) (prim : Primitive) → filament_primitive i.made i.params ≡ Some prim → is_filament_primitive i.made ≡ false → ⊥
primitive_name i prim means none = by (table_name i.made) refl
  where
    by : (o : Option Text) → table_name i.made ≡ o → ⊥
    by None is = none-some prim (sym (ap (option_and_then (λ (t : Text). prim_of t i.params)) is) ∙ means)
    by (Some t) is = false≢true (sym none ∙ ap is_some is)

module _ (comps : Design) (rules : FilRules comps) (b b' : Behaviour) (given given' : List Transaction) where
  abbrev AreOne : Type 0
  AreOne = (b ≡ b') × (given ≡ given')

  one_given : (path : Path) (n : ℕ) (txs : List Transaction) → IsGiven comps b given n txs path → IsGiven comps b' given' n txs path → AreOne
  one_given [] n txs is is' =
      let x = of_itself comps b given n txs is in
      let y = of_itself comps b' given' n txs is' in
      let same : x.c ≡ y.c = same_Some x.c y.c (sym x.at ∙ y.at) in
      (x.promises ∙ ap (component_behaviour (take n comps)) same ∙ sym y.promises, x.list ∙ sym y.list)
  one_given (inst ∷ path) n txs is is' =
      by (of_instance comps b given n txs inst path is) (of_instance comps b' given' n txs inst path is') (one_given path)
    where
      -- the instance is one
      same_instance : (c c' : Component) (i i' : Instance) → slice_get comps n ≡ Some c → slice_get comps n ≡ Some c' → instance_named (whole_scope (take n comps) c).instances inst ≡ Some i →
          instance_named (whole_scope (take n comps) c').instances inst ≡ Some i' → i ≡ i'
      same_instance c c' i i' at at' found found' =
          let same : c ≡ c' = same_Some c c' (sym at ∙ at') in
          same_Some i i' (sym found ∙ ap (λ (x : Component). instance_named (whole_scope (take n comps) x).instances inst) same ∙ found')

      by : IsOfPrimitive comps b given n txs inst path ⊎ IsBelow comps b given n txs inst path → IsOfPrimitive comps b' given' n txs inst path ⊎ IsBelow comps b' given' n txs inst path
          → ((m : ℕ) (us : List Transaction) → IsGiven comps b given m us path → IsGiven comps b' given' m us path → AreOne) → AreOne
      by (inl x) (inl y) deeper =
          let same : x.c ≡ y.c = same_Some x.c y.c (sym x.at ∙ y.at) in
          let i = same_instance x.c y.c x.i y.i x.at y.at x.found y.found in
          let prim : x.prim ≡ y.prim = same_Some x.prim y.prim (sym x.means ∙ ap (λ (j : Instance). filament_primitive j.made j.params) i ∙ y.means) in
          (x.promises ∙ ap behaviour_of prim ∙ sym y.promises, x.list ∙ ap (λ (c : Component). inner_transactions (take n comps) c txs inst) same ∙ sym y.list)
      by (inl x) (inr y) deeper =
          let i = same_instance x.c y.c x.i y.i x.at y.at x.found y.found in
          absurd (primitive_name x.i x.prim x.means (ap (λ (j : Instance). is_filament_primitive j.made) i ∙ y.none))
      by (inr x) (inl y) deeper =
          let i = same_instance x.c y.c x.i y.i x.at y.at x.found y.found in
          absurd (primitive_name y.i y.prim y.means (sym (ap (λ (j : Instance). is_filament_primitive j.made) i) ∙ x.none))
      by (inr x) (inr y) deeper =
          let same : x.c ≡ y.c = same_Some x.c y.c (sym x.at ∙ y.at) in
          let i = same_instance x.c y.c x.i y.i x.at y.at x.found y.found in
          let place = same_place comps rules y.m x.m y.d x.d y.at_m x.at_m (y.named ∙ sym (ap (λ (j : Instance). j.made) i) ∙ sym x.named) in
          let rest = subst (λ (m : ℕ). IsGiven comps b' given' m (inner_transactions (take n comps) x.c txs inst) path) place
          (subst (λ (c : Component). IsGiven comps b' given' y.m (inner_transactions (take n comps) c txs inst) path) (sym same) y.rest) in
          deeper x.m (inner_transactions (take n comps) x.c txs inst) x.rest rest

pub what_is_given_is_one : WhatIsGivenIsOne
what_is_given_is_one comps n txs path b b' given given' rules is is' = one_given comps rules b b' given given' path n txs is is'

-- ---- something

found_name : (name : Text) (comps : Design) (d : Component) → component_named comps name ≡ Some d → Contains comps d × (d.name ≡ name)
found_name name [] d is = absurd (none-some d is)
found_name name (e ∷ comps) d is = by (bytes_eq e.name name) refl is (found_name name comps d)
  where
    by : (b : Bool) → bytes_eq e.name name ≡ b → cond b (Some e) (component_named comps name) ≡ Some d → (component_named comps name ≡ Some d → Contains comps d × (d.name ≡ name)) → Contains (e ∷ comps) d × (d.name ≡ name)
    by true here is later = let same = same_Some e d is in ((0, omega arith, same), ap (λ (x : Component). x.name) (sym same) ∙ is_name e.name name here)
    by false there is later = let m = later is in ((suc m.0.0, omega (arith, m.0.1), m.0.2), m.1)

found_there : (name : Text) (instances : List Instance) (i : Instance) → instance_named instances name ≡ Some i → Contains instances i
found_there name [] i is = absurd (none-some i is)
found_there name (j ∷ instances) i is = by (bytes_eq j.name name) is (found_there name instances i)
  where
    by : (b : Bool) → cond b (Some j) (instance_named instances name) ≡ Some i → (instance_named instances name ≡ Some i → Contains instances i) → Contains (j ∷ instances) i
    by true is later = (0, omega arith, same_Some j i is)
    by false is later = let m = later is in (suc m.0, omega (arith, m.1), m.2)

module _ (comps : Design) (rules : FilRules comps) (n : ℕ) (c : Component) (here : slice_get comps n ≡ Some c) where
  abbrev earlier : Design
  earlier = take n comps

  -- each instance has a signature
  has_signature : (inst : Text) (i : Instance) → instance_named (whole_scope earlier c).instances inst ≡ Some i → IsSome (signature_in earlier i.made i.params)
  has_signature inst i found =
      let from = from_flat instances_at c.body i (found_there inst (whole_scope earlier c).instances i found) in
      let place = place_of c.body from.0 from.1 in
      let can : CanBeMade earlier i = All-contains (CanBeMade earlier) (instances_at from.0) i ((makes_instances comps rules n c here).made place.0 from.0 place.1) from.2 in
      can.widths.parameters

  record IsMadeOf (i : Instance) : Type 0 where
    m : ℕ
    below : m < n
    d : Component
    at : slice_get comps m ≡ Some d
    named : d.name ≡ i.made

  -- so it is of a primitive or of a component before its own
  made_of : (i : Instance) → IsSome (signature_in earlier i.made i.params) → ((prim : Primitive) × (filament_primitive i.made i.params ≡ Some prim)) ⊎ ((is_filament_primitive i.made ≡ false) × IsMadeOf i)
  made_of i some = by (is_filament_primitive i.made) refl some
    where
      primitive : (o : Option Primitive) → filament_primitive i.made i.params ≡ o → IsSome (option_map (signature_by (timing_of i.made)) o) → (prim : Primitive) × (filament_primitive i.made i.params ≡ Some prim)
      primitive None is some = absurd (cc)
      primitive (Some prim) is some = (prim, is)

      component : (o : Option Component) → component_named earlier i.made ≡ o → IsSome (option_and_then (bare_signature i.params) o) → IsMadeOf i
      component None is some = absurd (cc)
      component (Some d) is some =
          let name = found_name i.made earlier d is in
          let place = place_of earlier d name.0 in
          let within = slice_get_within earlier place.0 d place.1 in
          let short = length-take n comps in
          record { m = place.0; below = omega (arith, within, short); d = d; at = slice_get-take n comps place.0 d place.1; named = name.1 }

      by : (b : Bool) → is_filament_primitive i.made ≡ b → IsSome (cond b (primitive_signature i.made i.params) (option_and_then (bare_signature i.params) (component_named earlier i.made)))
          → ((prim : Primitive) × (filament_primitive i.made i.params ≡ Some prim)) ⊎ ((is_filament_primitive i.made ≡ false) × IsMadeOf i)
      by true is some = inl (primitive (filament_primitive i.made i.params) refl some)
      by false is some = inr (is, component (component_named earlier i.made) refl some)

instance_given : (comps : Design) → FilRules comps → (i : Instance) (n : ℕ) (txs : List Transaction) (path : Path) → IsInstanceAt comps i n path → IsGivenAt comps n txs path
instance_given comps rules i n txs path (refines.Own k c inst here found) =
    elim (made_of comps rules k c here i (has_signature comps rules k c here inst i found)) [
      | inl p ↦ record { promise = behaviour_of p.0; given = inner_transactions (take k comps) c txs inst; is = OfPrimitive k txs c inst i p.0 here found p.1 refl refl }
      | inr d ↦
          let made = d.1 in
          let given = inner_transactions (take k comps) c txs inst in
          record {
            promise = component_behaviour (take made.m comps) made.d;
            given = given;
            is = Below k made.m txs c made.d inst i [] here found d.0 made.below made.at made.named (Itself made.m made.d made.at refl);
          }
    ]
instance_given comps rules i n txs path (refines.Below k m c d inst j deeper here found none below at named rest) =
    let more = instance_given comps rules i m (inner_transactions (take k comps) c txs inst) deeper rest in
    record { promise = more.promise; given = more.given; is = Below k m txs c d inst j deeper here found none below at named more.is }

pub each_instance_is_given : EachInstanceIsGiven
each_instance_is_given comps n txs path i rules is = instance_given comps rules i n txs path is
