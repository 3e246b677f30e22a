-- The parts of a lowered design: the component of a name, and what each instance of a component is as a cell.
use Rattle.std.proofs.Common.{◌≡◌, ◌⊎◌, ℕ, ◌<◌, Bool, true, false, cond, List, [], ◌∷◌, ◌++◌, length, map, flat_map, take, slice_get, All, Option, Some, None, option_map, refl, sym, ap, subst, ◌∙◌, inl, inr, is_some, arith}
use Rattle.std.specs.List.{find}
use Rattle.std.specs.Option.{option_and_then, option_or, unwrap_or}
use Rattle.std.specs.Prelude.{bytes_eq, if◌then◌else◌}
use Rattle.std.proofs.lemmas.Bool.{false≢true, or_parts}
use Rattle.std.proofs.lemmas.List.{length-map, length-take, same_lists}
use Rattle.std.proofs.lemmas.List.Elements.{All-append, All-contains, All-map}
use Rattle.std.proofs.lemmas.List.Folds.{find-append}
use Rattle.std.proofs.lemmas.Option.{get_or_from_slice_get, none-some, option_and_then_some, same_Some, slice_get-map, slice_get_within}
use Rattle.std.proofs.lemmas.Slice.Eq.{bytes_eq-Decides}
use Rattle.hw_names.specs.Name.{Text, IsPlain}
use Rattle.hw_prims.specs.Filament.{behaviour_of}
use Rattle.hw_prims.specs.Filament as filament
use Rattle.hw_prims.specs.Table.{Pin, is_primitive, pin, pin_names, prim_in_range, prim_name, prim_of, with_params}
use Rattle.hw_prims.specs.Timed.{Behaviour}
use Rattle.hw_prims.specs.declared.name.PrimName.{PrimName}
use Rattle.hw_prims.specs.declared.prim.Primitive.{Primitive}
use Rattle.cal_ast.specs.Ports as ports
use Rattle.cal_ast.specs.Ports.{cell_inputs, cell_named, made_inputs, part_in, part_of, primitive_in, primitive_of}
use Rattle.cal_ast.specs.Tree as calyx
use Rattle.cal_ast.specs.Tree.{CellDef}
use Rattle.fil_ast.specs.Behaviours.{component_behaviour, timed_signature}
use Rattle.fil_ast.specs.Items.{TheSignature}
use Rattle.fil_ast.specs.Naming.{HasNewNames, component_names}
use Rattle.fil_ast.specs.Plain.{IsPlainComponent}
use Rattle.fil_ast.specs.Primitives.{filament_primitive, is_filament_primitive, primitive_signature, signature_by, table_name, timing_of}
use Rattle.fil_ast.specs.Rules.{F1}
use Rattle.fil_ast.specs.Scope.{Instance, bare_signature, component_named, instance_named, signature_in}
use Rattle.fil_ast.specs.Signature.{Signature, component_signature}
use Rattle.fil_ast.specs.Tree.{Component, DataPort, Design, Interface}
use Rattle.fil_ast.specs.Wires.{whole_scope}
use Rattle.fil_fsm.specs.Chain.{register}
use Rattle.fil_promise.specs.Refines as calyx_ports
use Rattle.fil_share.proofs.CalleeLemmas.{named_among}
use Rattle.fil_share.proofs.ListLemmas.{Contains-at, slice_get-take}
use Rattle.fil_share.proofs.Lookup.{find_at_place}
use Rattle.fil_lower.specs.inside.Lowering.{IsLoweredTo, lowered_cell, lowered_component, lowering_with}
use Rattle.fil_lower.specs.inside.PlanOf.{callee_of}
use Rattle.fil_lower.proofs.AvailableLemmas.{found_passes}
use Rattle.fil_lower.proofs.CallLemmas.{found_among, sound_at}
use Rattle.fil_lower.proofs.CalleeLemmas.{bare}
use Rattle.fil_lower.proofs.DesignLemmas.{component_promises, names_distinct, primitive_promises}
use Rattle.fil_lower.proofs.LoweredParts.{LoweredPair, LoweredComp}
use Rattle.fil_lower.proofs.PinLemmas.{HasPins, component_pins, primitive_pins}
use Rattle.fil_lower.proofs.TimedAsLemmas.{place_of}
use Rattle.fil_lower.proofs.TimingLemmas.{filament_is_timed, filament_timing}
use Rattle.fil_lower.proofs.UseLemmas.{some_at}

-- ---- names of primitives

find_mapped : {X Y : Type 0} (test : Y → Bool) (h : X → Y) (xs : List X) (x : X) → find (λ y. test (h y)) xs ≡ Some x → find test (map h xs) ≡ Some (h x)
find_mapped test h [] x is = absurd (none-some x is)
find_mapped test h (y ∷ xs) x is = by (test (h y)) is (find_mapped test h xs x)
  where
    by : (b : Bool) → cond b (Some y) (find (λ y. test (h y)) xs) ≡ Some x → (find (λ y. test (h y)) xs ≡ Some x → find test (map h xs) ≡ Some (h x)) → cond b (Some (h y)) (find test (map h xs)) ≡ Some (h x)
    by true e later = ap (λ z. Some (h z)) (same_Some y x e)
    by false e later = later e

-- a name that is none of the table's means no primitive
pub not_a_primitive : (text : Text) (params : List ℕ) → is_primitive text ≡ false → prim_of text params ≡ None
unfolding prim_of is_primitive
not_a_primitive text params none = by (prim_name text) none
  where
    by : (o : Option PrimName) → is_some o ≡ false → option_and_then prim_in_range (option_and_then (λ name. with_params name params) o) ≡ None
    by None is = refl
    by (Some name) is = absurd (false≢true (sym is))

-- a Filament primitive is one of the table, with a signature
module _ (earlier : Design) (made : Text) (params : List ℕ) (prim : Primitive) (is : filament_primitive made params ≡ Some prim) where
  pub table_primitive : prim_of (unwrap_or (table_name made) made) params ≡ Some prim
  table_primitive = by (table_name made) is
    where
      by : (o : Option Text) → option_and_then (λ table. prim_of table params) o ≡ Some prim → prim_of (unwrap_or o made) params ≡ Some prim
      by None e = absurd (none-some prim e)
      by (Some t) e = e

  pub primitive_signed : signature_in earlier made params ≡ Some (signature_by (timing_of made) prim)
  primitive_signed = by (table_name made) is ∙ ap (option_map (signature_by (timing_of made))) is
    where
      by : (o : Option Text) → option_and_then (λ table. prim_of table params) o ≡ Some prim
          → (if is_some o then primitive_signature made params else option_and_then (bare_signature params) (component_named earlier made)) ≡ primitive_signature made params
      by None e = absurd (none-some prim e)
      by (Some t) e = refl

pub no_table_name : (o : Option Text) → is_some o ≡ false → o ≡ None
no_table_name None is = refl
no_table_name (Some t) is = absurd (false≢true (sym is))

module _ (pair : LoweredPair) where
  open pair use {comps, rules, plain, design, lowered, plain_design}

  -- ---- components by their numbers and names

  pub low_at : (n : ℕ) (c : Component) → slice_get comps n ≡ Some c → (low : calyx.Component) × (slice_get design n ≡ Some low) × IsLoweredTo (take n comps) c low
  low_at n c at =
      let within = slice_get_within comps n c at in
      let l = some_at design n (let long = lowered.count in omega (arith, within, long)) in
      (l.0, l.1, lowered.components n c l.0 at l.1)

  pub comp_at : (n : ℕ) (low : calyx.Component) → slice_get design n ≡ Some low → (c : Component) × (slice_get comps n ≡ Some c)
  comp_at n low at = let within = slice_get_within design n low at in some_at comps n (let long = lowered.count in omega (arith, within, long))

  low_name : (n : ℕ) (c : Component) (low : calyx.Component) → slice_get comps n ≡ Some c → slice_get design n ≡ Some low → low.name ≡ c.name
  low_name n c low at at_low = ap (λ (x : calyx.Component). x.name) (lowered.components n c low at at_low).is

  -- lowering keeps the names
  same_names : map (λ (x : calyx.Component). x.name) design ≡ component_names comps
  same_names =
      let low_name_of : calyx.Component → Text = λ x. x.name in
      let name_of : Component → Text = λ x. x.name in
      let long = lowered.count in
      same_lists (map low_name_of design) (component_names comps) (length-map design low_name_of ∙ long ∙ sym (length-map comps name_of)) (λ k d within.
      let inside : k < length design = omega (arith, within, length-map design low_name_of) in
      let l = some_at design k inside in
      let c = some_at comps k (omega (arith, inside, long)) in
      get_or_from_slice_get (map low_name_of design) k l.0.name d (slice_get-map low_name_of design k ∙ ap (option_map low_name_of) l.1)
      ∙ low_name k c.0 l.0 c.1 l.1
      ∙ sym (get_or_from_slice_get (component_names comps) k c.0.name d (slice_get-map name_of comps k ∙ ap (option_map name_of) c.1)))

  pub low_named : (m : ℕ) (d : Component) (part : calyx.Component) → slice_get comps m ≡ Some d → slice_get design m ≡ Some part → ports.component_named design d.name ≡ Some part
  low_named m d part at at_part =
      let name_of : Component → Text = λ x. x.name in
      find_at_place (λ (x : calyx.Component). x.name) design (component_names comps) d.name m (sym same_names) (names_distinct comps rules) (slice_get-map name_of comps m ∙ ap (option_map name_of) at) ∙ at_part

  pub named_low : (name : Text) (part : calyx.Component) → ports.component_named design name ≡ Some part → (m : ℕ) × (d : Component) × (slice_get comps m ≡ Some d) × (slice_get design m ≡ Some part) × (d.name ≡ name)
  named_low name part is =
      let test : calyx.Component → Bool = λ x. bytes_eq x.name name in
      let place = place_of design part (found_among test design part is) in
      let d = comp_at place.0 part place.1 in
      (place.0, d.0, d.1, place.1, sym (low_name place.0 d.0 part d.1 place.1) ∙ (bytes_eq-Decides part.name name).0 (found_passes test design part is))

  pub names_at : (m : ℕ) (d : Component) → slice_get comps m ≡ Some d → HasNewNames (take m comps) d
  names_at m d at = rules.keeps m d at 0 TheSignature refl 0 F1 (omega arith)

  pub no_primitive_named : (m : ℕ) (d : Component) → slice_get comps m ≡ Some d → (is_filament_primitive d.name ≡ false) × (is_primitive d.name ≡ false)
  no_primitive_named m d at = or_parts (is_filament_primitive d.name) (is_primitive d.name) (names_at m d at).no_primitive

  plain_pins : (m : ℕ) (d : Component) → slice_get comps m ≡ Some d → All IsPlain (pin_names (calyx_ports.inputs_of d))
  plain_pins m d at =
      let p : IsPlainComponent d = All-contains IsPlainComponent comps d plain (Contains-at comps m d at) in
      let interface_pin : Interface → Pin = λ g. pin g.name g.width in
      let data_pin : DataPort → Pin = λ p. pin p.name p.width in
      All-map IsPlain (λ (x : Pin). x.name) (map interface_pin d.interfaces ++ map data_pin d.ins)
      (All-append (λ (x : Pin). IsPlain x.name) (map interface_pin d.interfaces) (map data_pin d.ins)
      (All-map (λ (x : Pin). IsPlain x.name) interface_pin d.interfaces p.interfaces) (All-map (λ (x : Pin). IsPlain x.name) data_pin d.ins p.ins))

  -- the component's own input pins are those of its promise
  pub own_pins : (m : ℕ) (d : Component) (part : calyx.Component) → slice_get comps m ≡ Some d → slice_get design m ≡ Some part →
      HasPins (timed_signature (component_signature d)) (component_signature d) (pin_names (ports.inputs_in part))
  own_pins m d part at at_part =
      let s = sound_at comps rules m d at in
      subst (λ (x : calyx.Component). HasPins (timed_signature (component_signature d)) (component_signature d) (pin_names (ports.inputs_in x))) (sym (lowered.components m d part at at_part).is)
      (component_pins (take m comps) d (names_at m d at) s.names s.shape (plain_pins m d at))

-- ---- the cells of a component

module _ (comp : LoweredComp) where
  open comp use {pair, pair.{comps, rules, plain, design, lowered}, n, c, here, registers, enough, new}

  abbrev earlier : Design
  earlier = take n comps

  abbrev instances : List Instance
  instances = (whole_scope earlier c).instances

  abbrev low : calyx.Component
  low = lowered_component (lowering_with earlier c registers)

  pub cell_of : (inst : Text) (i : Instance) → instance_named instances inst ≡ Some i → cell_named low.cells inst ≡ Some (lowered_cell i)
  cell_of inst i found =
      let test : CellDef → Bool = λ x. bytes_eq x.name inst in
      find-append test (map lowered_cell instances) (flat_map (map register) registers)
      ∙ ap (λ (o : Option CellDef). option_or o (find test (flat_map (map register) registers))) (find_mapped test lowered_cell instances i found)

  -- an instance of a primitive
  pub record IsPrimitiveHere (inst : Text) (i : Instance) (sig : Signature) : Type 0 where
    pub prim : Primitive
    pub is : filament_primitive i.made i.params ≡ Some prim
    pub promises : callee_of earlier c inst ≡ behaviour_of prim
    pub signed : signature_by (timing_of i.made) prim ≡ sig
    pub cell : primitive_in low inst ≡ Some prim

  -- an instance of component m
  pub record IsComponentHere (inst : Text) (i : Instance) (sig : Signature) : Type 0 where
    pub none : is_filament_primitive i.made ≡ false
    pub m : ℕ
    pub below : m < n
    pub d : Component
    pub at : slice_get comps m ≡ Some d
    pub is_named : d.name ≡ i.made
    pub promises : callee_of earlier c inst ≡ component_behaviour (take m comps) d
    pub signed : component_signature d ≡ sig
    pub part : calyx.Component
    pub at_part : slice_get design m ≡ Some part
    pub is : IsLoweredTo (take m comps) d part
    pub no_primitive : primitive_in low inst ≡ None
    pub cell : part_in design low inst ≡ Some part

  pub component_cell : (inst : Text) (i : Instance) → instance_named instances inst ≡ Some i → (m : ℕ) (d : Component) (part : calyx.Component) → slice_get comps m ≡ Some d → slice_get design m ≡ Some part → d.name ≡ i.made → is_filament_primitive i.made ≡ false →
      (primitive_in low inst ≡ None) × (part_in design low inst ≡ Some part)
  component_cell inst i found m d part at at_part is_named none =
      let made : unwrap_or (table_name i.made) i.made ≡ d.name = ap (λ (o : Option Text). unwrap_or o i.made) (no_table_name (table_name i.made) none) ∙ sym is_named in
      let other = (no_primitive_named pair m d at).1 in (
        ap (option_and_then primitive_of) (cell_of inst i found) ∙ ap (λ (t : Text). prim_of t i.params) made ∙ not_a_primitive d.name i.params other,
        ap (option_and_then (part_of design)) (cell_of inst i found)
            ∙ ap (λ (t : Text). if is_primitive t then None else ports.component_named design t) made
            ∙ ap (λ (b : Bool). if b then None else ports.component_named design d.name) other
            ∙ low_named pair m d part at at_part,
      )

  -- what an instance with a signature is
  pub kind_here : (inst : Text) (i : Instance) (sig : Signature) → instance_named instances inst ≡ Some i → signature_in earlier i.made i.params ≡ Some sig → IsPrimitiveHere inst i sig ⊎ IsComponentHere inst i sig
  kind_here inst i sig found signed = by (is_filament_primitive i.made) refl
    where
      chosen : (b : Bool) → is_filament_primitive i.made ≡ b → (if b then primitive_signature i.made i.params else option_and_then (bare_signature i.params) (component_named earlier i.made)) ≡ Some sig
      chosen b is = sym (ap (λ (b : Bool). if b then primitive_signature i.made i.params else option_and_then (bare_signature i.params) (component_named earlier i.made)) is) ∙ signed

      primitive : (o : Option Primitive) → filament_primitive i.made i.params ≡ o → option_map (signature_by (timing_of i.made)) o ≡ Some sig → IsPrimitiveHere inst i sig
      primitive None is made = absurd (none-some sig made)
      primitive (Some prim) is made =
          record {
            prim = prim;
            is = is;
            promises = primitive_promises comps rules n c here inst i prim found is;
            signed = same_Some (signature_by (timing_of i.made) prim) sig made;
            cell = ap (option_and_then primitive_of) (cell_of inst i found) ∙ table_primitive earlier i.made i.params prim is;
          }

      by : (b : Bool) → is_filament_primitive i.made ≡ b → IsPrimitiveHere inst i sig ⊎ IsComponentHere inst i sig
      by true is = inl (primitive (filament_primitive i.made i.params) refl (chosen true is))
      by false is =
          option_and_then_some (bare_signature i.params) (component_named earlier i.made) sig (chosen false is) (λ d found_d is_sig.
          let place = place_of earlier d (named_among i.made earlier d found_d) in
          let at : slice_get comps place.0 ≡ Some d = slice_get-take n comps place.0 d place.1 in
          let inside = slice_get_within earlier place.0 d place.1 in
          let below : place.0 < n = omega (arith, inside, length-take n comps) in
          let is_named : d.name ≡ i.made = (bytes_eq-Decides d.name i.made).0 (found_passes (λ (x : Component). bytes_eq x.name i.made) earlier d found_d) in
          let part = low_at pair place.0 d at in
          let cell = component_cell inst i found place.0 d part.0 at part.1 is_named is in
          inr (record {
            none = is;
            m = place.0;
            below = below;
            d = d;
            at = at;
            is_named = is_named;
            promises = component_promises comps rules n c here inst i place.0 d found is below at is_named;
            signed = bare i.params d sig is_sig;
            part = part.0;
            at_part = part.1;
            is = part.2;
            no_primitive = cell.0;
            cell = cell.1;
          }))

  -- its input pins are those of its promise
  pub pins_here : (inst : Text) (i : Instance) (sig : Signature) → instance_named instances inst ≡ Some i → signature_in earlier i.made i.params ≡ Some sig → HasPins (callee_of earlier c inst).sig sig (pin_names (cell_inputs design low inst))
  pins_here inst i sig found signed =
      elim (kind_here inst i sig found signed) [
        | inl p ↦
            subst (λ (b : Behaviour). HasPins b.sig sig (pin_names (cell_inputs design low inst))) (sym p.promises)
            (subst (λ (s : Signature). HasPins (filament.timed_signature p.prim) s (pin_names (cell_inputs design low inst))) p.signed
            (subst (λ (o : Option Primitive). HasPins (filament.timed_signature p.prim) (signature_by (timing_of i.made) p.prim) (pin_names (made_inputs o (part_in design low inst)))) (sym p.cell)
            (primitive_pins (timing_of i.made) p.prim (filament_is_timed i.made i.params p.prim p.is) (filament_timing i.made i.params p.prim p.is))))
        | inr d ↦
            (let pins : cell_inputs design low inst ≡ ports.inputs_in d.part = ap (λ (o : Option Primitive). made_inputs o (part_in design low inst)) d.no_primitive ∙ ap (made_inputs None) d.cell in
            subst (λ (b : Behaviour). HasPins b.sig sig (pin_names (cell_inputs design low inst))) (sym d.promises)
            (subst (λ (s : Signature). HasPins (timed_signature (component_signature d.d)) s (pin_names (cell_inputs design low inst))) d.signed
            (subst (λ (ps : List Pin). HasPins (timed_signature (component_signature d.d)) (component_signature d.d) (pin_names ps)) (sym pins) (own_pins pair d.m d.d d.part d.at d.at_part))))
      ]
