-- Instances of a design, and the components of wires that it is lowered to, by their paths.
use Rattle.std.proofs.Common.{◌≡◌, ℕ, ◌<◌, Bool, false, true, List, [], ◌∷◌, ◌++◌, length, map, take, get_or, slice_get, Option, Some, None, option_map, refl, sym, ap, subst, ◌∙◌, inl, inr, arith}
use Rattle.std.specs.Option.{option_and_then, unwrap_or}
use Rattle.std.specs.Prelude.{Contains, bytes_eq, if◌then◌else◌, is_some}
use Rattle.std.proofs.lemmas.Bool.{false≢true, or_parts}
use Rattle.std.proofs.lemmas.List.{length-map, same_lists}
use Rattle.std.proofs.lemmas.Option.{get_or_from_slice_get, none-some, option_and_then_some, same_Some, slice_get-map, slice_get_within}
use Rattle.std.proofs.lemmas.Slice.Eq.{bytes_eq-Decides}
use Rattle.hw_names.specs.Name.{Path, Text}
use Rattle.hw_prims.specs.Table.{is_primitive, prim_names}
use Rattle.cal_ast.proofs.ListLemmas.{Contains-at}
use Rattle.cal_ast.proofs.LookupLemmas.{cell_named-Some, cell_named-itself, part_in-Some, part_of-Some}
use Rattle.cal_ast.specs.Instances.{component_at}
use Rattle.cal_ast.specs.Naming.{Unreserved}
use Rattle.cal_ast.specs.Ports as ports
use Rattle.cal_ast.specs.Ports.{cell_named, part_in, part_of}
use Rattle.cal_ast.specs.Tree as calyx
use Rattle.cal_ast.specs.Tree.{CellDef}
use Rattle.fil_ast.specs.Items.{TheSignature}
use Rattle.fil_ast.specs.Naming.{component_names}
use Rattle.fil_ast.specs.Primitives.{is_filament_primitive, table_name}
use Rattle.fil_ast.specs.Rules.{F1, FilRules}
use Rattle.fil_ast.specs.Scope.{Instance, instance_named}
use Rattle.fil_ast.specs.Tree.{Component, Design}
use Rattle.fil_ast.specs.Wires.{whole_scope}
use Rattle.fil_fsm.specs.Chain.{register}
use Rattle.fil_promise.specs.Refines.{IsInstanceAt, Own, Below}
use Rattle.fil_share.proofs.Lookup.{find_at_place}
use Rattle.fil_lower.specs.Lowers.{IsMadeByLowering, Lowers, instance_cell}
use Rattle.fil_lower.proofs.AvailableLemmas.{found_passes}
use Rattle.fil_lower.proofs.CallLemmas.{found_among}
use Rattle.fil_lower.proofs.DesignLemmas.{names_distinct}
use Rattle.fil_lower.proofs.LoweredLemmas.{is_made_of}
use Rattle.fil_lower.proofs.MadeLemmas.{OfComponent, OfPrimitive, instance_found, is_instance}
use Rattle.fil_lower.proofs.NameLemmas.{from_map}
use Rattle.fil_lower.proofs.PartLemmas.{no_table_name}
use Rattle.fil_lower.proofs.UseLemmas.{some_at}

-- a design that keeps the rules, and wires that keep what it promises
pub record WiresOf : Type 0 where
  pub comps : Design
  pub rules : FilRules comps
  pub design : calyx.Design
  pub lowers : Lowers comps design

register_is_primitive : (name : Text) → is_primitive (register name).made ≡ true
unfolding is_primitive prim_names
register_is_primitive name = refl

module _ (of : WiresOf) where
  open of use {comps, rules, design, lowers}

  -- ---- components by their numbers and names

  pub low_at : (n : ℕ) (c : Component) → slice_get comps n ≡ Some c → (low : calyx.Component) × (slice_get design n ≡ Some low)
  low_at n c at = let within = slice_get_within comps n c at in some_at design n (let long = lowers.count in omega (arith, within, long))

  pub comp_at : (n : ℕ) (low : calyx.Component) → slice_get design n ≡ Some low → (c : Component) × (slice_get comps n ≡ Some c)
  comp_at n low at = let within = slice_get_within design n low at in some_at comps n (let long = lowers.count in omega (arith, within, long))

  pub low_name : (n : ℕ) (c : Component) (low : calyx.Component) → slice_get comps n ≡ Some c → slice_get design n ≡ Some low → low.name ≡ c.name
  low_name n c low at at_low = (lowers.components n c low at at_low).name

  -- lowering keeps the names
  pub same_names : map (λ (x : calyx.Component). x.name) design ≡ component_names comps
  same_names =
      let low_name_of : calyx.Component → Text = λ x. x.name in
      let name_of : Component → Text = λ x. x.name in
      let long = lowers.count in
      same_lists (map low_name_of design) (component_names comps) (length-map design low_name_of ∙ long ∙ sym (length-map comps name_of)) (λ k d within.
      let inside : k < length design = omega (arith, within, length-map design low_name_of) in
      let l = some_at design k inside in
      let c = some_at comps k (omega (arith, inside, long)) in
      get_or_from_slice_get (map low_name_of design) k l.0.name d (slice_get-map low_name_of design k ∙ ap (option_map low_name_of) l.1)
      ∙ low_name k c.0 l.0 c.1 l.1
      ∙ sym (get_or_from_slice_get (component_names comps) k c.0.name d (slice_get-map name_of comps k ∙ ap (option_map name_of) c.1)))

  low_named : (m : ℕ) (d : Component) (part : calyx.Component) → slice_get comps m ≡ Some d → slice_get design m ≡ Some part → ports.component_named design d.name ≡ Some part
  low_named m d part at at_part =
      let name_of : Component → Text = λ x. x.name in
      find_at_place (λ (x : calyx.Component). x.name) design (component_names comps) d.name m (sym same_names) (names_distinct comps rules) (slice_get-map name_of comps m ∙ ap (option_map name_of) at) ∙ at_part

  -- ---- cells of instances

  no_primitive_named : (m : ℕ) (d : Component) → slice_get comps m ≡ Some d → is_primitive d.name ≡ false
  no_primitive_named m d at = (or_parts (is_filament_primitive d.name) (is_primitive d.name) (rules.keeps m d at 0 TheSignature refl 0 F1 (omega arith)).no_primitive).1

  pub primitive_made : (i : Instance) (table : Text) → table_name i.made ≡ Some table → is_primitive table ≡ true → is_primitive (instance_cell i).made ≡ true
  primitive_made i table told is = ap (λ (o : Option Text). is_primitive (unwrap_or o i.made)) told ∙ is

  pub component_made : (i : Instance) (m : ℕ) (d : Component) → table_name i.made ≡ None → slice_get comps m ≡ Some d → d.name ≡ i.made → ((instance_cell i).made ≡ d.name) × (is_primitive d.name ≡ false)
  component_made i m d none at is_named = (ap (λ (o : Option Text). unwrap_or o i.made) none ∙ sym is_named, no_primitive_named m d at)

  -- an instance of a component is that component's wires
  part_of_instance : (n : ℕ) (c : Component) (low : calyx.Component) → slice_get comps n ≡ Some c → slice_get design n ≡ Some low → (inst : Text) (i : Instance) → instance_named (whole_scope (take n comps) c).instances inst ≡ Some i →
      is_filament_primitive i.made ≡ false → (m : ℕ) (d : Component) (part : calyx.Component) → slice_get comps m ≡ Some d → slice_get design m ≡ Some part → d.name ≡ i.made → part_in design low inst ≡ Some part
  part_of_instance n c low here at_low inst i found none m d part at_m at_part is_named =
      let instances : List Instance = (whole_scope (take n comps) c).instances in
      let among : Contains instances i = found_among (λ (j : Instance). bytes_eq j.name inst) instances i found in
      let same : i.name ≡ inst = (bytes_eq-Decides i.name inst).0 (found_passes (λ (j : Instance). bytes_eq j.name inst) instances i found) in
      let has : Contains low.cells (instance_cell i) = (lowers.components n c low here at_low).cells.all i among in
      let cell : cell_named low.cells i.name ≡ Some (instance_cell i)
      = cell_named-itself Unreserved design lowers.wired.rules.keeps low (Contains-at design n low at_low) (instance_cell i) has in
      let made = component_made i m d (no_table_name (table_name i.made) none) at_m is_named in
      ap (λ (name : Text). part_in design low name) (sym same)
      ∙ ap (option_and_then (part_of design)) cell
      ∙ ap (λ (t : Text). if is_primitive t then None else ports.component_named design t) made.0
      ∙ ap (λ (b : Bool). if b then None else ports.component_named design d.name) made.1
      ∙ low_named m d part at_m at_part

  -- what a part of a component is: the wires of what an instance is made of
  pub record IsPartOf (n : ℕ) (c : Component) (cell : Text) (part : calyx.Component) : Type 0 where
    pub i : Instance
    pub named : instance_named (whole_scope (take n comps) c).instances cell ≡ Some i
    pub none : is_filament_primitive i.made ≡ false
    pub m : ℕ
    pub below : m < n
    pub d : Component
    pub at : slice_get comps m ≡ Some d
    pub is_named : d.name ≡ i.made
    pub at_part : slice_get design m ≡ Some part

  instance_of_part : (n : ℕ) (c : Component) (low : calyx.Component) → slice_get comps n ≡ Some c → slice_get design n ≡ Some low → (cell : Text) (part : calyx.Component) → part_in design low cell ≡ Some part → IsPartOf n c cell part
  instance_of_part n c low here at_low cell part is =
      let instances : List Instance = (whole_scope (take n comps) c).instances in
      let def = part_in-Some design low cell part is in
      let found = cell_named-Some low.cells cell def.0 def.1 in
      let parts = part_of-Some design def.0 part def.2 in
      let by_instance : (i : Instance) → Contains instances i → instance_cell i ≡ def.0 → IsPartOf n c cell part
      = λ i has same.
      (let made = is_instance comps rules n c here i has in
      let unknown : is_primitive (instance_cell i).made ≡ false = ap (λ (x : CellDef). is_primitive x.made) same ∙ parts.0 in
      let named : i.name ≡ cell = ap (λ (x : CellDef). x.name) same ∙ found.1 in
      elim made.kind [
        | inl p ↦ absurd (false≢true (sym unknown ∙ primitive_made i p.table p.told (is_made_of p.table i.params p.prim p.is)))
        | inr k ↦
            (let of_d = low_at k.m k.d k.at in
            let made_is : def.0.made ≡ k.d.name = ap (λ (x : CellDef). x.made) (sym same) ∙ (component_made i k.m k.d k.none k.at k.is_named).0 in
            let same_part : of_d.0 ≡ part = same_Some of_d.0 part (sym (low_named k.m k.d of_d.0 k.at of_d.1) ∙ ap (ports.component_named design) (sym made_is) ∙ parts.1) in
            record {
              i = i;
              named = ap (instance_named instances) (sym named) ∙ instance_found comps rules n c here i has;
              none = ap (λ (o : Option Text). is_some o) k.none;
              m = k.m;
              below = k.below;
              d = k.d;
              at = k.at;
              is_named = k.is_named;
              at_part = of_d.1 ∙ ap Some same_part;
            })
      ]) in
      let by_register : IsMadeByLowering def.0 → IsPartOf n c cell part
      = λ made. absurd (false≢true (sym parts.0 ∙ ap (λ (x : CellDef). is_primitive x.made) made.1 ∙ register_is_primitive def.0.name)) in
      elim ((lowers.components n c low here at_low).cells.only def.0 found.0) [
        | inl of_instance ↦ (let i = from_map instance_cell instances def.0 of_instance in by_instance i.0 i.1 i.2)
        | inr made ↦ by_register made
      ]

  -- ---- paths

  -- the instance is one of a component whose wires stand below these
  pub record StandsBelow (low : calyx.Component) (path : Path) (i : Instance) : Type 0 where
    pub before : Path
    pub m : ℕ
    pub c : Component
    pub here : slice_get comps m ≡ Some c
    pub found : calyx.Component
    pub at_found : slice_get design m ≡ Some found
    pub at : component_at design low before ≡ Some found
    pub inst : Text
    pub named : instance_named (whole_scope (take m comps) c).instances inst ≡ Some i
    pub ends : path ≡ before ++ inst ∷ []

  pub stands_below : (i : Instance) (n : ℕ) (path : Path) (low : calyx.Component) → slice_get design n ≡ Some low → IsInstanceAt comps i n path → StandsBelow low path i
  stands_below i n path low at_low (Own k c inst here named) = record { before = []; m = k; c = c; here = here; found = low; at_found = at_low; at = refl; inst = inst; named = named; ends = refl }
  stands_below i n path low at_low (Below k m c d inst j rest here named none less at_m is_named inner) =
      let part = low_at m d at_m in
      let s = stands_below i m rest part.0 part.1 inner in
      record {
        before = inst ∷ s.before;
        m = s.m;
        c = s.c;
        here = s.here;
        found = s.found;
        at_found = s.at_found;
        at = ap (option_and_then (λ (x : calyx.Component). component_at design x s.before)) (part_of_instance k c low here at_low inst j named none m d part.0 at_m part.1 is_named) ∙ s.at;
        inst = s.inst;
        named = s.named;
        ends = ap (λ (p : Path). inst ∷ p) s.ends;
      }

  -- what is at a path are the wires of a component whose instances are there
  pub record IsLowAt (n : ℕ) (path : Path) (found : calyx.Component) : Type 0 where
    pub m : ℕ
    pub c : Component
    pub here : slice_get comps m ≡ Some c
    pub at_found : slice_get design m ≡ Some found
    pub instances : (inst : Text) (i : Instance) → instance_named (whole_scope (take m comps) c).instances inst ≡ Some i → IsInstanceAt comps i n (path ++ inst ∷ [])

  pub low_below : (path : Path) (n : ℕ) (low found : calyx.Component) → slice_get design n ≡ Some low → component_at design low path ≡ Some found → IsLowAt n path found
  low_below [] n low found at_low is = let c = comp_at n low at_low in record { m = n; c = c.0; here = c.1; at_found = at_low ∙ is; instances = λ inst i named. Own n c.0 inst c.1 named }
  low_below (cell ∷ path) n low found at_low is =
      option_and_then_some (λ (part : calyx.Component). component_at design part path) (part_in design low cell) found is (λ part is_part rest.
      let c = comp_at n low at_low in
      let b = instance_of_part n c.0 low c.1 at_low cell part is_part in
      let r = low_below path b.m part found b.at_part rest in
      record {
        m = r.m;
        c = r.c;
        here = r.here;
        at_found = r.at_found;
        instances = λ inst i named. Below n b.m c.0 b.d cell b.i (path ++ inst ∷ []) c.1 b.named b.none b.below b.at b.is_named (r.instances inst i named);
      })
