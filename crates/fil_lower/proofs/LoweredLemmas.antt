-- The components of a lowered design by their names, and what their cells are made of.
use Rattle.std.proofs.Common.{◌≡◌, ◌≢◌, ℕ, suc, Bool, true, false, ◌||◌, List, [], ◌∷◌, ◌++◌, length, map, flat_map, take, slice_get, Option, Some, None, refl, sym, ap, ap₂, subst, ◌∙◌, inl, inr, arith}
use Rattle.std.specs.Option.{unwrap_or}
use Rattle.std.specs.Prelude.{Contains, if◌then◌else◌}
use Rattle.std.proofs.lemmas.Bool.{false≢true}
use Rattle.std.proofs.lemmas.List.{map-append}
use Rattle.std.proofs.lemmas.List.Elements.{All-contains, Contains-append_cases, Contains-append_left, Contains-append_right, Contains-get_or}
use Rattle.std.proofs.lemmas.Option.{none-some, slice_get_within}
use Rattle.std.proofs.lemmas.Simd.{map-map}
use Rattle.hw_names.specs.Name.{Text, AreDistinct}
use Rattle.hw_prims.specs.Table.{is_made, is_primitive, prim_names, prim_of, with_params}
use Rattle.hw_prims.specs.declared.prim.Primitive.{Primitive}
use Rattle.hw_prims.specs.declared.prim.Primitive.TheVariants.{StdReg}
use Rattle.hw_prims.proofs.PortNameLemmas.{unknown_makes_none}
use Rattle.cal_ast.specs.Naming as calyx_names
use Rattle.cal_ast.specs.Ports as ports
use Rattle.cal_ast.specs.Ports.{cell_named, part_in, part_of, primitive_in, primitive_of}
use Rattle.cal_ast.specs.Tree as calyx
use Rattle.cal_ast.specs.Tree.{CellDef}
use Rattle.fil_ast.specs.Items.{TheSignature}
use Rattle.fil_ast.specs.Naming.{HasNewNames, component_names, instance_names}
use Rattle.fil_ast.specs.Primitives.{is_filament_primitive}
use Rattle.fil_ast.specs.Rules.{F1, FilRules}
use Rattle.fil_ast.specs.Scope.{Instance}
use Rattle.fil_ast.specs.Signature.{Signature}
use Rattle.fil_ast.specs.Tree.{Component, Design}
use Rattle.fil_fsm.specs.Chain.{register}
use Rattle.fil_share.proofs.ListLemmas.{AllPairs-append, Contains-at}
use Rattle.fil_share.proofs.OwnLemmas.{names_of}
use Rattle.fil_lower.specs.inside.Lowering.{HasEnoughBits, HasNewRegisters, IsLoweringOf, Lowering, Registers, all_registers, lowered_cell, lowered_component, lowering_with}
use Rattle.fil_lower.proofs.DesignLemmas.{names_distinct}
use Rattle.fil_lower.proofs.ListLemmas.{contains_in_flat, from_flat}
use Rattle.fil_lower.proofs.MadeLemmas.{OfPrimitive, OfComponent, found_by_name}
use Rattle.fil_lower.proofs.NewNameLemmas.{instances_distinct}
use Rattle.fil_lower.proofs.NameLemmas.{from_map}
use Rattle.fil_lower.proofs.TimedAsLemmas.{contains_map}
use Rattle.fil_lower.proofs.UseLemmas.{some_at}

-- component n is lowered, with these registers
pub record IsLowered (comps : Design) (design : calyx.Design) (n : ℕ) (c : Component) : Type 0 where
  pub registers : Registers
  pub enough : HasEnoughBits (lowering_with (take n comps) c registers)
  pub new : HasNewRegisters (lowering_with (take n comps) c registers)
  pub there : slice_get design n ≡ Some (lowered_component (lowering_with (take n comps) c registers))

abbrev pub lowering_at : (comps : Design) (design : calyx.Design) (n : ℕ) (c : Component) → IsLowered comps design n c → Lowering
lowering_at comps design n c lw = lowering_with (take n comps) c lw.registers

pub lowered_at : (comps : Design) (design : calyx.Design) → IsLoweringOf comps design → (n : ℕ) (c : Component) → slice_get comps n ≡ Some c → IsLowered comps design n c
lowered_at comps design is n c here =
    let within = slice_get_within comps n c here in
    let low = some_at design n (omega (arith, within, is.count)) in
    let made = is.components n c low.0 here low.1 in
    record { registers = made.registers; enough = made.enough; new = made.new; there = low.1 ∙ ap Some made.is }

same_names : (design : calyx.Design) (comps : Design) → length design ≡ length comps → ((k : ℕ) (low : calyx.Component) (c : Component) → slice_get design k ≡ Some low → slice_get comps k ≡ Some c → low.name ≡ c.name) →
    calyx_names.component_names design ≡ component_names comps
same_names [] [] count same = refl
same_names [] (c ∷ comps) count same = absurd (omega (arith, count))
same_names (low ∷ design) [] count same = absurd (omega (arith, count))
same_names (low ∷ design) (c ∷ comps) count same = ap₂ ◌∷◌ (same 0 low c refl refl) (same_names design comps (omega (arith, count)) (λ k l d at_l at_d. same (suc k) l d at_l at_d))

-- ---- names of primitives

pub is_made_of : (name : Text) (params : List ℕ) (prim : Primitive) → prim_of name params ≡ Some prim → is_primitive name ≡ true
is_made_of name params prim is = by (is_primitive name) refl
  where
    by : (b : Bool) → is_primitive name ≡ b → b ≡ true
    by true known = refl
    by false unknown = absurd (none-some prim (sym (unknown_makes_none name params unknown) ∙ is))

second_false : (a b : Bool) → a || b ≡ false → b ≡ false
second_false true b is = absurd (false≢true (sym is))
second_false false b is = is

pub register_made : (name : Text) → primitive_of (register name) ≡ Some (StdReg 1)
unfolding prim_of prim_names with_params is_made
register_made name = refl

registers_of_cells : (rss : List (List Text)) → map (λ (c : CellDef). c.name) (flat_map (map register) rss) ≡ flat_map (λ (names : List Text). names) rss
registers_of_cells [] = refl
registers_of_cells (rs ∷ rss) =
    map-append (λ (c : CellDef). c.name) (map register rs) (flat_map (map register) rss)
    ∙ ap₂ ◌++◌ (map-map (λ (c : CellDef). c.name) register rs ∙ same rs) (registers_of_cells rss)
  where
    same : (names : List Text) → map (λ (name : Text). name) names ≡ names
    same [] = refl
    same (name ∷ names) = ap (λ (ns : List Text). name ∷ ns) (same names)

module _ (comps : Design) (rules : FilRules comps) (design : calyx.Design) (lowered : IsLoweringOf comps design) where
  pub new_names : (n : ℕ) (c : Component) → slice_get comps n ≡ Some c → HasNewNames (take n comps) c
  new_names n c here = rules.keeps n c here 0 TheSignature refl 0 F1 (omega arith)

  pub no_primitive : (n : ℕ) (c : Component) → slice_get comps n ≡ Some c → is_primitive c.name ≡ false
  no_primitive n c here = second_false (is_filament_primitive c.name) (is_primitive c.name) (new_names n c here).no_primitive

  pub design_names : calyx_names.component_names design ≡ component_names comps
  design_names = same_names design comps lowered.count (λ k low c at_low at_c. ap (λ (d : calyx.Component). d.name) (lowered.components k c low at_c at_low).is)

  -- a component is found by its name
  pub component_found : (n : ℕ) (c : Component) (low : calyx.Component) → slice_get comps n ≡ Some c → slice_get design n ≡ Some low → ports.component_named design c.name ≡ Some low
  component_found n c low here there =
      let named : low.name ≡ c.name = ap (λ (d : calyx.Component). d.name) (lowered.components n c low here there).is in
      let D : List Text → Type 0 = AreDistinct in
      ap (ports.component_named design) (sym named)
      ∙ found_by_name (λ (d : calyx.Component). d.name) design low (subst D (sym design_names) (names_distinct comps rules)) (Contains-at design n low there)

  -- ---- what a cell is made of

  module _ (n : ℕ) (i : Instance) (sig : Signature) where
    pub primitive_cell : (p : OfPrimitive i sig) → primitive_of (lowered_cell i) ≡ Some p.prim
    primitive_cell p = ap (λ (o : Option Text). prim_of (unwrap_or o i.made) i.params) p.told ∙ p.is

    pub names_primitive : OfPrimitive i sig → is_primitive (lowered_cell i).made ≡ true
    names_primitive p = ap (λ (o : Option Text). is_primitive (unwrap_or o i.made)) p.told ∙ is_made_of p.table i.params p.prim p.is

    pub names_component : OfComponent comps n i sig → is_primitive (lowered_cell i).made ≡ false
    names_component k = ap (λ (o : Option Text). is_primitive (unwrap_or o i.made)) k.none ∙ ap is_primitive (sym k.is_named) ∙ no_primitive k.m k.d k.at

    pub no_primitive_cell : OfComponent comps n i sig → primitive_of (lowered_cell i) ≡ None
    no_primitive_cell k = unknown_makes_none (lowered_cell i).made i.params (names_component k)

    -- the component that an instance's cell is made of, lowered
    pub part_low : OfComponent comps n i sig → calyx.Component
    part_low k = lowered_component (lowering_at comps design k.m k.d (lowered_at comps design lowered k.m k.d k.at))

    pub component_cell : (k : OfComponent comps n i sig) → part_of design (lowered_cell i) ≡ Some (lowered_component (lowering_at comps design k.m k.d (lowered_at comps design lowered k.m k.d k.at)))
    component_cell k =
        let lw = lowered_at comps design lowered k.m k.d k.at in
        ap (λ (b : Bool). if b then None else ports.component_named design (lowered_cell i).made) (names_component k)
        ∙ ap (λ (o : Option Text). ports.component_named design (unwrap_or o i.made)) k.none
        ∙ ap (ports.component_named design) (sym k.is_named)
        ∙ component_found k.m k.d _ k.at lw.there

  -- ---- cells

  module _ (n : ℕ) (c : Component) (here : slice_get comps n ≡ Some c) (registers : Registers) (new : HasNewRegisters (lowering_with (take n comps) c registers)) where
    abbrev l : Lowering
    l = lowering_with (take n comps) c registers

    abbrev low : calyx.Component
    low = lowered_component l

    cell_names_are : calyx_names.cell_names low.cells ≡ instance_names l.scope.instances ++ all_registers l
    cell_names_are =
        map-append (λ (d : CellDef). d.name) (map lowered_cell l.scope.instances) (flat_map (map register) registers)
        ∙ ap₂ ◌++◌ (map-map (λ (d : CellDef). d.name) lowered_cell l.scope.instances) (registers_of_cells registers)

    pub cells_distinct : AreDistinct (calyx_names.cell_names low.cells)
    cells_distinct =
        let D : List Text → Type 0 = AreDistinct in
        subst D (sym cell_names_are)
        (AllPairs-append (λ (a b : Text). a ≢ b) (instance_names l.scope.instances) (all_registers l) (instances_distinct (take n comps) c (names_of comps rules n c here)) new.distinct
        (λ j d within k e inside same. new.fresh k e inside (subst (Contains (instance_names l.scope.instances)) same (Contains-get_or (instance_names l.scope.instances) j d within))))

    pub cell_found : (d : CellDef) → Contains low.cells d → cell_named low.cells d.name ≡ Some d
    cell_found d has = found_by_name (λ (x : CellDef). x.name) low.cells d cells_distinct has

    -- a cell is an instance's, or a register
    pub data IsCellOf : CellDef → Type 0 where
      OfInstance : (i : Instance) → Contains l.scope.instances i → IsCellOf (lowered_cell i)
      OfRegister : (name : Text) → Contains (all_registers l) name → IsCellOf (register name)

    pub cell_is : (d : CellDef) → Contains low.cells d → IsCellOf d
    cell_is d has =
        elim (Contains-append_cases (map lowered_cell l.scope.instances) (flat_map (map register) registers) d has) [
          | inl of ↦ let m = from_map lowered_cell l.scope.instances d of in subst IsCellOf m.2 (OfInstance m.0 m.1)
          | inr of ↦
              let m = from_flat (map register) registers d of in
              let name = from_map register m.0 d m.2 in
              subst IsCellOf name.2 (OfRegister name.0 (contains_in_flat (λ (names : List Text). names) registers m.0 name.0 m.1 name.1))
        ]

    pub instance_cell : (i : Instance) → Contains l.scope.instances i → cell_named low.cells i.name ≡ Some (lowered_cell i)
    instance_cell i has = cell_found (lowered_cell i) (Contains-append_left (map lowered_cell l.scope.instances) (flat_map (map register) registers) (lowered_cell i) (contains_map lowered_cell l.scope.instances i has))

    pub register_cell : (name : Text) → Contains (all_registers l) name → cell_named low.cells name ≡ Some (register name)
    register_cell name has =
        let m = from_flat (λ (names : List Text). names) registers name has in
        cell_found (register name) (Contains-append_right (map lowered_cell l.scope.instances) (flat_map (map register) registers) (register name)
        (contains_in_flat (map register) registers m.0 (register name) m.1 (contains_map register m.0 name m.2)))

    -- no register has the name of an instance
    pub not_instance : (i : Instance) (name : Text) → Contains l.scope.instances i → Contains (all_registers l) name → i.name ≡ name → ⊥
    not_instance i name has of same =
        All-contains (λ (name : Text). ¬ Contains (instance_names l.scope.instances) name) (all_registers l) name new.fresh of
        (subst (Contains (instance_names l.scope.instances)) same (contains_map (λ (j : Instance). j.name) l.scope.instances i has))
