-- Ports of a lowered component: each is found by its name, on this side, with this width.
use Rattle.std.proofs.Common.{◌≡◌, ℕ, true, List, [], ◌∷◌, ◌++◌, take, slice_get, Option, Some, None, is_some, map, option_map, refl, sym, ap, ap₂, subst, ◌∙◌, inl, inr}
use Rattle.std.specs.Option.{option_and_then}
use Rattle.std.specs.Prelude.{Contains, codes}
use Rattle.std.proofs.lemmas.Bool.{false≢true}
use Rattle.std.proofs.lemmas.List.{map-append}
use Rattle.std.proofs.lemmas.List.Elements.{Contains-append_left, Contains-append_right}
use Rattle.std.proofs.lemmas.Option.{same_Some}
use Rattle.std.proofs.lemmas.Simd.{map-map}
use Rattle.hw_names.specs.Name.{Text, AreDistinct}
use Rattle.hw_prims.specs.Table.{Pin, inputs_of, outputs_of, pin_names, prim_of}
use Rattle.hw_prims.specs.declared.prim.Primitive.{Primitive}
use Rattle.hw_prims.specs.declared.prim.Primitive.TheVariants.{StdReg}
use Rattle.hw_prims.proofs.PortNameLemmas.{has_names, pins_differ}
use Rattle.cal_ast.specs.Naming.{IsKnownPort}
use Rattle.cal_ast.specs.Ports.{Input, Output, SidedPin, both_sides, cell_named, inputs_in, is_bare, on_side, outputs_in, part_in, part_of, port_in, port_named, ports_at, primitive_in, primitive_of, width_in}
use Rattle.cal_ast.proofs.LookupLemmas.{cell_inputs-part, cell_inputs-primitive, cell_outputs-part, cell_outputs-primitive}
use Rattle.cal_ast.specs.Sides.{IsDestination, IsSource}
use Rattle.cal_ast.specs.Tree as calyx
use Rattle.cal_ast.specs.Tree.{CellDef, PortName, own, port_of}
use Rattle.fil_ast.specs.Naming.{port_names}
use Rattle.fil_ast.specs.Primitives.{timing_of}
use Rattle.fil_ast.specs.Rules.{FilRules}
use Rattle.fil_ast.specs.Scope.{Instance, instance_signature}
use Rattle.fil_ast.specs.Signature.{Signature}
use Rattle.fil_ast.specs.Tree.{Component, Design}
use Rattle.fil_fsm.specs.Chain.{register}
use Rattle.fil_promise.specs.Refines as wires
use Rattle.fil_lower.specs.inside.Lowering.{HasNewRegisters, IsLoweringOf, Lowering, Registers, all_registers, lowered_cell, lowered_component, lowering_with}
use Rattle.fil_lower.proofs.CallLemmas.{sound_at}
use Rattle.fil_lower.proofs.LoweredLemmas.{component_cell, instance_cell, new_names, primitive_cell, register_cell, register_made}
use Rattle.fil_lower.proofs.MadeLemmas.{OfComponent, OfPrimitive, found_by_name, is_instance}
use Rattle.fil_lower.proofs.SignaturePinLemmas.{HasPins, component_pins, names_of_pins, primitive_pins}
use Rattle.fil_lower.proofs.TimedAsLemmas.{contains_map}
use Rattle.fil_lower.proofs.TimingLemmas.{filament_timing}

-- the component may read the port, which has this width
pub record IsRead (design : calyx.Design) (c : calyx.Component) (p : PortName) (width : ℕ) : Type 0 where
  pub known : IsKnownPort design c p
  pub wide : width_in design c p ≡ Some width
  pub source : IsSource design c p

-- the component may drive the port, which has this width
pub record IsDriven (design : calyx.Design) (c : calyx.Component) (p : PortName) (width : ℕ) : Type 0 where
  pub known : IsKnownPort design c p
  pub wide : width_in design c p ≡ Some width
  pub destination : IsDestination design c p

-- ---- ports by their names

-- these are the ports in the place of a cell, or the component's own, by names of their own
pub record HasPorts (design : calyx.Design) (c : calyx.Component) (cell : Option Text) (ins outs : List Pin) : Type 0 where
  pub ports_are : ports_at design c cell ≡ both_sides ins outs
  pub distinct : AreDistinct (pin_names (ins ++ outs))

module _ (design : calyx.Design) (c : calyx.Component) (cell : Option Text) (ins outs : List Pin) (ports : HasPorts design c cell ins outs) where
  abbrev name_of : SidedPin → Text
  name_of q = q.pin.name

  names_are : map name_of (both_sides ins outs) ≡ pin_names (ins ++ outs)
  names_are =
      map-append name_of (on_side Input ins) (on_side Output outs)
      ∙ ap₂ ◌++◌ (map-map name_of (λ (p : Pin). record { side = Input; pin = p }) ins) (map-map name_of (λ (p : Pin). record { side = Output; pin = p }) outs)
      ∙ sym (map-append (λ (p : Pin). p.name) ins outs)

  found : (q : SidedPin) → Contains (both_sides ins outs) q → port_in design c (record { cell = cell; pin = q.pin.name }) ≡ Some q
  found q has =
      let D : List Text → Type 0 = AreDistinct in
      ap (λ (ps : List SidedPin). port_named ps q.pin.name) ports.ports_are ∙ found_by_name name_of (both_sides ins outs) q (subst D (sym names_are) ports.distinct) has

  found_input : (p : Pin) → Contains ins p → port_in design c (record { cell = cell; pin = p.name }) ≡ Some (record { side = Input; pin = p })
  found_input p has =
      let q : SidedPin = record { side = Input; pin = p } in
      found q (Contains-append_left (on_side Input ins) (on_side Output outs) q (contains_map (λ (x : Pin). record { side = Input; pin = x }) ins p has))

  found_output : (p : Pin) → Contains outs p → port_in design c (record { cell = cell; pin = p.name }) ≡ Some (record { side = Output; pin = p })
  found_output p has =
      let q : SidedPin = record { side = Output; pin = p } in
      found q (Contains-append_right (on_side Input ins) (on_side Output outs) q (contains_map (λ (x : Pin). record { side = Output; pin = x }) outs p has))

module _ (design : calyx.Design) (c : calyx.Component) (ins outs : List Pin) where
  pub own_read : HasPorts design c None ins outs → (p : Pin) → Contains ins p → IsRead design c (own p.name) p.width
  own_read ports p has =
      let is = found_input design c None ins outs ports p has in
      record { known = ap is_some is; wide = ap (option_map (λ (q : SidedPin). q.pin.width)) is; source = ap (option_map (λ (q : SidedPin). q.side)) is }

  pub own_driven : is_bare c ≡ true → HasPorts design c None ins outs → (p : Pin) → Contains outs p → IsDriven design c (own p.name) p.width
  own_driven bare ports p has =
      let is = found_output design c None ins outs ports p has in
      record {
        known = ap is_some is;
        wide = ap (option_map (λ (q : SidedPin). q.pin.width)) is;
        destination = record { side = ap (option_map (λ (q : SidedPin). q.side)) is; not_done = λ not_bare. absurd (false≢true (sym not_bare ∙ bare)) };
      }

  pub cell_read : (cell : Text) → HasPorts design c (Some cell) ins outs → (p : Pin) → Contains outs p → IsRead design c (port_of cell p.name) p.width
  cell_read cell ports p has =
      let is = found_output design c (Some cell) ins outs ports p has in
      record { known = ap is_some is; wide = ap (option_map (λ (q : SidedPin). q.pin.width)) is; source = ap (option_map (λ (q : SidedPin). q.side)) is }

  pub cell_driven : (cell : Text) → HasPorts design c (Some cell) ins outs → (p : Pin) → Contains ins p → IsDriven design c (port_of cell p.name) p.width
  cell_driven cell ports p has =
      let is = found_input design c (Some cell) ins outs ports p has in
      record {
        known = ap is_some is;
        wide = ap (option_map (λ (q : SidedPin). q.pin.width)) is;
        destination = record { side = ap (option_map (λ (q : SidedPin). q.side)) is; not_done = λ not_bare. refl };
      }

-- what is at the place of a cell of a primitive, and of a component
at_primitive : (design : calyx.Design) (c : calyx.Component) (cell : Text) (d : CellDef) (prim : Primitive) → cell_named c.cells cell ≡ Some d → primitive_of d ≡ Some prim → AreDistinct (pin_names (inputs_of prim ++ outputs_of prim)) →
    HasPorts design c (Some cell) (inputs_of prim) (outputs_of prim)
at_primitive design c cell d prim is made distinct =
    let in_cell : primitive_in c cell ≡ Some prim = ap (option_and_then primitive_of) is ∙ made in
    record { ports_are = ap₂ both_sides (cell_inputs-primitive design c cell prim in_cell) (cell_outputs-primitive design c cell prim in_cell); distinct = distinct }

at_component : (design : calyx.Design) (c part : calyx.Component) (cell : Text) (d : CellDef) → cell_named c.cells cell ≡ Some d → part_of design d ≡ Some part → AreDistinct (pin_names (inputs_in part ++ outputs_in part)) →
    HasPorts design c (Some cell) (inputs_in part) (outputs_in part)
at_component design c part cell d is made distinct =
    let in_cell : part_in design c cell ≡ Some part = ap (option_and_then (part_of design)) is ∙ made in
    record { ports_are = ap₂ both_sides (cell_inputs-part design c cell part in_cell) (cell_outputs-part design c cell part in_cell); distinct = distinct }

module _ (comps : Design) (rules : FilRules comps) (design : calyx.Design) (lowered : IsLoweringOf comps design) where
  pub own_distinct : (n : ℕ) (c : Component) → slice_get comps n ≡ Some c → AreDistinct (port_names c)
  own_distinct n c here = (new_names comps rules design lowered n c here).ports

  pub own_pins_distinct : (n : ℕ) (c : Component) → slice_get comps n ≡ Some c → AreDistinct (pin_names (wires.inputs_of c ++ wires.outputs_of c))
  own_pins_distinct n c here = let D : List Text → Type 0 = AreDistinct in subst D (sym (names_of_pins c)) (own_distinct n c here)

  module _ (n : ℕ) (c : Component) (here : slice_get comps n ≡ Some c) (registers : Registers) (new : HasNewRegisters (lowering_with (take n comps) c registers)) where
    abbrev l : Lowering
    l = lowering_with (take n comps) c registers

    abbrev low : calyx.Component
    low = lowered_component l

    pub own_ports : HasPorts design low None (wires.inputs_of c) (wires.outputs_of c)
    own_ports = record { ports_are = refl; distinct = own_pins_distinct n c here }

    -- the ports of an instance are the pins of its signature
    pub record HasInstancePorts (i : Instance) (sig : Signature) : Type 0 where
      pub ins : List Pin
      pub outs : List Pin
      pub pins : HasPins sig ins outs
      pub ports : HasPorts design low (Some i.name) ins outs

    pub primitive_ports : (i : Instance) → Contains l.scope.instances i → (sig : Signature) → OfPrimitive i sig → HasInstancePorts i sig
    primitive_ports i has sig p =
        let timing = filament_timing i.made i.params p.prim (ap (option_and_then (λ (t : Text). prim_of t i.params)) p.told ∙ p.is) in
        let pins = primitive_pins p.table i.params (timing_of i.made) p.prim p.is timing in
        record {
          ins = inputs_of p.prim;
          outs = outputs_of p.prim;
          pins = subst (λ (s : Signature). HasPins s (inputs_of p.prim) (outputs_of p.prim)) p.same pins;
          ports = at_primitive design low i.name (lowered_cell i) p.prim (instance_cell comps rules design lowered n c here registers new i has) (primitive_cell comps rules design lowered n i sig p) pins.distinct;
        }

    pub component_ports : (i : Instance) → Contains l.scope.instances i → (sig : Signature) → OfComponent comps n i sig → HasInstancePorts i sig
    component_ports i has sig k =
        let pins = component_pins k.d (own_distinct k.m k.d k.at) (sound_at comps rules k.m k.d k.at).shape in
        record {
          ins = wires.inputs_of k.d;
          outs = wires.outputs_of k.d;
          pins = subst (λ (s : Signature). HasPins s (wires.inputs_of k.d) (wires.outputs_of k.d)) k.same pins;
          ports = at_component design low _ i.name (lowered_cell i) (instance_cell comps rules design lowered n c here registers new i has) (component_cell comps rules design lowered n i sig k) pins.distinct;
        }

    pub instance_ports : (i : Instance) → Contains l.scope.instances i → (sig : Signature) → instance_signature l.scope i.name ≡ Some sig → HasInstancePorts i sig
    instance_ports i has sig signed =
        let f = is_instance comps rules n c here i has in
        subst (HasInstancePorts i) (same_Some f.sig sig (sym f.signed ∙ signed))
        (elim f.kind [ inl p ↦ primitive_ports i has f.sig p | inr k ↦ component_ports i has f.sig k ])

    pub register_ports : (name : Text) → Contains (all_registers l) name → HasPorts design low (Some name) (inputs_of (StdReg 1)) (outputs_of (StdReg 1))
    register_ports name has =
        at_primitive design low name (register name) (StdReg 1) (register_cell comps rules design lowered n c here registers new name has) (register_made name)
        (pins_differ (codes "std_reg") (StdReg 1) (has_names (codes "std_reg") (1 ∷ []) (StdReg 1) (register_made name)))
