-- The assignments of a lowered component keep C2, C4, C5 and C6.
use Rattle.std.proofs.Common.{◌≡◌, ℕ, ◌≤◌, map, take, slice_get, Option, Some, None, codes, refl, sym, ap, subst, ◌∙◌, lit<, arith}
use Rattle.std.specs.Prelude.{Contains, bytes_eq}
use Rattle.std.proofs.lemmas.List.Elements.{All-contains}
use Rattle.std.proofs.lemmas.Slice.Eq.{bytes_eq-Decides}
use Rattle.hw_names.specs.Name.{Text}
use Rattle.hw_prims.specs.Table.{inputs_of, outputs_of, pin}
use Rattle.hw_prims.specs.declared.prim.Primitive.TheVariants.{StdReg}
use Rattle.net_core.specs.Guard.{GuardTree}
use Rattle.net_core.specs.declared.net.Src.{Src}
use Rattle.net_core.specs.declared.net.Src.TheVariants.{Port, Lit}
use Rattle.cal_ast.specs.Naming.{NamesKnown}
use Rattle.cal_ast.specs.Sides.{DrivesDestination, ReadsSources}
use Rattle.cal_ast.specs.Tree as calyx
use Rattle.cal_ast.specs.Tree.{Assignment, PortName, own, port_of}
use Rattle.cal_ast.specs.Typing.{WidthsAgree}
use Rattle.fil_ast.specs.Rules.{FilRules}
use Rattle.fil_ast.specs.Scope.{instance_signature}
use Rattle.fil_ast.specs.Signature.{SigPort, component_signature, sig_port}
use Rattle.fil_ast.specs.Tree.{Component, Design}
use Rattle.fil_promise.specs.Refines as wires
use Rattle.fil_share.proofs.ListLemmas.{Contains-at}
use Rattle.fil_lower.specs.inside.Lowering.{HasEnoughBits, HasNewRegisters, IsLoweringOf, Lowering, Registers, all_registers, lowered_component, lowered_sets, lowered_value, lowering_with}
use Rattle.fil_lower.proofs.AvailableLemmas.{found_passes}
use Rattle.fil_lower.proofs.CallLemmas.{all_called, found_among, sound_at}
use Rattle.fil_lower.proofs.MadeLemmas.{instance_signed}
use Rattle.fil_lower.proofs.SignaturePinLemmas.{HasPins, component_pins}
use Rattle.fil_lower.proofs.FoundPortLemmas.{IsDriven, cell_driven, instance_ports, own_distinct, own_driven, own_ports, register_ports}
use Rattle.fil_lower.proofs.SetLemmas.{IsSet, Takes, Enables, Gives, Starts, Connects, sets_are}
use Rattle.fil_lower.proofs.GoodSourceLemmas.{IsGoodGuard, IsGoodSource, bit_read, good_always, good_literal, good_port, guard_good, value_good}
use Rattle.fil_lower.proofs.WidthLemmas.{GivesWide, all_wide, connects_wide}

-- C2, C4, C5 and C6 at an assignment
pub record IsGoodSet (design : calyx.Design) (c : calyx.Component) (a : Assignment) : Type 0 where
  pub names : NamesKnown design c a
  pub widths : WidthsAgree design c a
  pub drives : DrivesDestination design c a
  pub reads : ReadsSources design c a

good_set : (design : calyx.Design) (c : calyx.Component) (dst : PortName) (guard : Option (GuardTree PortName)) (src : Src PortName) (width : ℕ) → IsDriven design c dst width → IsGoodGuard design c guard → IsGoodSource design c src width →
    IsGoodSet design c (record { dst = dst; guard = guard; src = src })
good_set design c dst guard src width driven guarded given = record {
  names = record { dst = driven.known; guard = guarded.known; src = given.known };
  widths = record { literal = given.fits; sides = driven.wide ∙ sym given.wide; guard = guarded.agrees };
  drives = driven.destination;
  reads = (guarded.reads, given.reads);
}

module _ (comps : Design) (rules : FilRules comps) (n : ℕ) (c : Component) (here : slice_get comps n ≡ Some c) (design : calyx.Design) (lowered : IsLoweringOf comps design) (registers : Registers) (new : HasNewRegisters (lowering_with (take n comps) c registers)) where
  abbrev l : Lowering
  l = lowering_with (take n comps) c registers

  abbrev low : calyx.Component
  low = lowered_component l

  one_fits : (1 ≤ 1) × (1 ≤ 128)
  one_fits = (omega arith, omega arith)

  register_input : (name pin_name : Text) → Contains (all_registers l) name → Contains (inputs_of (StdReg 1)) (pin pin_name 1) → IsDriven design low (port_of name pin_name) 1
  register_input name pin_name has of =
      cell_driven design low (inputs_of (StdReg 1)) (outputs_of (StdReg 1)) name (register_ports comps rules design lowered n c here registers new name has) (pin pin_name 1) of

  set_good : (a : Assignment) → IsSet l a → IsGoodSet design low a
  unfolding inputs_of
  set_good a (Takes name bit has is) =
      good_set design low (port_of name (codes "in")) None (Port bit) 1 (register_input name (codes "in") has (0, omega arith, refl)) (good_always design low)
      (good_port design low bit 1 (bit_read comps rules n c here design lowered registers new bit is))
  set_good a (Enables name has) =
      good_set design low (port_of name (codes "write_en")) None (Lit 1 1) 1 (register_input name (codes "write_en") has (1, omega arith, refl)) (good_always design low)
      (good_literal design low 1 1 (one_fits, lit< tt))
  set_good a (Gives v sig k arg port guard of signed at_arg at_port is_guard) =
      let i = instance_signed comps rules n c here v.inst sig signed in
      let ports = instance_ports comps rules design lowered n c here registers new i.0 i.1 sig (ap (instance_signature l.scope) i.2 ∙ signed) in
      let driven = cell_driven design low ports.ins ports.outs i.0.name ports.ports (pin port.name port.width) (ports.pins.data_ins port (Contains-at sig.ins k port at_port)) in
      good_set design low (port_of v.inst port.name) guard (lowered_value l arg) port.width (subst (λ (x : Text). IsDriven design low (port_of x port.name) port.width) i.2 driven)
      (guard_good comps rules n c here design lowered registers new guard is_guard)
      (value_good comps rules n c here design lowered registers new arg port.width
      (All-contains (GivesWide l.scope) l.scope.invocations v (all_wide comps rules n c here) of sig k arg port signed at_arg at_port))
  set_good a (Starts i sig e go guard of signed of_e is_go is_guard) =
      let ports = instance_ports comps rules design lowered n c here registers new i of sig signed in
      good_set design low (port_of i.name go) guard (Lit 1 1) 1 (cell_driven design low ports.ins ports.outs i.name ports.ports (pin go 1) (ports.pins.gos e go of_e is_go))
      (guard_good comps rules n c here design lowered registers new guard is_guard) (good_literal design low 1 1 (one_fits, lit< tt))
  set_good a (Connects output value of) =
      let m = connects_wide comps rules n c here output value of in
      let outs = map (sig_port c.events) c.outs in
      let test = λ (q : SigPort). bytes_eq q.name output in
      let is_named : m.port.name ≡ output = (bytes_eq-Decides m.port.name output).0 (found_passes test outs m.port m.found) in
      let pins : HasPins (component_signature c) (wires.inputs_of c) (wires.outputs_of c) = component_pins c (own_distinct comps rules design lowered n c here) (sound_at comps rules n c here).shape in
      let driven = own_driven design low (wires.inputs_of c) (wires.outputs_of c) refl (own_ports comps rules design lowered n c here registers new) (pin m.port.name m.port.width) (pins.data_outs m.port (found_among test outs m.port m.found)) in
      good_set design low (own output) None (lowered_value l value) m.port.width (subst (λ (x : Text). IsDriven design low (own x) m.port.width) is_named driven) (good_always design low)
      (value_good comps rules n c here design lowered registers new value m.port.width m.wide)

  module _ (enough : HasEnoughBits (lowering_with (take n comps) c registers)) where
    pub set_is : (a : Assignment) → Contains (lowered_sets l) a → IsSet l a
    set_is a has = All-contains (IsSet l) (lowered_sets l) a (sets_are (take n comps) c registers enough (sound_at comps rules n c here).names (all_called comps rules n c here)) has

    pub sets_good : (a : Assignment) → Contains (lowered_sets l) a → IsGoodSet design low a
    sets_good a has = set_good a (set_is a has)
