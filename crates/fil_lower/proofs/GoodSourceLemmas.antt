-- What the assignments of a lowered component read: bits of one bit, and values of the width that they are asked for.
use Rattle.std.proofs.Common.{◌≡◌, ℕ, List, [], ◌∷◌, map, take, slice_get, All, Option, Some, None, codes, refl, sym, ap, subst, ◌∙◌, lit<, arith}
use Rattle.std.specs.Option.{option_and_then, option_map_or}
use Rattle.std.specs.Prelude.{Contains, bytes_eq}
use Rattle.std.proofs.lemmas.List.Elements.{All-cons, All-contains, All-head, All-nil, All-tail, All-weaker, Contains-append_left}
use Rattle.std.proofs.lemmas.Option.{option_and_then_some, same_Some}
use Rattle.std.proofs.lemmas.Slice.Eq.{bytes_eq-Decides}
use Rattle.hw_names.specs.Name.{Text}
use Rattle.hw_prims.specs.Table.{inputs_of, outputs_of, pin}
use Rattle.hw_prims.specs.declared.prim.Primitive.TheVariants.{StdReg}
use Rattle.net_core.specs.Graph.{guards_ports, option_ports, source_ports}
use Rattle.net_core.specs.Guard.{GuardTree, Reads, guards_of}
use Rattle.net_core.specs.declared.net.Src.{Src}
use Rattle.net_core.specs.declared.net.Src.TheVariants.{Port, Lit}
use Rattle.cal_ast.specs.Naming.{IsKnownPort}
use Rattle.cal_ast.specs.Sides.{IsSource}
use Rattle.cal_ast.specs.Tree as calyx
use Rattle.cal_ast.specs.Tree.{PortName, own, port_of}
use Rattle.cal_ast.specs.Typing.{GuardsAgree, LiteralFits, OptionAgrees, source_width}
use Rattle.fil_ast.specs.Rules.{FilRules}
use Rattle.fil_ast.specs.Scope.{Instance, Invocation, Result, Scope, input_of, instance_signature, invocation_named, result_at, result_of, sig_port_named}
use Rattle.fil_ast.specs.Signature.{SigPort, Signature, component_signature, sig_port}
use Rattle.fil_ast.specs.Tree.{Component, DataPort, Design, Interface, ValueTree, InputValue, OutputValue, Literal}
use Rattle.fil_ast.specs.Typing.{value_width}
use Rattle.fil_ast.specs.Wires.{whole_scope}
use Rattle.fil_promise.specs.Refines as wires
use Rattle.fil_lower.specs.inside.Lowering.{HasNewRegisters, IsLoweringOf, Lowering, Registers, any_of, lowered_component, lowered_value, lowering_with}
use Rattle.fil_lower.proofs.AvailableLemmas.{found_passes, mapped_from}
use Rattle.fil_lower.proofs.CallLemmas.{found_among, sound_at}
use Rattle.fil_lower.proofs.GuardBitLemmas.{IsBit, Later, Start, IsGuard, Always, Where}
use Rattle.fil_lower.proofs.MadeLemmas.{instance_signed}
use Rattle.fil_lower.proofs.SignaturePinLemmas.{HasPins, component_pins}
use Rattle.fil_lower.proofs.FoundPortLemmas.{IsRead, cell_read, instance_ports, own_distinct, own_ports, own_read, register_ports}
use Rattle.fil_lower.proofs.TimedAsLemmas.{contains_map}
use Rattle.fil_lower.proofs.WidthLemmas.{IsOfWidth}

-- ---- guards

pub ports_of_any : (bits : List PortName) → option_ports (Some (any_of bits)) ≡ bits
ports_of_any [] = refl
ports_of_any (bit ∷ []) = refl
ports_of_any (bit ∷ next ∷ bits) = each (bit ∷ next ∷ bits)
  where
    each : (bits : List PortName) → guards_ports (guards_of (map (λ (p : PortName). Reads (Port p)) bits)) ≡ bits
    each [] = refl
    each (bit ∷ bits) = ap (λ (ps : List PortName). bit ∷ ps) (each bits)

-- a guard that may stand at an assignment
pub record IsGoodGuard (design : calyx.Design) (c : calyx.Component) (guard : Option (GuardTree PortName)) : Type 0 where
  pub known : All (IsKnownPort design c) (option_ports guard)
  pub agrees : OptionAgrees design c guard
  pub reads : All (IsSource design c) (option_ports guard)

-- a source of this width that may be read
pub record IsGoodSource (design : calyx.Design) (c : calyx.Component) (src : Src PortName) (width : ℕ) : Type 0 where
  pub known : All (IsKnownPort design c) (source_ports src)
  pub wide : source_width design c src ≡ Some width
  pub fits : LiteralFits src
  pub reads : All (IsSource design c) (source_ports src)

module _ (design : calyx.Design) (c : calyx.Component) where
  abbrev IsReadBit : PortName → Type 0
  IsReadBit p = IsRead design c p 1

  any_agrees : (bits : List PortName) → All IsReadBit bits → OptionAgrees design c (Some (any_of bits))
  any_agrees [] all = (((omega arith, omega arith), lit< tt), refl)
  any_agrees (bit ∷ []) all = (tt, (All-head IsReadBit bit [] all).wide)
  any_agrees (bit ∷ next ∷ bits) all = each (bit ∷ next ∷ bits) all
    where
      each : (bits : List PortName) → All IsReadBit bits → GuardsAgree design c (guards_of (map (λ (p : PortName). Reads (Port p)) bits))
      each [] all = tt
      each (bit ∷ bits) all = ((tt, (All-head IsReadBit bit bits all).wide), each bits (All-tail IsReadBit bit bits all))

  pub good_any : (bits : List PortName) → All IsReadBit bits → IsGoodGuard design c (Some (any_of bits))
  good_any bits all = record {
    known = subst (All (IsKnownPort design c)) (sym (ports_of_any bits)) (All-weaker IsReadBit (IsKnownPort design c) (λ p is. is.known) bits all);
    agrees = any_agrees bits all;
    reads = subst (All (IsSource design c)) (sym (ports_of_any bits)) (All-weaker IsReadBit (IsSource design c) (λ p is. is.source) bits all);
  }

  pub good_always : IsGoodGuard design c None
  good_always = record { known = All-nil (IsKnownPort design c); agrees = tt; reads = All-nil (IsSource design c) }

  pub good_port : (p : PortName) (width : ℕ) → IsRead design c p width → IsGoodSource design c (Port p) width
  good_port p width is = record {
    known = All-cons (IsKnownPort design c) p [] is.known (All-nil (IsKnownPort design c));
    wide = is.wide;
    fits = tt;
    reads = All-cons (IsSource design c) p [] is.source (All-nil (IsSource design c));
  }

  pub good_literal : (width value : ℕ) → LiteralFits (Lit width value) → IsGoodSource design c (Lit width value) width
  good_literal width value fits = record { known = All-nil (IsKnownPort design c); wide = refl; fits = fits; reads = All-nil (IsSource design c) }

-- ---- values

module _ (comps : Design) (rules : FilRules comps) (n : ℕ) (c : Component) (here : slice_get comps n ≡ Some c) where
  abbrev scope : Scope
  scope = whole_scope (take n comps) c

  -- a value that is a data input of the component, of this width
  pub record IsInput (name : Text) (width : ℕ) : Type 0 where
    pub port : SigPort
    pub of : Contains (map (sig_port c.events) c.ins) port
    pub is_named : port.name ≡ name
    pub is_wide : port.width ≡ width

  -- a value that is an output of an instance
  pub record IsResult (invocation name : Text) (width : ℕ) : Type 0 where
    pub v : Invocation
    pub found : invocation_named scope.invocations invocation ≡ Some v
    pub i : Instance
    pub of : Contains scope.instances i
    pub is_inst : i.name ≡ v.inst
    pub sig : Signature
    pub signed : instance_signature scope i.name ≡ Some sig
    pub port : SigPort
    pub of_port : Contains sig.outs port
    pub is_named : port.name ≡ name
    pub is_wide : port.width ≡ width

  pub input_is : (name : Text) (width : ℕ) → value_width scope (InputValue name) ≡ Some width → IsInput name width
  input_is name width is =
      mapped_from (λ (p : SigPort). p.width) (input_of scope name) width is (λ p found wide. record {
        port = p;
        of = found_among (λ (q : SigPort). bytes_eq q.name name) (map (sig_port c.events) c.ins) p found;
        is_named = (bytes_eq-Decides p.name name).0 (found_passes (λ (q : SigPort). bytes_eq q.name name) (map (sig_port c.events) c.ins) p found);
        is_wide = wide;
      })

  pub result_is : (invocation name : Text) (width : ℕ) → value_width scope (OutputValue invocation name) ≡ Some width → IsResult invocation name width
  result_is invocation name width is =
      mapped_from (λ (r : Result). r.port.width) (result_of scope invocation name) width is (λ r result wide.
      option_and_then_some (λ (v : Invocation). result_at scope v name) (invocation_named scope.invocations invocation) r result (λ v found at_v.
      mapped_from (λ (p : SigPort). record { invocation = v; port = p }) (option_and_then (λ (s : Signature). sig_port_named s.outs name) (instance_signature scope v.inst)) r at_v (λ p found_p made.
      option_and_then_some (λ (s : Signature). sig_port_named s.outs name) (instance_signature scope v.inst) p found_p (λ sig signed named.
      let i = instance_signed comps rules n c here v.inst sig signed in
      record {
        v = v;
        found = found;
        i = i.0;
        of = i.1;
        is_inst = i.2;
        sig = sig;
        signed = ap (instance_signature scope) i.2 ∙ signed;
        port = p;
        of_port = found_among (λ (q : SigPort). bytes_eq q.name name) sig.outs p named;
        is_named = (bytes_eq-Decides p.name name).0 (found_passes (λ (q : SigPort). bytes_eq q.name name) sig.outs p named);
        is_wide = ap (λ (r : Result). r.port.width) made ∙ wide;
      }))))

  module _ (design : calyx.Design) (lowered : IsLoweringOf comps design) (registers : Registers) (new : HasNewRegisters (lowering_with (take n comps) c registers)) where
    abbrev l : Lowering
    l = lowering_with (take n comps) c registers

    abbrev low : calyx.Component
    low = lowered_component l

    own_pins : HasPins (component_signature c) (wires.inputs_of c) (wires.outputs_of c)
    own_pins = component_pins c (own_distinct comps rules design lowered n c here) (sound_at comps rules n c here).shape

    pub bit_read : (bit : PortName) → IsBit l bit → IsRead design low bit 1
    unfolding outputs_of
    bit_read bit (Start g has) =
        let wide : g.width ≡ 1 = All-contains (λ (g : Interface). g.width ≡ 1) c.interfaces g (sound_at comps rules n c here).shape.one_bit has in
        subst (IsRead design low (own g.name)) wide
        (own_read design low (wires.inputs_of c) (wires.outputs_of c) (own_ports comps rules design lowered n c here registers new) (pin g.name g.width)
        (Contains-append_left (map (λ (g : Interface). pin g.name g.width) c.interfaces) (map (λ (p : DataPort). pin p.name p.width) c.ins) (pin g.name g.width) (contains_map (λ (g : Interface). pin g.name g.width) c.interfaces g has)))
    bit_read bit (Later name has) =
        cell_read design low (inputs_of (StdReg 1)) (outputs_of (StdReg 1)) name (register_ports comps rules design lowered n c here registers new name has) (pin (codes "out") 1) (0, omega arith, refl)

    pub guard_good : (guard : Option (GuardTree PortName)) → IsGuard l guard → IsGoodGuard design low guard
    guard_good guard Always = good_always design low
    guard_good guard (Where bits all) = good_any design low bits (All-weaker (IsBit l) (λ (p : PortName). IsRead design low p 1) bit_read bits all)

    pub value_good : (value : ValueTree) (width : ℕ) → IsOfWidth scope value width → IsGoodSource design low (lowered_value l value) width
    value_good (InputValue name) width is =
        let m = input_is name width is.wide in
        subst (IsGoodSource design low (Port (own name))) m.is_wide
        (subst (λ (x : Text). IsGoodSource design low (Port (own x)) m.port.width) m.is_named
        (good_port design low (own m.port.name) m.port.width
        (own_read design low (wires.inputs_of c) (wires.outputs_of c) (own_ports comps rules design lowered n c here registers new) (pin m.port.name m.port.width) (own_pins.data_ins m.port m.of))))
    value_good (OutputValue invocation name) width is =
        let m = result_is invocation name width is.wide in
        let ports = instance_ports comps rules design lowered n c here registers new m.i m.of m.sig m.signed in
        subst (IsGoodSource design low (lowered_value l (OutputValue invocation name))) m.is_wide
        (subst (λ (o : Option Invocation). IsGoodSource design low (Port (port_of (option_map_or (λ (v : Invocation). v.inst) o []) name)) m.port.width) (sym m.found)
        (subst (λ (x : Text). IsGoodSource design low (Port (port_of x name)) m.port.width) m.is_inst
        (subst (λ (x : Text). IsGoodSource design low (Port (port_of m.i.name x)) m.port.width) m.is_named
        (good_port design low (port_of m.i.name m.port.name) m.port.width
        (cell_read design low ports.ins ports.outs m.i.name ports.ports (pin m.port.name m.port.width) (ports.pins.data_outs m.port m.of_port))))))
    value_good (Literal w x) width is = subst (IsGoodSource design low (Lit w x)) (same_Some w width is.wide) (good_literal design low w x is.fits)
