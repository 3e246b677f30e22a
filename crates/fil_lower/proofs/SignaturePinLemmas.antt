-- The pins of what a signature stands for: a pin for each data port, and one of one bit for each interface port.
use Rattle.std.proofs.Common.{◌≡◌, ℕ, true, List, [], ◌∷◌, ◌++◌, map, All, Some, None, codes, refl, sym, ap, ap₂, subst, ◌∙◌, inl, inr, arith}
use Rattle.std.specs.Prelude.{Contains}
use Rattle.std.proofs.lemmas.Bool.{false≢true}
use Rattle.std.proofs.lemmas.List.{map-append}
use Rattle.std.proofs.lemmas.List.Elements.{All-append, All-contains, All-map, Contains-append_left, Contains-append_right}
use Rattle.std.proofs.lemmas.Option.{none-some, same_Some}
use Rattle.std.proofs.lemmas.Simd.{map-map}
use Rattle.hw_names.specs.Name.{Text, AreDistinct, IsPlain}
use Rattle.hw_prims.specs.Filament.{data_inputs, data_outputs, go_of, is_data_pin, is_timed}
use Rattle.hw_prims.specs.Meaning.{is_through}
use Rattle.hw_prims.specs.Memory.{keeps_words}
use Rattle.hw_prims.specs.Table.{Pin, inputs_of, outputs_of, pin, pin_names, prim_of}
use Rattle.hw_prims.specs.declared.prim.Primitive.{Primitive}
use Rattle.hw_prims.specs.declared.prim.Primitive.TheVariants.{StdReg, StdMemD1, StdMemD2, StdMultPipe, FilDelay, FilFastMult, FilSeqMult}
use Rattle.hw_prims.proofs.PortNameLemmas.{has_names, pins_differ}
use Rattle.fil_ast.specs.Naming.{port_names}
use Rattle.fil_ast.specs.Plain as plain
use Rattle.fil_ast.specs.Primitives.{Timing, input_port, output_port, signature_by}
use Rattle.fil_ast.specs.Signature as signature
use Rattle.fil_ast.specs.Signature.{SigEvent, SigPort, Signature, component_signature, sig_event, sig_port}
use Rattle.fil_ast.specs.Tree.{Component, DataPort, Interface}
use Rattle.fil_ast.specs.Typing.{HasShape}
use Rattle.fil_promise.specs.Refines as wires
use Rattle.fil_lower.proofs.GuardBitLemmas.{interface_is}
use Rattle.fil_lower.proofs.ListLemmas.{contains_none, filter_among, first_or_later}
use Rattle.fil_lower.proofs.NameLemmas.{from_map}
use Rattle.fil_lower.proofs.TimedAsLemmas.{contains_map}
use Rattle.fil_lower.proofs.TimingLemmas.{IsTiming, Plain, Register}

-- these are the pins of what the signature stands for
pub record HasPins (sig : Signature) (ins outs : List Pin) : Type 0 where
  pub distinct : AreDistinct (pin_names (ins ++ outs))
  pub data_ins : (q : SigPort) → Contains sig.ins q → Contains ins (pin q.name q.width)
  pub data_outs : (q : SigPort) → Contains sig.outs q → Contains outs (pin q.name q.width)
  pub gos : (e : SigEvent) (go : Text) → Contains sig.events e → e.go ≡ Some go → Contains ins (pin go 1)

-- ---- primitives

go_pin : (prim : Primitive) (go : Text) → go_of prim ≡ Some go → Contains (inputs_of prim) (pin go 1)
unfolding go_of inputs_of
go_pin (StdReg w) go is = subst (λ (name : Text). Contains (pin (codes "in") w ∷ pin (codes "write_en") 1 ∷ []) (pin name 1)) (same_Some (codes "write_en") go is) (1, omega arith, refl)
go_pin (FilSeqMult w) go is = subst (λ (name : Text). Contains (pin (codes "go") 1 ∷ pin (codes "left") w ∷ pin (codes "right") w ∷ []) (pin name 1)) (same_Some (codes "go") go is) (0, omega arith, refl)
go_pin prim go is = absurd (none-some go is)

event_go : (t : Timing) (prim : Primitive) → IsTiming t prim → (e : SigEvent) (go : Text) → Contains t.events e → e.go ≡ Some go → go_of prim ≡ Some go
unfolding go_of
event_go t prim (Plain rows latency g prim' some timed fixed is_go port) e go has is =
    elim (first_or_later (record { name = codes "G"; delay = signature.Fixed rows; go = g }) [] e has) [
      | inl same ↦ is_go ∙ ap (λ (x : SigEvent). x.go) same ∙ is
      | inr later ↦ absurd (contains_none e later)
    ]
event_go t prim (Register w) e go has is =
    let first : SigEvent = record { name = codes "G"; delay = signature.Gap; go = Some (codes "write_en") } in
    let last : SigEvent = record { name = codes "L"; delay = signature.End; go = None } in
    elim (first_or_later first (last ∷ []) e has) [
      | inl same ↦ ap (λ (x : SigEvent). x.go) same ∙ is
      | inr later ↦
          elim (first_or_later last [] e later) [
            | inl same ↦ absurd (none-some go (ap (λ (x : SigEvent). x.go) same ∙ is))
            | inr none ↦ absurd (contains_none e none)
          ]
    ]

pub primitive_pins : (name : Text) (params : List ℕ) (t : Timing) (prim : Primitive) → prim_of name params ≡ Some prim → IsTiming t prim → HasPins (signature_by t prim) (inputs_of prim) (outputs_of prim)
primitive_pins name params t prim is timing = record {
  distinct = pins_differ name prim (has_names name params prim is);
  data_ins = λ q has.
      let m = from_map input_port (data_inputs prim) q has in
      subst (λ (x : SigPort). Contains (inputs_of prim) (pin x.name x.width)) m.2 (filter_among is_data_pin (inputs_of prim) m.0 m.1);
  data_outs = λ q has.
      let m = from_map (output_port t) (data_outputs prim) q has in
      subst (λ (x : SigPort). Contains (outputs_of prim) (pin x.name x.width)) m.2 (filter_among is_data_pin (outputs_of prim) m.0 m.1);
  gos = λ e go has is_go. go_pin prim go (event_go t prim timing e go has is_go);
}

-- what depends on an input within a row has data pins alone
pub through_data : (prim : Primitive) (input output : Text) → is_timed prim ≡ true → is_through prim input output ≡ true → (data_inputs prim ≡ inputs_of prim) × (data_outputs prim ≡ outputs_of prim)
unfolding is_timed is_through keeps_words inputs_of outputs_of
through_data (StdReg w) input output timed through = absurd (false≢true through)
through_data (StdMemD1 w size idx) input output timed through = absurd (false≢true timed)
through_data (StdMemD2 w size0 size1 idx0 idx1) input output timed through = absurd (false≢true timed)
through_data (StdMultPipe w) input output timed through = absurd (false≢true timed)
through_data (FilDelay w) input output timed through = absurd (false≢true through)
through_data (FilFastMult w) input output timed through = absurd (false≢true through)
through_data (FilSeqMult w) input output timed through = absurd (false≢true through)
through_data prim input output timed through = (refl, refl)

-- ---- components

pub names_of_pins : (d : Component) → pin_names (wires.inputs_of d ++ wires.outputs_of d) ≡ port_names d
names_of_pins d =
    let name = λ (p : Pin). p.name in
    let interface = λ (g : Interface). pin g.name g.width in
    let data_pin = λ (p : DataPort). pin p.name p.width in
    map-append name (map interface d.interfaces ++ map data_pin d.ins) (map data_pin d.outs)
    ∙ ap₂ ◌++◌
    (map-append name (map interface d.interfaces) (map data_pin d.ins) ∙ ap₂ ◌++◌ (map-map name interface d.interfaces) (map-map name data_pin d.ins))
    (map-map name data_pin d.outs)

pub component_pins : (d : Component) → AreDistinct (port_names d) → HasShape d → HasPins (component_signature d) (wires.inputs_of d) (wires.outputs_of d)
component_pins d distinct shape = record {
  distinct = (let D : List Text → Type 0 = AreDistinct in subst D (sym (names_of_pins d)) distinct);
  data_ins = λ q has.
      let m = from_map (sig_port d.events) d.ins q has in
      Contains-append_right (map (λ (g : Interface). pin g.name g.width) d.interfaces) (map (λ (p : DataPort). pin p.name p.width) d.ins) (pin q.name q.width)
      (subst (λ (x : SigPort). Contains (map (λ (p : DataPort). pin p.name p.width) d.ins) (pin x.name x.width)) m.2 (contains_map (λ (p : DataPort). pin p.name p.width) d.ins m.0 m.1));
  data_outs = λ q has.
      let m = from_map (sig_port d.events) d.outs q has in
      subst (λ (x : SigPort). Contains (map (λ (p : DataPort). pin p.name p.width) d.outs) (pin x.name x.width)) m.2 (contains_map (λ (p : DataPort). pin p.name p.width) d.outs m.0 m.1);
  gos = λ e go has is.
      let m = from_map (sig_event d.interfaces) d.events e has in
      let g = interface_is d.interfaces m.0.name go (ap (λ (x : SigEvent). x.go) m.2 ∙ is) in
      let wide : g.0.width ≡ 1 = All-contains (λ (g : Interface). g.width ≡ 1) d.interfaces g.0 shape.one_bit g.1 in
      Contains-append_left (map (λ (g : Interface). pin g.name g.width) d.interfaces) (map (λ (p : DataPort). pin p.name p.width) d.ins) (pin go 1)
      (subst (λ (p : Pin). Contains (map (λ (g : Interface). pin g.name g.width) d.interfaces) p) (ap₂ pin g.2 wide) (contains_map (λ (g : Interface). pin g.name g.width) d.interfaces g.0 g.1));
}

-- ---- plain names

pub component_plain : (d : Component) → plain.IsPlainComponent d → All (λ (p : Pin). IsPlain p.name) (wires.inputs_of d ++ wires.outputs_of d)
component_plain d is =
    let P : Pin → Type 0 = λ p. IsPlain p.name in
    All-append P (wires.inputs_of d) (wires.outputs_of d)
    (All-append P (map (λ (g : Interface). pin g.name g.width) d.interfaces) (map (λ (p : DataPort). pin p.name p.width) d.ins)
    (All-map P (λ (g : Interface). pin g.name g.width) d.interfaces is.interfaces) (All-map P (λ (p : DataPort). pin p.name p.width) d.ins is.ins))
    (All-map P (λ (p : DataPort). pin p.name p.width) d.outs is.outs)
