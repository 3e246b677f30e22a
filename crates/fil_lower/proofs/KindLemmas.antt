-- An edge of a lowered component's wire graph leads to a bit, to an interface port of an instance, or is an edge of the Filament component.
use Rattle.std.proofs.Common.{◌≡◌, ℕ, zero, suc, ◌<◌, ◌≤◌, true, List, [], ◌∷◌, ◌++◌, length, map, take, slice_get, Option, Some, codes, sym, ap, ap₂, subst, ◌∙◌, inl, inr, arith}
use Rattle.std.specs.Option.{option_and_then, option_map_or}
use Rattle.std.specs.Prelude.{Contains}
use Rattle.std.proofs.lemmas.Bool.{cases_lt}
use Rattle.std.proofs.lemmas.List.{map-append, reverse-reverse}
use Rattle.std.proofs.lemmas.List.Elements.{All-contains, Contains-append_cases}
use Rattle.std.proofs.lemmas.Option.{none-some, option_and_then_some, same_Some, slice_get_within}
use Rattle.std.proofs.lemmas.Simd.{map-map}
use Rattle.hw_names.specs.Name.{Text, dotted}
use Rattle.hw_prims.specs.Filament.{data_inputs, data_outputs}
use Rattle.hw_prims.specs.Meaning.{is_through}
use Rattle.hw_prims.specs.Table.{Pin, inputs_of, outputs_of, pin, pin_names, prim_of}
use Rattle.hw_prims.specs.declared.prim.Primitive.{Primitive}
use Rattle.hw_prims.specs.declared.prim.Primitive.TheVariants.{StdReg}
use Rattle.net_core.specs.Graph.{option_ports, source_ports}
use Rattle.cal_ast.specs.Ports.{cell_named, inputs_in, outputs_in, part_in, part_of, primitive_in, primitive_of}
use Rattle.cal_ast.specs.Tree as calyx
use Rattle.cal_ast.specs.Tree.{Assignment, CellDef, PortName, own, port_of}
use Rattle.cal_ast.specs.Wires.{Reaches, set_ports, shown}
use Rattle.fil_ast.specs.Primitives.{filament_primitive, input_port, output_port, timing_of}
use Rattle.fil_ast.specs.Rules.{FilRules}
use Rattle.fil_ast.specs.Scope.{Instance, Invocation, instance_signature}
use Rattle.fil_ast.specs.Signature.{Signature, sig_port}
use Rattle.fil_ast.specs.Tree.{Component, DataPort, Design, Interface, ValueTree, Connect, InputValue, OutputValue, Literal}
use Rattle.fil_ast.specs.Wires as texts
use Rattle.fil_ast.specs.Wires.{IsPortOf, OwnInput, ByInvocation, ByArgument, ByConnection, ByInstance, through_before, through_of, whole_scope}
use Rattle.fil_fsm.specs.Chain.{register}
use Rattle.fil_promise.specs.Refines as wires
use Rattle.fil_lower.specs.inside.Lowering.{IsLoweringOf, Lowering, lowered_cell, lowered_component, lowered_value}
use Rattle.fil_lower.proofs.DesignLemmas.{turned}
use Rattle.fil_lower.proofs.EdgeLemmas.{IsEdge, BySet, Through, Inside, IsStart, cell_of, guard_bit, no_part, register_no_through, set_of}
use Rattle.fil_lower.proofs.GuardBitLemmas.{IsBit}
use Rattle.fil_lower.proofs.ListLemmas.{contains_none, first_or_later}
use Rattle.fil_lower.proofs.LoweredLemmas.{IsLowered, IsCellOf, OfInstance, OfRegister, component_cell, is_made_of, lowered_at, lowering_at, names_primitive, no_primitive_cell, primitive_cell, register_made}
use Rattle.fil_lower.proofs.MadeLemmas.{OfPrimitive, OfComponent, is_instance}
use Rattle.fil_lower.proofs.NameLemmas.{from_map}
use Rattle.fil_lower.proofs.SignaturePinLemmas.{through_data}
use Rattle.fil_lower.proofs.SetLemmas.{IsSet, Takes, Enables, Gives, Starts, Connects}
use Rattle.fil_lower.proofs.GoodSourceLemmas.{result_is}
use Rattle.fil_lower.proofs.TimedAsLemmas.{contains_map}
use Rattle.fil_lower.proofs.TimingLemmas.{filament_is_timed}
use Rattle.fil_lower.proofs.UseLemmas.{some_at}
use Rattle.fil_lower.proofs.WidthLemmas.{GivesWide, IsOfWidth, all_wide, connects_wide}

-- what the relation of the components before component n says of component m
pub through_there : (comps : Design) (n m : ℕ) (d : Component) (input output : Text) → n ≤ length comps → m < n → slice_get comps m ≡ Some d →
    texts.Reaches (through_before (take m comps)) (whole_scope (take m comps) d) input output → through_before (take n comps) d.name output input
through_there comps zero m d input output within below at reaches = absurd (omega (arith, below))
through_there comps (suc n) m d input output within below at reaches =
    let x = some_at comps n (omega (arith, within)) in
    subst (λ (cs : List Component). through_of cs d.name output input) (sym (turned comps n x.0 x.1))
    (elim (cases_lt m n) [
      | inl less ↦ inr (through_there comps n m d input output (omega (arith, within)) less at reaches)
      | inr ge ↦
          let number : m ≡ n = omega (arith, ge, below) in
          let same : d ≡ x.0 = same_Some d x.0 (sym at ∙ ap (slice_get comps) number ∙ x.1) in
          let R : ℕ → Component → Type 0 = λ k e. texts.Reaches (through_before (take k comps)) (whole_scope (take k comps) e) input output in
          let here : R n x.0 = subst (R n) same (subst (λ (k : ℕ). R k d) number reaches) in
          inl (
            ap (λ (e : Component). e.name) same,
            subst (λ (before : Design). texts.Reaches (through_before (take n comps)) (whole_scope before x.0) input output) (sym (reverse-reverse (take n comps))) here,
          )
    ])

input_names : (d : Component) → pin_names (wires.inputs_of d) ≡ map (λ (g : Interface). g.name) d.interfaces ++ map (λ (p : DataPort). p.name) d.ins
input_names d =
    let name = λ (p : Pin). p.name in
    map-append name (map (λ (g : Interface). pin g.name g.width) d.interfaces) (map (λ (p : DataPort). pin p.name p.width) d.ins)
    ∙ ap₂ ◌++◌ (map-map name (λ (g : Interface). pin g.name g.width) d.interfaces) (map-map name (λ (p : DataPort). pin p.name p.width) d.ins)

module _ (comps : Design) (rules : FilRules comps) (design : calyx.Design) (lowered : IsLoweringOf comps design) where
  -- where an output of component m reaches a data input in the lowered component, it does in the text
  abbrev pub ReachesAlike : (m : ℕ) (d : Component) → slice_get comps m ≡ Some d → Type 0
  ReachesAlike m d at =
      (input output : Text) → Contains (map (λ (p : DataPort). p.name) d.ins) input → Reaches design (lowered_component (lowering_at comps design m d (lowered_at comps design lowered m d at))) (own output) (own input) →
      texts.Reaches (through_before (take m comps)) (whole_scope (take m comps) d) input output

  module _ (n : ℕ) (c : Component) (here : slice_get comps n ≡ Some c) (before : (m : ℕ) (d : Component) (at : slice_get comps m ≡ Some d) → m < n → ReachesAlike m d at) where
    abbrev lw : IsLowered comps design n c
    lw = lowered_at comps design lowered n c here

    abbrev l : Lowering
    l = lowering_at comps design n c lw

    abbrev low : calyx.Component
    low = lowered_component l

    -- the text has the edge
    abbrev pub ReadsText : PortName → PortName → Type 0
    ReadsText p q = texts.ReadsPort (through_before (take n comps)) l.scope (shown p) (shown q)

    pub data IsKind (p q : PortName) : Type 0 where
      InText : ReadsText p q → IsKind p q
      ToBit : IsBit l q → IsKind p q
      ToStart : IsStart comps rules design lowered n c here q → IsKind p q

    -- what a value is read from
    value_port : (value : ValueTree) (width : ℕ) → IsOfWidth l.scope value width → (q : PortName) → Contains (source_ports (lowered_value l value)) q → IsPortOf l.scope value (shown q)
    value_port (Literal w x) width is q has = absurd (contains_none q has)
    value_port (InputValue name) width is q has =
        elim (first_or_later (own name) [] q has) [ inl same ↦ subst (λ (p : PortName). IsPortOf l.scope (InputValue name) (shown p)) same (OwnInput name) | inr none ↦ absurd (contains_none q none) ]
    value_port (OutputValue invocation name) width is q has =
        let m = result_is comps rules n c here invocation name width is.wide in
        let there : Contains (port_of m.v.inst name ∷ []) q = subst (λ (o : Option Invocation). Contains (port_of (option_map_or (λ (v : Invocation). v.inst) o []) name ∷ []) q) m.found has in
        elim (first_or_later (port_of m.v.inst name) [] q there) [
          | inl same ↦ subst (λ (p : PortName). IsPortOf l.scope (OutputValue invocation name) (shown p)) same (ByInvocation invocation name m.v m.found)
          | inr none ↦ absurd (contains_none q none)
        ]

    set_kind : (a : Assignment) → IsSet l a → (p q : PortName) → a.dst ≡ p → Contains (set_ports a) q → IsKind p q
    set_kind a (Takes name bit has is) p q dst reads = elim (first_or_later bit [] q reads) [ inl same ↦ ToBit (subst (IsBit l) same is) | inr none ↦ absurd (contains_none q none) ]
    set_kind a (Enables name has) p q dst reads = absurd (contains_none q reads)
    set_kind a (Starts i sig e go guard of signed of_e is_go is_guard) p q dst reads =
        elim (Contains-append_cases (option_ports guard) [] q reads) [ inl in_guard ↦ ToBit (guard_bit comps rules design lowered n c here guard is_guard q in_guard) | inr none ↦ absurd (contains_none q none) ]
    set_kind a (Gives v sig k arg port guard of signed at_arg at_port is_guard) p q dst reads =
        elim (Contains-append_cases (option_ports guard) (source_ports (lowered_value l arg)) q reads) [
          | inl in_guard ↦ ToBit (guard_bit comps rules design lowered n c here guard is_guard q in_guard)
          | inr in_src ↦
              let wide = All-contains (GivesWide l.scope) l.scope.invocations v (all_wide comps rules n c here) of sig k arg port signed at_arg at_port in
              InText
              (ByArgument
              (record {
                invocation = v;
                invoked = of;
                signature = sig;
                signed = signed;
                place = k;
                value = arg;
                given = at_arg;
                input = port;
                taken = at_port;
                is_port = ap shown dst;
                is_other = value_port arg port.width wide q in_src;
              }))
        ]
    set_kind a (Connects output value of) p q dst reads =
        let m = connects_wide comps rules n c here output value of in
        let there : Contains c.body (Connect (shown p) value) = subst (λ (x : Text). Contains c.body (Connect x value)) (ap shown dst) of in
        InText (ByConnection (record { value = value; connected = there; is_other = value_port value m.port.width m.wide q reads }))

    -- ---- within a primitive

    primitive_kind : (i : Instance) → Contains l.scope.instances i → (sig : Signature) → instance_signature l.scope i.name ≡ Some sig → (k : OfPrimitive i sig) → (input output : Text) →
        Contains (pin_names (inputs_of k.prim)) input → Contains (pin_names (outputs_of k.prim)) output → is_through k.prim input output ≡ true → (p q : PortName) → port_of i.name output ≡ p → port_of i.name input ≡ q → IsKind p q
    primitive_kind i of sig signed k input output of_in of_out through p q at_p at_q =
        let t = timing_of i.made in
        let made : filament_primitive i.made i.params ≡ Some k.prim = ap (option_and_then (λ (t : Text). prim_of t i.params)) k.told ∙ k.is in
        let only = through_data k.prim input output (filament_is_timed i.made i.params k.prim made) through in
        let x = from_map (λ (p : Pin). p.name) (inputs_of k.prim) input of_in in
        let y = from_map (λ (p : Pin). p.name) (outputs_of k.prim) output of_out in
        let in_ins : Contains sig.ins (input_port x.0) =
        subst (λ (s : Signature). Contains s.ins (input_port x.0)) k.same (contains_map input_port (data_inputs k.prim) x.0 (subst (λ (ps : List Pin). Contains ps x.0) (sym only.0) x.1)) in
        let in_outs : Contains sig.outs (output_port t y.0) =
        subst (λ (s : Signature). Contains s.outs (output_port t y.0)) k.same (contains_map (output_port t) (data_outputs k.prim) y.0 (subst (λ (ps : List Pin). Contains ps y.0) (sym only.1) y.1)) in
        let depends : is_through k.prim x.0.name y.0.name ≡ true = ap₂ (is_through k.prim) x.2 y.2 ∙ through in
        InText
        (ByInstance
        (record {
          instance = i;
          has = of;
          signature = sig;
          signed = signed;
          input = input_port x.0;
          output = output_port t y.0;
          has_input = in_ins;
          has_output = in_outs;
          depends = texts.OfPrimitive k.prim made depends;
          is_port = ap (dotted i.name) y.2 ∙ ap shown at_p;
          is_other = ap (dotted i.name) x.2 ∙ ap shown at_q;
        }))

    through_kind : (cell : Text) (prim : Primitive) (input output : Text) → primitive_in low cell ≡ Some prim → Contains (pin_names (inputs_of prim)) input → Contains (pin_names (outputs_of prim)) output → is_through prim input output ≡ true →
        (p q : PortName) → port_of cell output ≡ p → port_of cell input ≡ q → IsKind p q
    through_kind cell prim input output is of_in of_out through p q at_p at_q =
        option_and_then_some primitive_of (cell_named low.cells cell) prim is (λ d found made. let x = cell_of comps rules design lowered n c here cell d found in by d x.0 x.1 made)
      where
        by : (d : CellDef) → IsCellOf comps rules design lowered n c here lw.registers lw.new d → d.name ≡ cell → primitive_of d ≡ Some prim → IsKind p q
        by d (OfRegister name has) named made = absurd (register_no_through prim input output (same_Some prim (StdReg 1) (sym made ∙ register_made name)) through)
        by d (OfInstance i of) named made =
            let f = is_instance comps rules n c here i of in
            elim f.kind [
              | inl k ↦
                  let same : prim ≡ k.prim = same_Some prim k.prim (sym made ∙ primitive_cell comps rules design lowered n i f.sig k) in
                  primitive_kind i of f.sig f.signed k input output (subst (λ (x : Primitive). Contains (pin_names (inputs_of x)) input) same of_in) (subst (λ (x : Primitive). Contains (pin_names (outputs_of x)) output) same of_out)
                  (subst (λ (x : Primitive). is_through x input output ≡ true) same through) p q (ap (λ (x : Text). port_of x output) named ∙ at_p) (ap (λ (x : Text). port_of x input) named ∙ at_q)
              | inr k ↦ absurd (none-some prim (sym (no_primitive_cell comps rules design lowered n i f.sig k) ∙ made))
            ]

    -- ---- within a component

    component_kind : (i : Instance) → Contains l.scope.instances i → (sig : Signature) → instance_signature l.scope i.name ≡ Some sig → (k : OfComponent comps n i sig) → (input output : Text) →
        Contains (pin_names (wires.inputs_of k.d)) input → Contains (pin_names (wires.outputs_of k.d)) output →
        Reaches design (lowered_component (lowering_at comps design k.m k.d (lowered_at comps design lowered k.m k.d k.at))) (own output) (own input) → (p q : PortName) → port_of i.name output ≡ p → port_of i.name input ≡ q → IsKind p q
    component_kind i of sig signed k input output of_in of_out reaches p q at_p at_q =
        elim (Contains-append_cases (map (λ (g : Interface). g.name) k.d.interfaces) (map (λ (p : DataPort). p.name) k.d.ins) input (subst (λ (ns : List Text). Contains ns input) (input_names k.d) of_in)) [
          | inl interface ↦
              let g = from_map (λ (g : Interface). g.name) k.d.interfaces input interface in
              ToStart (record { i = i; of = of; sig = sig; signed = signed; k = k; g = g.0; of_g = g.1; is = ap (port_of i.name) g.2 ∙ at_q })
          | inr in_data ↦
              let x = from_map (λ (p : DataPort). p.name) k.d.ins input in_data in
              let outs : Contains (map (λ (p : DataPort). p.name) k.d.outs) output = subst (λ (ns : List Text). Contains ns output) (map-map (λ (p : Pin). p.name) (λ (p : DataPort). pin p.name p.width) k.d.outs) of_out in
              let y = from_map (λ (p : DataPort). p.name) k.d.outs output outs in
              let in_ins : Contains sig.ins (sig_port k.d.events x.0) = subst (λ (s : Signature). Contains s.ins (sig_port k.d.events x.0)) k.same (contains_map (sig_port k.d.events) k.d.ins x.0 x.1) in
              let in_outs : Contains sig.outs (sig_port k.d.events y.0) = subst (λ (s : Signature). Contains s.outs (sig_port k.d.events y.0)) k.same (contains_map (sig_port k.d.events) k.d.outs y.0 y.1) in
              let inside = slice_get_within comps n c here in
              let there : through_before (take n comps) k.d.name output input =
              through_there comps n k.m k.d input output (omega (arith, inside)) k.below k.at (before k.m k.d k.at k.below input output in_data reaches) in
              let depends : through_before (take n comps) i.made y.0.name x.0.name =
              subst (λ (name : Text). through_before (take n comps) name y.0.name x.0.name) k.is_named
              (subst (λ (o : Text). through_before (take n comps) k.d.name o x.0.name) (sym y.2) (subst (λ (j : Text). through_before (take n comps) k.d.name output j) (sym x.2) there)) in
              InText
              (ByInstance
              (record {
                instance = i;
                has = of;
                signature = sig;
                signed = signed;
                input = sig_port k.d.events x.0;
                output = sig_port k.d.events y.0;
                has_input = in_ins;
                has_output = in_outs;
                depends = texts.OfComponent depends;
                is_port = ap (dotted i.name) y.2 ∙ ap shown at_p;
                is_other = ap (dotted i.name) x.2 ∙ ap shown at_q;
              }))
        ]

    inside_kind : (part : calyx.Component) (cell input output : Text) → part_in design low cell ≡ Some part → Contains (pin_names (inputs_in part)) input → Contains (pin_names (outputs_in part)) output → Reaches design part (own output) (own input) →
        (p q : PortName) → port_of cell output ≡ p → port_of cell input ≡ q → IsKind p q
    inside_kind part cell input output is of_in of_out reaches p q at_p at_q =
        option_and_then_some (part_of design) (cell_named low.cells cell) part is (λ d found made. let x = cell_of comps rules design lowered n c here cell d found in by d x.0 x.1 made)
      where
        by : (d : CellDef) → IsCellOf comps rules design lowered n c here lw.registers lw.new d → d.name ≡ cell → part_of design d ≡ Some part → IsKind p q
        by d (OfRegister name has) named made = absurd (none-some part (sym (no_part comps rules design lowered n c here (register name) (is_made_of (codes "std_reg") (1 ∷ []) (StdReg 1) (register_made name))) ∙ made))
        by d (OfInstance i of) named made =
            let f = is_instance comps rules n c here i of in
            elim f.kind [
              | inl k ↦ absurd (none-some part (sym (no_part comps rules design lowered n c here (lowered_cell i) (names_primitive comps rules design lowered n i f.sig k)) ∙ made))
              | inr k ↦
                  let sub = lowered_component (lowering_at comps design k.m k.d (lowered_at comps design lowered k.m k.d k.at)) in
                  let same : part ≡ sub = same_Some part sub (sym made ∙ component_cell comps rules design lowered n i f.sig k) in
                  component_kind i of f.sig f.signed k input output (subst (λ (x : calyx.Component). Contains (pin_names (inputs_in x)) input) same of_in) (subst (λ (x : calyx.Component). Contains (pin_names (outputs_in x)) output) same of_out)
                  (subst (λ (x : calyx.Component). Reaches design x (own output) (own input)) same reaches) p q (ap (λ (x : Text). port_of x output) named ∙ at_p) (ap (λ (x : Text). port_of x input) named ∙ at_q)
            ]

    pub edge_kind : (p q : PortName) → IsEdge design low p q → IsKind p q
    edge_kind p q (BySet a of dst reads) = set_kind a (set_of comps rules design lowered n c here a of) p q dst reads
    edge_kind p q (Through cell prim input output is of_in of_out through at_p at_q) = through_kind cell prim input output is of_in of_out through p q at_p at_q
    edge_kind p q (Inside part cell input output is of_in of_out reaches at_p at_q) = inside_kind part cell input output is of_in of_out reaches p q at_p at_q
