use Rattle.std.proofs.Common.{◌≡◌, ◌++◌, ◌∷◌, [], List, Contains, length, map, take, slice_get, ap, sym, subst, ◌∙◌, arith}
use Rattle.std.proofs.lemmas.List.{length-map, take_all}
use Rattle.std.proofs.lemmas.Option.{same_Some}
use Rattle.hw_names.specs.Name.{Text}
use Rattle.cal_ast.specs.Ports.{inputs_in, outputs_in}
use Rattle.cal_ast.specs.Tree.{PortName, own}
use Rattle.cal_place.specs.Around.{comp_at}
use Rattle.cal_wires.specs.Nodes.{APort, input_key, key_of, port_by}
use Rattle.cal_wires.specs.WireGraphs.{NoPair}
use Rattle.cal_wires.proofs.GainLemmas.{grows_after, grows_none}
use Rattle.cal_wires.proofs.InputLemmas.{input_absent, input_next}
use Rattle.cal_wires.proofs.DependLemmas.{got_at, input_named, ports_counted}
use Rattle.cal_wires.proofs.readings.add_inputs.Goals as goal

pub text_at-requires : goal.text_at-requires
text_at-requires c =
    let p = c.args.place.now in
    let shows = c.signature.ensures in
    let are = c.port_names-ports.ensures.names in
    omega (arith, c.loop-input-test.true, shows.inputs, ap length are, ports_counted (inputs_in (comp_at p)) (outputs_in (comp_at p)))

pub port-requires : goal.port-requires
port-requires c = c.own_port.ensures.numbers c.loop-input.graph.ports.names tt

pub loop-input-init : goal.loop-input-init
loop-input-init c = record { keys = c.requires.none; grows = grows_none NoPair c.args.graph.now (λ n o none. none) }

pub loop-input-preserved : goal.loop-input-preserved
loop-input-preserved c =
    let p = c.args.place.now in
    let ins = inputs_in (comp_at p) in
    let outs = outputs_in (comp_at p) in
    let i = c.loop-input.input in
    let shows = c.signature.ensures in
    let are = c.port_names-ports.ensures.names in
    let input = got_at ins i (omega (arith, c.loop-input-test.true, shows.inputs)) in
    let text : c.text_at.result.now ≡ input.0.name = same_Some c.text_at.result.now input.0.name (sym c.text_at.ensures ∙ ap (λ (l : List Text). slice_get l i) are ∙ input_named ins outs i input.0 input.1) in
    let named : port_by c.loop-input.graph.ports.names c.own_port.result ≡ own input.0.name = c.own_port.ensures.is c.loop-input.graph.ports.names ∙ ap own text in
    let key : key_of (APort (port_by c.loop-input.graph.ports.names c.own_port.result)) ≡ input_key input.0 = ap (λ (x : PortName). key_of (APort x)) named in
    let keys = map input_key ins in
    let absent : Contains c.loop-input.graph.ports.keys (key_of (APort (port_by c.loop-input.graph.ports.names c.own_port.result))) → ⊥ =
    (λ has. input_absent ins outs c.port_names-ports.ensures.distinct i input.0 input.1
    (subst (λ (l : List Text). Contains l (input_key input.0)) c.loop-input.invariant.keys (subst (λ (t : Text). Contains c.loop-input.graph.ports.keys t) key has))) in
    record {
      keys = c.in_ok-_number.ensures.added absent
          ∙ ap (λ (l : List Text). l ++ key_of (APort (port_by c.loop-input.graph.ports.names c.own_port.result)) ∷ []) c.loop-input.invariant.keys
          ∙ ap (λ (t : Text). take i keys ++ t ∷ []) key
          ∙ input_next ins i input.0 input.1;
      grows = grows_after NoPair c.args.graph.now c.loop-input.graph c.port.new.self c.loop-input.invariant.grows c.port.ensures.grows;
    }

pub returns-clause-inputs : goal.returns-clause-inputs
returns-clause-inputs c =
    let ins = inputs_in (comp_at c.args.place.now) in
    c.loop-input.invariant.keys ∙ take_all c.loop-input.input (map input_key ins) (omega (arith, c.loop-input-test.false, c.signature.ensures.inputs, length-map ins input_key))

pub returns-clause-grows : goal.returns-clause-grows
returns-clause-grows c = c.loop-input.invariant.grows
