use Rattle.std.proofs.Common.{◌≡◌, ◌+◌, List, true, ap, sym, subst, ◌∙◌, arith}
use Rattle.std.proofs.lemmas.List.{length-append}
use Rattle.std.proofs.lemmas.Result.{on_ok_weaker}
use Rattle.hw_names.specs.Name.{Text, text_of}
use Rattle.net_core.specs.Numbers.{IsNumberOf}
use Rattle.hw_prims.specs.Table.{inputs_of, name_at, outputs_of, pins_of}
use Rattle.cal_ast.specs.Tree.{PortName, port_of}
use Rattle.cal_wires.specs.Nodes.{APort, port_by}
use Rattle.cal_wires.specs.WireGraphs.{HasNumber, IsPair}
use Rattle.cal_wires.proofs.GainLemmas.{grows_after, number_kept, number_within}
use Rattle.cal_place.proofs.PrimitiveLemmas.{pins_few}
use Rattle.cal_wires.proofs.PinNameLemmas.{input_name, output_name, through_added, through_none}
use Rattle.cal_wires.proofs.readings.add_through.Goals as goal

pub returns-then-not-through : goal.returns-then-not-through
returns-then-not-through c =
    λ names are. through_none (text_of names c.args.cell) c.args.prim (name_at (outputs_of c.args.prim) c.args.output) (name_at (inputs_of c.args.prim) c.args.input) c.args.graph.now (sym c.through.ensures ∙ c.if-not-through.true)

pub overflow_add-place : goal.overflow_add-place
overflow_add-place c = omega (arith, pins_few c.args.prim, length-append (inputs_of c.args.prim) (outputs_of c.args.prim), c.inputs.ensures, c.requires.output)

pub pin_name-pin-requires-clause-place : goal.pin_name-pin-requires-clause-place
pin_name-pin-requires-clause-place c = omega (arith, length-append (inputs_of c.args.prim) (outputs_of c.args.prim), c.inputs.ensures, c.requires.output)

pub pin_name-read-requires-clause-place : goal.pin_name-read-requires-clause-place
pin_name-read-requires-clause-place c = omega (arith, length-append (inputs_of c.args.prim) (outputs_of c.args.prim), c.requires.input)

pub port-requires : goal.port-requires
port-requires c = c.cell_port.ensures.numbers c.args.graph.now.ports.names c.requires.cell tt

pub port-requires-2 : goal.port-requires-2
port-requires-2 c =
    let names = c.port.new.self.ports.names in
    c.cell_port-2.ensures.numbers names (subst (λ (ns : List Text). IsNumberOf ns c.args.cell) (sym c.port.ensures.grows.adds.names) c.requires.cell) tt

pub add-requires : goal.add-requires
add-requires c = record {
  key = number_within c.port-2.new.self _ c.in_ok-number.number (number_kept c.port.new.self c.port-2.new.self _ c.in_ok-number.number c.port-2.ensures.grows.adds.texts c.in_ok-number.ensures.number);
  value = number_within c.port-2.new.self _ c.in_ok-other.other c.in_ok-other.ensures.number;
}

pub returns : goal.returns
returns c names are =
    let prim = c.args.prim in
    let cell = text_of names c.args.cell in
    let output = name_at (outputs_of prim) c.args.output in
    let input = name_at (inputs_of prim) c.args.input in
    let a = c.args.graph.now in
    let b = c.port.new.self in
    let d = c.port-2.new.self in
    let is_output : c.as_bytes.result.now ≡ output = c.as_bytes.ensures.value ∙ c.pin_name-pin.ensures ∙ ap (name_at (pins_of prim)) (ap (λ k. k + c.args.output) c.inputs.ensures) ∙ output_name prim c.args.output c.requires.output in
    let is_input : c.as_bytes-2.result.now ≡ input = c.as_bytes-2.ensures.value ∙ c.pin_name-read.ensures ∙ input_name prim c.args.input c.requires.input in
    let first = subst (λ (p : PortName). HasNumber b (APort p) c.in_ok-number.number) (ap (λ (ns : List Text). port_by ns c.cell_port.result) are ∙ c.cell_port.ensures.is names ∙ ap (port_of cell) is_output) c.in_ok-number.ensures.number in
    let second = subst (λ (p : PortName). HasNumber d (APort p) c.in_ok-other.other) (ap (λ (ns : List Text). port_by ns c.cell_port-2.result) (c.port.ensures.grows.adds.names ∙ are) ∙ c.cell_port-2.ensures.is names ∙ ap (port_of cell) is_input) c.in_ok-other.ensures.number in
    let kept = number_kept b d (APort (port_of cell output)) c.in_ok-number.number c.port-2.ensures.grows.adds.texts first in
    let through : _ ≡ true = sym c.through.ensures ∙ c.if-not-through.false in
    on_ok_weaker c.add.result
    (λ pair. through_added cell prim output input a c.add.new.self through
    (grows_after (IsPair (APort (port_of cell output)) (APort (port_of cell input))) a b c.add.new.self c.port.ensures.grows
    (grows_after (IsPair (APort (port_of cell output)) (APort (port_of cell input))) b d c.add.new.self c.port-2.ensures.grows pair)))
    (c.add.ensures.pair (APort (port_of cell output)) (APort (port_of cell input)) kept second)
