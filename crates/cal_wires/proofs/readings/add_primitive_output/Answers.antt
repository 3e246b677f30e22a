use Rattle.cal_wires.specs.WireGraphs.{Grows}
use Rattle.net_core.specs.Numbers.{IsNumberOf}
use Rattle.hw_names.specs.Name.{Text, text_of}
use Rattle.std.proofs.Common.{◌<◌, length, arith, List, sym, subst}
use Rattle.std.proofs.lemmas.List.{length-map}
use Rattle.hw_prims.specs.Table.{Pin, inputs_of, name_at, outputs_of, pin_names}
use Rattle.cal_wires.specs.Readings.{ReadsThrough, ReadsOutput}
use Rattle.cal_wires.proofs.GainLemmas.{grows_all, grows_next, grows_start}
use Rattle.cal_wires.proofs.PinNameLemmas.{name_there}
use Rattle.cal_wires.proofs.readings.add_primitive_output.Goals as goal

pub add_through-requires-clause-cell : goal.add_through-requires-clause-cell
add_through-requires-clause-cell c = subst (λ (names : List Text). IsNumberOf names c.args.cell) (sym c.loop-input.invariant.adds.names) c.requires.cell

pub loop-input-init : goal.loop-input-init
loop-input-init c =
    let prim = c.args.prim in
    grows_start (λ j. ReadsThrough (text_of c.args.graph.now.ports.names c.args.cell) prim (name_at (outputs_of prim) c.args.output)) (pin_names (inputs_of prim)) c.args.graph.now

pub loop-input-preserved : goal.loop-input-preserved
loop-input-preserved c =
    let prim = c.args.prim in
    let i = c.loop-input.input in
    let lt : i < length (inputs_of prim) = omega (arith, c.loop-input-test.true, c.inputs-input-end.ensures) in
    grows_next (λ j. ReadsThrough (text_of c.args.graph.now.ports.names c.args.cell) prim (name_at (outputs_of prim) c.args.output)) (pin_names (inputs_of prim)) i (name_at (inputs_of prim) i) c.args.graph.now c.loop-input.graph c.add_through.new.graph (name_there (inputs_of prim) i lt) c.loop-input.invariant (c.in_ok-add_through.ensures c.args.graph.now.ports.names c.loop-input.invariant.adds.names)

pub returns : goal.returns
returns c names are =
    let prim = c.args.prim in
    subst (λ (ns : List Text). Grows (ReadsOutput (text_of ns c.args.cell) c.args.prim (name_at (outputs_of c.args.prim) c.args.output)) c.args.graph.now c.loop-input.graph) are
    (grows_all (λ j. ReadsThrough (text_of c.args.graph.now.ports.names c.args.cell) prim (name_at (outputs_of prim) c.args.output)) (pin_names (inputs_of prim)) c.loop-input.input c.args.graph.now c.loop-input.graph
    (omega (arith, c.loop-input-test.false, c.inputs-input-end.ensures, length-map (inputs_of prim) (λ (p : Pin). p.name))) c.loop-input.invariant)
