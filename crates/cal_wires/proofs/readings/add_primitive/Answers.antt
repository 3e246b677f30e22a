use Rattle.cal_wires.specs.WireGraphs.{Grows}
use Rattle.net_core.specs.Numbers.{IsNumberOf}
use Rattle.hw_names.specs.Name.{Text, text_of}
use Rattle.std.proofs.Common.{◌<◌, length, arith, List, sym, subst}
use Rattle.std.proofs.lemmas.List.{length-map}
use Rattle.hw_prims.specs.Table.{Pin, name_at, outputs_of, pin_names}
use Rattle.cal_wires.specs.Readings.{ReadsOutput, ReadsInPrimitive}
use Rattle.cal_wires.proofs.GainLemmas.{grows_all, grows_next, grows_start}
use Rattle.cal_wires.proofs.PinNameLemmas.{name_there}
use Rattle.cal_wires.proofs.readings.add_primitive.Goals as goal

pub add_primitive_output-requires-clause-cell : goal.add_primitive_output-requires-clause-cell
add_primitive_output-requires-clause-cell c = subst (λ (names : List Text). IsNumberOf names c.args.cell) (sym c.loop-output.invariant.adds.names) c.requires.cell

pub loop-output-init : goal.loop-output-init
loop-output-init c = grows_start (λ j. ReadsOutput (text_of c.args.graph.now.ports.names c.args.cell) c.args.prim) (pin_names (outputs_of c.args.prim)) c.args.graph.now

pub loop-output-preserved : goal.loop-output-preserved
loop-output-preserved c =
    let prim = c.args.prim in
    let i = c.loop-output.output in
    let lt : i < length (outputs_of prim) = omega (arith, c.loop-output-test.true, c.outputs-output-end.ensures) in
    grows_next (λ j. ReadsOutput (text_of c.args.graph.now.ports.names c.args.cell) prim) (pin_names (outputs_of prim)) i (name_at (outputs_of prim) i) c.args.graph.now c.loop-output.graph c.add_primitive_output.new.graph (name_there (outputs_of prim) i lt) c.loop-output.invariant (c.in_ok-add_primitive_output.ensures c.args.graph.now.ports.names c.loop-output.invariant.adds.names)

pub returns : goal.returns
returns c names are =
    let prim = c.args.prim in
    subst (λ (ns : List Text). Grows (ReadsInPrimitive (text_of ns c.args.cell) c.args.prim) c.args.graph.now c.loop-output.graph) are
    (grows_all (λ j. ReadsOutput (text_of c.args.graph.now.ports.names c.args.cell) prim) (pin_names (outputs_of prim)) c.loop-output.output c.args.graph.now c.loop-output.graph
    (omega (arith, c.loop-output-test.false, c.outputs-output-end.ensures, length-map (outputs_of prim) (λ (p : Pin). p.name))) c.loop-output.invariant)
