use Rattle.std.proofs.Common.{◌<◌, length, get_or, arith}
use Rattle.std.proofs.lemmas.Option.{slice_get-get_or}
use Rattle.hw_prims.specs.declared.prim.Primitive.TheVariants.{StdConst}
use Rattle.net_sim.specs.declared.cells.CellPorts.{CellPorts}
use Rattle.net_sim.proofs.StepLemmas.{step_inputs, moved_more, same_count}
use Rattle.net_sim.proofs.evaluate.step_cells.Goals as goal

pub step-requires : goal.step-requires
step-requires c =
    let d : CellPorts = record { prim = StdConst 0 0; first = 0 } in
    let i = c.loop-number.number in
    let count = same_count c.args.cells.now c.args.states.now c.requires.prims in
    let lt : i < length c.args.cells.now = omega (arith, count) in
    step_inputs c.args.cells.now c.args.values.now c.args.states.now c.loop-number.states i c.requires.prims c.loop-number.invariant (get_or c.args.cells.now i d) (get_or c.loop-number.states i c.index-states-number.result) (slice_get-get_or c.args.cells.now i d lt) (slice_get-get_or c.loop-number.states i c.index-states-number.result (omega arith)) c.inputs.result c.inputs.ensures c.requires.inputs

pub loop-number-preserved : goal.loop-number-preserved
loop-number-preserved c =
    let d : CellPorts = record { prim = StdConst 0 0; first = 0 } in
    let i = c.loop-number.number in
    let count = same_count c.args.cells.now c.args.states.now c.requires.prims in
    let lt : i < length c.args.cells.now = omega (arith, count) in
    moved_more c.args.cells.now c.args.values.now c.args.states.now c.loop-number.states i c.requires.prims c.loop-number.invariant (get_or c.args.cells.now i d) (get_or c.loop-number.states i c.index-states-number.result) (slice_get-get_or c.args.cells.now i d lt) (slice_get-get_or c.loop-number.states i c.index-states-number.result (omega arith)) c.inputs.result c.inputs.ensures c.step.new.self c.step.ensures.prim c.step.ensures.state
