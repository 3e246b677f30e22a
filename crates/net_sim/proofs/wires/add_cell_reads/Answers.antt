use Rattle.std.proofs.Common.{◌<◌, length, arith}
use Rattle.std.proofs.lemmas.List.{length-map}
use Rattle.hw_prims.specs.Table.{outputs_of, pin_names, name_at}
use Rattle.net_sim.proofs.WireLemmas.{add_next, add_all, pin_at}
use Rattle.net_sim.specs.inside.Wires.{output_readings}
use Rattle.net_sim.proofs.wires.add_cell_reads.Goals as goal

pub loop-output-preserved : goal.loop-output-preserved
loop-output-preserved c = λ names name has.
    let prim = c.args.cell.prim in
    let i = c.loop-output.output in
    let within : i < length (outputs_of prim) = omega (arith, c.loop-output-test.true, c.outputs-output-end.ensures) in
    add_next names (output_readings name prim) (pin_names (outputs_of prim)) i (name_at (outputs_of prim) i) c.args.entries.now.items c.loop-output.entries.items c.add_output_reads.new.entries.items
    (simp length-map within) (pin_at (outputs_of prim) i within) (c.loop-output.invariant names name has) (c.in_ok-add_output_reads.ensures names name has)

pub returns : goal.returns
returns c = λ names name has.
    let prim = c.args.cell.prim in
    add_all names (output_readings name prim) (pin_names (outputs_of prim)) c.loop-output.output c.args.entries.now.items c.loop-output.entries.items
    (simp length-map (omega (arith, c.loop-output-test.false, c.outputs-output-end.ensures))) (c.loop-output.invariant names name has)
