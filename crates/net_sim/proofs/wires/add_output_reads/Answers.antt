use Rattle.std.proofs.Common.{◌+◌, ◌<◌, List, length, refl, sym, ap, ◌∙◌, arith}
use Rattle.std.proofs.lemmas.List.{length-map}
use Rattle.hw_names.specs.Name.{Text}
use Rattle.hw_prims.specs.Table.{inputs_of, outputs_of, pin_names, name_at}
use Rattle.net_sim.proofs.WireLemmas.{add_next, add_all, through_one, through_none, pin_at}
use Rattle.net_sim.specs.inside.Wires.{input_readings, AddReadings, HasCellAt}
use Rattle.hw_graph.specs.declared.groups.Entry.{Entry}
use Rattle.net_sim.proofs.wires.add_output_reads.Goals.{then-through+in_ok-push, else-through, Joined-through}
use Rattle.net_sim.proofs.wires.add_output_reads.Goals as goal

here : (c : Joined-through) (names : List Text) (name : Text) → HasCellAt names name c.args.cell.prim c.args.cell.first →
    AddReadings names (input_readings name c.args.cell.prim (name_at (outputs_of c.args.cell.prim) c.args.output) (name_at (inputs_of c.args.cell.prim) c.loop-input.input)) c.loop-input.entries.items c.if-through.entries.items
here c names name has =
    let prim = c.args.cell.prim in
    let first = c.args.cell.first in
    let e : Entry = record { key = first + c.inputs-inputs.result + c.args.output; value = first + c.loop-input.input } in
    let in_inputs : c.loop-input.input < length (inputs_of prim) = omega (arith, c.loop-input-test.true, c.inputs-inputs.ensures) in
    elim c.if-through.branch [
      | then-through+in_ok-push w ↦
          let one = through_one names name prim first c.loop-input.input c.args.output c.loop-input.entries.items e has in_inputs c.requires.output (ap (λ k. first + k + c.args.output) c.inputs-inputs.ensures) refl (sym c.through.ensures ∙ w.if-through.true) in
          rw (w.entries-is, w.in_ok-push.ensures.items) one
      | else-through w ↦
          rw w.entries-is (through_none names name prim (name_at (outputs_of prim) c.args.output) (name_at (inputs_of prim) c.loop-input.input) c.loop-input.entries.items (sym c.through.ensures ∙ w.if-through.false))
    ]

pub loop-input-preserved : goal.loop-input-preserved
loop-input-preserved c = λ names name has.
    let prim = c.args.cell.prim in
    let i = c.loop-input.input in
    let output = name_at (outputs_of prim) c.args.output in
    let in_inputs : i < length (inputs_of prim) = omega (arith, c.loop-input-test.true, c.inputs-inputs.ensures) in
    add_next names (input_readings name prim output) (pin_names (inputs_of prim)) i (name_at (inputs_of prim) i) c.args.entries.now.items c.loop-input.entries.items c.if-through.entries.items
    (simp length-map in_inputs) (pin_at (inputs_of prim) i in_inputs) (c.loop-input.invariant names name has) (here c names name has)

pub returns : goal.returns
returns c = λ names name has.
    let prim = c.args.cell.prim in
    let output = name_at (outputs_of prim) c.args.output in
    add_all names (input_readings name prim output) (pin_names (inputs_of prim)) c.loop-input.input c.args.entries.now.items c.loop-input.entries.items
    (simp length-map (omega (arith, c.loop-input-test.false, c.inputs-inputs.ensures))) (c.loop-input.invariant names name has)
