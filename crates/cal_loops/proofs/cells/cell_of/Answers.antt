use Rattle.std.proofs.Common.{Bool, Some, get_or, subst, refl}
use Rattle.cal_loops.specs.inside.CellPins.{IsInputPin, IsOutputPin, TellsPin}
use Rattle.cal_loops.proofs.CellPinLemmas.{both_all, both_input, both_none, both_on, both_output, no_pins}
use Rattle.cal_loops.proofs.cells.cell_of.Goals.{in-Some+else-found+in_ok-push-2, in-Some+then-found+in_ok-push, in_default}
use Rattle.cal_loops.proofs.cells.cell_of.Goals as goal

pub loop-port-init : goal.loop-port-init
loop-port-init c = record {
  part = refl;
  reads = refl;
  told = c.get.ensures;
  both = λ part at. record {
    outputs = no_pins (IsOutputPin c.args.graph.now part c.args.part.inside.now) c.new.result.items c.new.ensures.items;
    inputs = no_pins (IsInputPin c.args.graph.now part c.args.part.inside.now) c.new-2.result.items c.new-2.ensures.items;
  };
}

pub cell_pin-requires-clause-port : goal.cell_pin-requires-clause-port
cell_pin-requires-clause-port c = c.requires.ports c.loop-port.port-index 0 c.loop-port-test.true

pub loop-port-preserved : goal.loop-port-preserved
loop-port-preserved c =
    let g = c.args.graph.now in
    let inside = c.args.part.inside.now in
    let ports = c.args.ports.now in
    let k = c.loop-port.port-index in
    let port = get_or ports k 0 in
    let less = c.loop-port-test.true in
    let so_far = c.loop-port.invariant in
    let outputs = c.loop-port.cell.outputs.items in
    let inputs = c.loop-port.cell.inputs.items in
    elim c.match-cell_pin.branch [
      | in-Some+then-found+in_ok-push w ↦
          let pin = w.in-Some.found.pin in
          rw (w.cell-is, w.in_ok-push.ensures.items) (record {
            part = so_far.part;
            reads = so_far.reads;
            told = so_far.told;
            both = λ part at.
                let told = subst (TellsPin g part inside port) w.in-Some.is (c.cell_pin.ensures part at) in
                let input = subst (λ (side : Bool). TellsPin g part inside port (Some (record { pin = pin; is_input = side }))) w.if-found.true told in
                both_on g part inside ports k outputs _ less (both_input g part inside _ outputs inputs (so_far.both part at) port pin input);
          })
      | in-Some+else-found+in_ok-push-2 w ↦
          let pin = w.in-Some.found.pin in
          rw (w.cell-is, w.in_ok-push-2.ensures.items) (record {
            part = so_far.part;
            reads = so_far.reads;
            told = so_far.told;
            both = λ part at.
                let told = subst (TellsPin g part inside port) w.in-Some.is (c.cell_pin.ensures part at) in
                let output = subst (λ (side : Bool). TellsPin g part inside port (Some (record { pin = pin; is_input = side }))) w.if-found.false told in
                both_on g part inside ports k _ inputs less (both_output g part inside _ outputs inputs (so_far.both part at) port pin output);
          })
      | in_default w ↦
          rw w.cell-is (record {
            part = so_far.part;
            reads = so_far.reads;
            told = so_far.told;
            both = λ part at.
                let told = subst (TellsPin g part inside port) w.in_default.is (c.cell_pin.ensures part at) in
                both_on g part inside ports k outputs inputs less (both_none g part inside _ outputs inputs (so_far.both part at) port told);
          })
    ]

pub returns-clause-pins : goal.returns-clause-pins
returns-clause-pins c = λ part at.
    let ports = c.args.ports.now in
    let cell = c.loop-port.cell in
    let both = both_all c.args.graph.now part c.args.part.inside.now ports c.loop-port.port-index cell.outputs.items cell.inputs.items c.loop-port-test.false (c.loop-port.invariant.both part at) in
    record { reads = c.loop-port.invariant.reads; told = c.loop-port.invariant.told; outputs = both.outputs; inputs = both.inputs }

pub returns-clause-graph : goal.returns-clause-graph
returns-clause-graph c = (c.loop-port.invariant.part, c.loop-port.invariant.reads)
