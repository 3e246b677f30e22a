use Rattle.std.proofs.Common.{◌≡◌, Bool, [], Some, get_or, slice_get, sym, ap, subst, ◌∙◌}
use Rattle.std.proofs.lemmas.Option.{same_Some, slice_get-get_or}
use Rattle.hw_names.specs.Name.{dotted}
use Rattle.fil_loops.specs.inside.CellPins.{IsPortOfInstance, TellsPin}
use Rattle.fil_loops.proofs.CellPinLemmas.{both_all, both_input, both_none, both_of, both_on, both_output}
use Rattle.fil_loops.proofs.cells.cell_of.Goals.{in-Some+then-found+in_ok-push, in-Some+else-found+in_ok-push-2, in_default}
use Rattle.fil_loops.proofs.cells.cell_of.Goals as goal

pub pin_at-requires-clause-node : goal.pin_at-requires-clause-node
pin_at-requires-clause-node c = c.requires.nodes c.loop-node.node-index 0 c.loop-node-test.true

pub loop-node-preserved : goal.loop-node-preserved
loop-node-preserved c =
    let ports = c.args.ports.now in
    let inside = c.args.inside.now in
    let nodes = c.args.nodes.now in
    let k = c.loop-node.node-index in
    let node = get_or nodes k 0 in
    let less = c.loop-node-test.true in
    let so_far = c.loop-node.invariant in
    let outputs = c.loop-node.cell.outputs.items in
    let inputs = c.loop-node.cell.inputs.items in
    let is : IsPortOfInstance ports c.args.instance node = c.requires.nodes k 0 less in
    let own = is.named.inst in
    let at_own : slice_get ports.instances c.args.instance ≡ Some own = is.named.instance_at in
    let before = so_far.both own at_own in
    let name = is.named.port in
    let at : slice_get ports.names node ≡ Some (dotted own name) = is.at ∙ ap Some is.named.is in
    let told : TellsPin inside name node c.in_ok-pin.pin = c.in_ok-pin.ensures own name at_own at in
    elim c.match-pin.branch [
      | in-Some+then-found+in_ok-push w ↦
          let pin = w.in-Some.found.pin in
          let found = subst (TellsPin inside name node) w.in-Some.is told in
          let input = subst (λ (side : Bool). TellsPin inside name node (Some (record { pin = pin; is_input = side }))) w.if-found.true found in
          rw (w.cell-is, w.in_ok-push.ensures.items) (record {
            part = so_far.part;
            reads = so_far.reads;
            untold = so_far.untold;
            both = λ inst at_inst.
                both_of inside ports own inst _ _ _ (same_Some own inst (sym at_own ∙ at_inst)) (both_on inside ports own nodes k outputs _ less (both_input inside ports own _ outputs inputs before node name at pin input));
          })
      | in-Some+else-found+in_ok-push-2 w ↦
          let pin = w.in-Some.found.pin in
          let found = subst (TellsPin inside name node) w.in-Some.is told in
          let output = subst (λ (side : Bool). TellsPin inside name node (Some (record { pin = pin; is_input = side }))) w.if-found.false found in
          rw (w.cell-is, w.in_ok-push-2.ensures.items) (record {
            part = so_far.part;
            reads = so_far.reads;
            untold = so_far.untold;
            both = λ inst at_inst.
                both_of inside ports own inst _ _ _ (same_Some own inst (sym at_own ∙ at_inst)) (both_on inside ports own nodes k _ inputs less (both_output inside ports own _ outputs inputs before node name at pin output));
          })
      | in_default w ↦
          let none = subst (TellsPin inside name node) w.in_default.is told in
          rw w.cell-is (record {
            part = so_far.part;
            reads = so_far.reads;
            untold = so_far.untold;
            both = λ inst at_inst. both_of inside ports own inst _ _ _ (same_Some own inst (sym at_own ∙ at_inst)) (both_on inside ports own nodes k outputs inputs less (both_none inside ports own _ outputs inputs before node name at none));
          })
    ]

pub returns-clause-pins : goal.returns-clause-pins
returns-clause-pins c =
    let instances = c.args.ports.now.instances in
    let nodes = c.args.nodes.now in
    let cell = c.loop-node.cell in
    let own = get_or instances c.args.instance [] in
    let at_own = slice_get-get_or instances c.args.instance [] c.requires.instance in
    let both = both_all c.args.inside.now c.args.ports.now own nodes c.loop-node.node-index cell.outputs.items cell.inputs.items c.loop-node-test.false (c.loop-node.invariant.both own at_own) in
    record { inst = own; instance_at = at_own; reads = c.loop-node.invariant.reads; untold = c.loop-node.invariant.untold; outputs = both.outputs; inputs = both.inputs }
