use Rattle.std.proofs.Common.{◌≡◌, Some, slice_get, sym, ap, subst, ◌∙◌}
use Rattle.std.proofs.lemmas.Option.{same_Some}
use Rattle.hw_names.specs.Name.{Text, dotted}
use Rattle.fil_loops.specs.inside.CellPins.{TellsPin}
use Rattle.fil_loops.proofs.CellPinLemmas.{port_cut, same_port}
use Rattle.fil_loops.proofs.cells.pin_at.Goals as goal

pub returns-then-found-instance : goal.returns-then-found-instance
returns-then-found-instance c inst name at_inst at =
    let ports = c.args.ports.now in
    let node = c.args.node in
    let port = c.in-Some.port.now in
    let here : slice_get ports.names node ≡ Some (dotted inst port) = c.in-Some.ensures.some inst (ap (slice_get ports.instances) c.if-found-instance.true ∙ at_inst) in
    subst (λ (t : Text). TellsPin c.args.inside.now t node c.cell_pin.result) (same_port ports node inst port name here at) c.cell_pin.ensures

pub returns : goal.returns
returns c inst name at_inst at =
    let ports = c.args.ports.now in
    let node = c.args.node in
    let own = c.instance_name.result.now in
    let full = c.deref.result.now in
    let same : own ≡ inst = same_Some own inst (sym c.instance_name.ensures ∙ at_inst) in
    let here : slice_get ports.names node ≡ Some full = c.in_ok-name.ensures ∙ ap Some (sym c.deref.ensures.value) in
    subst (λ (t : Text). TellsPin c.args.inside.now t node c.cell_pin-2.result) (port_cut ports node own inst name full same here at) c.cell_pin-2.ensures
