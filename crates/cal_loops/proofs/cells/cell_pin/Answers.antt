use Rattle.std.proofs.Common.{◌≡◌, false, true, Option, List, ℕ, slice_get, sym, subst, ◌∙◌}
use Rattle.std.specs.Slice.{IsItemAt}
use Rattle.hw_cells.proofs.PortLemmas.{flat_none, flat_some}
use Rattle.cal_loops.specs.inside.CellPins.{TellsPin}
use Rattle.cal_loops.proofs.CellPinLemmas.{no_node, no_number, no_pin_port, pin_told, place_told}
use Rattle.cal_place.proofs.ListLemmas.{got}
use Rattle.cal_loops.proofs.cells.cell_pin.Goals as goal

pub returns-in_err-_cell : goal.returns-in_err-_cell
returns-in_err-_cell c = λ part there.
    let g = c.args.graph.now in
    let inside = c.args.inside.now in
    subst (TellsPin g part inside c.args.port) (sym c.from_residual.ensures)
    (no_pin_port g part inside c.args.port (λ cell pin at. let bad : false ≡ true = c.in_err-_cell.ensures.none cell pin at in absurd (cc)))

pub returns-in_err-number : goal.returns-in_err-number
returns-in_err-number c = λ part there.
    let g = c.args.graph.now in
    let inside = c.args.inside.now in
    let cell = c.in_ok-_cell._cell.now in
    let name = c.in_ok-_cell.pin.now in
    let s = c.signature_of-signature.result.now in
    let told = place_told s part (c.signature_of-signature.ensures part there) name c.find.result c.find.ensures in
    subst (TellsPin g part inside c.args.port) (sym c.from_residual-in_err-number.ensures)
    (no_number g part inside c.args.port cell name c.in_ok-_cell.ensures.some c.find.result told c.in_err-number.was)

pub returns-in_err-node : goal.returns-in_err-node
returns-in_err-node c = λ part there.
    let g = c.args.graph.now in
    let inside = c.args.inside.now in
    let cell = c.in_ok-_cell._cell.now in
    let name = c.in_ok-_cell.pin.now in
    let s = c.signature_of-signature.result.now in
    let told = place_told s part (c.signature_of-signature.ensures part there) name c.find.result c.find.ensures in
    let j = c.in_ok-number.number in
    let I : List (Option ℕ) → Type 0 = λ ls. IsItemAt ls j c.get.result in
    let look : c.copied.result ≡ slice_get inside.graph.nodes.items j = c.copied.ensures ∙ got inside.graph.nodes.items j c.get.result (subst I c.deref.ensures.value c.get.ensures.lookup) in
    subst (TellsPin g part inside c.args.port) (sym c.from_residual-in_err-node.ensures)
    (no_node g part inside c.args.port cell name c.in_ok-_cell.ensures.some c.find.result told j c.in_ok-number.was
    (λ node at. flat_none c.copied.result c.flatten.result c.flatten.ensures c.in_err-node.was node (look ∙ at)))

pub returns : goal.returns
returns c = λ part there.
    let g = c.args.graph.now in
    let inside = c.args.inside.now in
    let cell = c.in_ok-_cell._cell.now in
    let name = c.in_ok-_cell.pin.now in
    let s = c.signature_of-signature.result.now in
    let shows = c.signature_of-signature.ensures part there in
    let told = place_told s part shows name c.find.result c.find.ensures in
    let j = c.in_ok-number.number in
    let I : List (Option ℕ) → Type 0 = λ ls. IsItemAt ls j c.get.result in
    let look : c.copied.result ≡ slice_get inside.graph.nodes.items j = c.copied.ensures ∙ got inside.graph.nodes.items j c.get.result (subst I c.deref.ensures.value c.get.ensures.lookup) in
    pin_told g part inside c.args.port cell name c.in_ok-_cell.ensures.some c.find.result told j c.in_ok-number.was c.in_ok-node.node s.inputs
    (sym look ∙ flat_some c.copied.result c.flatten.result c.flatten.ensures c.in_ok-node.node c.in_ok-node.was) shows.inputs
