use Rattle.std.proofs.Common.{◌≡◌, Option, List, ℕ, slice_get, nat_lt, sym, subst, ◌∙◌}
use Rattle.std.specs.Slice.{IsItemAt}
use Rattle.std.proofs.lemmas.Bool.Decides.{Decides-ltb}
use Rattle.hw_cells.proofs.PortLemmas.{flat_some, got}
use Rattle.fil_loops.proofs.CellPinLemmas.{pin_told}
use Rattle.fil_loops.proofs.cells.cell_pin.Goals as goal

pub returns : goal.returns
returns c =
    let inside = c.args.inside.now in
    let number = c.in_ok-number.field-0.0 in
    let node = c.in_ok-node.node in
    let I : List (Option ℕ) → Type 0 = λ nodes. IsItemAt nodes number c.get.result in
    let look : c.copied.result ≡ slice_get inside.graph.nodes.items number = c.copied.ensures ∙ got inside.graph.nodes.items number c.get.result (subst I c.deref.ensures.value c.get.ensures.lookup) in
    let there = sym look ∙ flat_some c.copied.result c.flatten.result c.flatten.ensures node c.in_ok-node.was in
    pin_told inside c.args.name.now c.args.port c.find.ensures.distinct number node c.in_ok-number.ensures.text there (nat_lt number inside.graph.inputs) (Decides-ltb number inside.graph.inputs)
