use Rattle.std.proofs.Common.{ℕ, List, subst}
use Rattle.std.proofs.lemmas.Result.{IfOk-weaker}
use Rattle.hw_cells.specs.Cells.{IsFlat}
use Rattle.hw_cells.specs.inside.Parts.{cells_at}
use Rattle.hw_cells.proofs.FlatLemmas.{flat_of_split, new_below}
use Rattle.hw_cells.proofs.flat.flatten.Goals as goal

pub flat_copies-requires-clause-entries : goal.flat_copies-requires-clause-entries
flat_copies-requires-clause-entries c =
    let split = c.in_ok-entries.field-0 in
    let cells = c.args.cells.now in
    new_below c.args.entries.items cells c.args.ports split.entries.items (cells_at cells split.left.items) c.in_ok-entries.ensures.splits c.requires.cells c.requires.entries

pub returns-clause-flat : goal.returns-clause-flat
returns-clause-flat c =
    let split = c.in_ok-entries.field-0 in
    let cells = c.args.cells.now in
    let ports = c.args.ports in
    IfOk-weaker c.flat_copies.result _ _
    (λ reads flat.
    let flat_left = subst (λ (left : List ℕ). IsFlat split.entries.items ports (cells_at cells left) reads) c.deref.ensures.value flat in
    flat_of_split c.args.entries.items cells ports split.entries.items (cells_at cells split.left.items) c.in_ok-entries.ensures.splits reads flat_left)
    c.flat_copies.ensures.flat
