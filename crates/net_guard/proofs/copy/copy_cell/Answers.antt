use Rattle.std.proofs.Common.{ℕ, List, ap, ◌∙◌}
use Rattle.hw_names.specs.Name.{text_of}
use Rattle.net_core.specs.Netlist.{CellLine}
use Rattle.net_guard.proofs.copy.copy_cell.Goals as goal

pub returns-clause-same : goal.returns-clause-same
returns-clause-same c = λ names.
    let cell = c.args.cell.now in
    let line : List ℕ → CellLine = λ params. record { name = text_of names cell.name; prim = text_of names cell.prim; params = params; shown = cell.shown } in
    ap line (c.in_ok-params.ensures.items ∙ c.deref.ensures.value)
