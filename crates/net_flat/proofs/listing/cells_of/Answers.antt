use Rattle.std.proofs.Common.{List, IfOk, filter, map, subst, ◌∙◌}
use Rattle.hw_prims.specs.Table.{is_primitive}
use Rattle.cal_ast.specs.Tree.{CellDef, cell_tree}
use Rattle.cal_ast.specs.declared.tree.CalCell.{CalCell}
use Rattle.cal_ast.specs.Keeping.{flat_cell}
use Rattle.net_flat.specs.inside.StandFor.{AreCells}
use Rattle.net_flat.proofs.listing.cells_of.Goals as goal

pub returns-clause-cells : goal.returns-clause-cells
returns-clause-cells c = λ path at.
    let source = c.args.source.now in
    subst (λ (cs : List CalCell). IfOk c.cells_at.result (λ found. AreCells c.cells_at.new.names (map (flat_cell path) (filter (λ (d : CellDef). is_primitive d.made) (map (cell_tree source) cs))) found.items)) c.deref-2.ensures.value
    (c.cells_at.ensures.cells path (c.deref.ensures.value ∙ at))
