use Rattle.std.proofs.Common.{◌≡◌, ◌++◌, ◌∷◌, [], true, false, cond, map, List, ap, subst, sym, ◌∙◌}
use Rattle.std.proofs.lemmas.List.{append-nil}
use Rattle.hw_names.proofs.NameLemmas.{text_of-slice_get}
use Rattle.hw_names.specs.Name.{text_of}
use Rattle.hw_prims.specs.Table.{is_primitive}
use Rattle.cal_ast.specs.Tree.{cell_tree}
use Rattle.net_core.specs.Netlist.{CellLine, cell_of}
use Rattle.net_core.specs.Numbers.{CellHasNumbers}
use Rattle.cal_ast.specs.Keeping.{flat_cell}
use Rattle.net_flat.specs.inside.StandFor.{AreCells}
use Rattle.net_flat.proofs.StandLemmas.{stable_cell, stand_push}
use Rattle.net_flat.proofs.lines.put_cell.Goals as goal

pub returns-then-not-is_primitive-clause-cells : goal.returns-then-not-is_primitive-clause-cells
returns-then-not-is_primitive-clause-cells c = λ path lines at h.
    let source = c.args.source.now in
    let cell = c.args.cell.now in
    let made = text_of-slice_get source cell.made c.text.result.now c.text.ensures in
    let is : is_primitive (text_of source cell.made) ≡ false = ap is_primitive made ∙ sym c.is_primitive.ensures ∙ c.if-not-is_primitive.true in
    let none = ap (λ b. lines ++ map (flat_cell path) (cond b (cell_tree source cell ∷ []) [])) is ∙ append-nil lines in
    subst (λ (ls : List CellLine). AreCells c.args.names.now ls c.args.found.now.items) (sym none) h

pub returns-clause-cells : goal.returns-clause-cells
returns-clause-cells c = λ path lines at h.
    let source = c.args.source.now in
    let cell = c.args.cell.now in
    let names = c.cell_at.new.names in
    let made = text_of-slice_get source cell.made c.text.result.now c.text.ensures in
    let is : is_primitive (text_of source cell.made) ≡ true = ap is_primitive made ∙ sym c.is_primitive.ensures ∙ c.if-not-is_primitive.false in
    let one = ap (λ b. lines ++ map (flat_cell path) (cond b (cell_tree source cell ∷ []) [])) is in
    rw c.in_ok-push.ensures.items
    (subst (λ (ls : List CellLine). AreCells names ls (c.args.found.now.items ++ c.in_ok-cell_at.field-0 ∷ [])) (sym one)
    (stand_push CellHasNumbers cell_of stable_cell c.args.names.now names lines c.args.found.now.items (flat_cell path (cell_tree source cell)) c.in_ok-cell_at.field-0 c.cell_at.ensures.kept h (c.in_ok-cell_at.ensures.cell path at)))
