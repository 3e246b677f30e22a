use Rattle.std.proofs.Common.{◌≡◌, List, [], ◌∷◌, map, refl, ap₂, ◌+◌, ◌∙◌, sym, cond, rules}
use Rattle.std.proofs.lemmas.List.Sums.{length-filter, sum_by-cons}
use Rattle.std.specs.List.{count_by}
use Rattle.hw_names.specs.Name.{Text}
use Rattle.net_core.specs.Netlist.{CellLine, cell_of}
use Rattle.net_core.specs.declared.net.NetCell.{NetCell}
use Rattle.net_sim.specs.Shown.{is_shown}
use Rattle.row_tests.proofs.rows.shown_count.Goals as goal

count_shown-map : (names : List Text) (cells : List NetCell) → count_by is_shown (map (cell_of names) cells) ≡ count_by (λ (c : NetCell). c.shown) cells
count_shown-map names [] = refl
count_shown-map names (c ∷ cells) =
    sum_by-cons (λ (l : CellLine). cond l.shown 1 0) (cell_of names c) (map (cell_of names) cells)
    ∙ ap₂ (λ m n. m + n) refl (count_shown-map names cells)
    ∙ sym (sum_by-cons (λ (l : NetCell). cond l.shown 1 0) c cells)

pub returns : goal.returns
returns c =
    let net = c.args.net.now in
    let counted : c.count.result ≡ count_by (λ (cell : NetCell). cell.shown) net.cells.items = search rules in
    counted ∙ sym (length-filter is_shown (map (cell_of net.names) net.cells.items) ∙ count_shown-map net.names net.cells.items)
