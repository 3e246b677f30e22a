use Rattle.std.proofs.Common.{◌≡◌, ℕ, ◌+◌, List, [], ◌++◌, Some, length, get_or, drop, slice_get, arith, ap, subst, subst₂, sym, ◌∙◌}
use Rattle.std.proofs.lemmas.List.{drop_all}
use Rattle.std.proofs.lemmas.List.Elements.{All-get_or}
use Rattle.std.proofs.lemmas.Option.{slice_get-get_or}
use Rattle.std.proofs.lemmas.Result.{IfOk-weaker}
use Rattle.hw_graph.specs.Groups.{IsGathered}
use Rattle.hw_graph.specs.declared.groups.Entry.{Entry}
use Rattle.hw_cells.specs.Cells.{IsFit}
use Rattle.hw_cells.specs.inside.Copies.{cell_entries}
use Rattle.hw_cells.specs.inside.Parts.{cells_at}
use Rattle.hw_cells.specs.declared.cell.Cell.{Cell}
use Rattle.hw_cells.proofs.FlatLemmas.{IsFlatSoFar, flat_end, flat_more, flat_start}
use Rattle.hw_cells.proofs.PartLemmas.{cells_at-all, cells_at-drop}
use Rattle.hw_cells.proofs.flat.flat_copies.Goals as goal

pub loop-number-init : goal.loop-number-init
loop-number-init c =
    let cells = c.args.cells.now in
    let numbers = c.args.numbers.now in
    let ports = c.args.ports in
    record {
      flat = flat_start c.args.entries.items (cells_at cells numbers) ports c.requires.entries (cells_at-all (IsFit ports) cells numbers c.requires.cells);
      small = c.requires.room;
    }

pub add_cell-requires-clause-cell : goal.add_cell-requires-clause-cell
add_cell-requires-clause-cell c =
    let cells = c.args.cells.now in
    let number = get_or c.args.numbers.now c.loop-number.number-index 0 in
    let cell = c.index-cells-number.result in
    let within = c.requires.within c.loop-number.number-index 0 c.loop-number-test.true in
    (c.args.ports, subst (IsFit c.args.ports) (sym c.index-cells-number.is) (All-get_or (IsFit c.args.ports) cells number cell within c.requires.cells))

pub loop-number-preserved : goal.loop-number-preserved
loop-number-preserved c =
    let entries = c.args.entries.items in
    let cells = c.args.cells.now in
    let numbers = c.args.numbers.now in
    let ports = c.args.ports in
    let index = c.loop-number.number-index in
    let number = get_or numbers index 0 in
    let cell = c.index-cells-number.result in
    let now = c.loop-number.entries.items in
    let nodes = c.loop-number.nodes in
    let rest = cells_at cells (drop (index + 1) numbers) in
    let within = c.requires.within index 0 c.loop-number-test.true in
    let at : slice_get cells number ≡ Some cell = slice_get-get_or cells number cell within ∙ ap Some (sym c.index-cells-number.is) in
    let fit = subst (IsFit ports) (sym c.index-cells-number.is) (All-get_or (IsFit ports) cells number cell within c.requires.cells) in
    let left_is = cells_at-drop cells numbers index 0 cell c.loop-number-test.true at in
    let before = subst (λ (left : List Cell). IsFlatSoFar entries (cells_at cells numbers) ports left now nodes) left_is c.loop-number.invariant.flat in
    let flat = flat_more entries (cells_at cells numbers) rest ports cell now nodes fit (cells_at-all (IsFit ports) cells (drop (index + 1) numbers) c.requires.cells) before in
    let entries_are : c.add_cell.new.entries.items ≡ now ++ cell_entries nodes cell = c.in_ok-add_cell.ensures in
    let size_is : c.len-nodes.result ≡ length cell.reads.now = c.len-nodes.ensures in
    record {
      flat = subst₂ (λ (list : List Entry) (more : ℕ). IsFlatSoFar entries (cells_at cells numbers) ports rest list (nodes + more)) (sym entries_are) (sym size_is) flat;
      small = omega (arith, size_is, c.len.ensures, c.if-len-nodes.false, c.loop-number.invariant.small);
    }

pub returns-clause-flat : goal.returns-clause-flat
returns-clause-flat c =
    let entries = c.args.entries.items in
    let cells = c.args.cells.now in
    let numbers = c.args.numbers.now in
    let ports = c.args.ports in
    let nodes = c.loop-number.nodes in
    let now = c.loop-number.entries.items in
    let none : drop c.loop-number.number-index numbers ≡ [] = drop_all c.loop-number.number-index numbers c.loop-number-test.false in
    let flat = subst (λ (left : List ℕ). IsFlatSoFar entries (cells_at cells numbers) ports (cells_at cells left) now nodes) none c.loop-number.invariant.flat in
    IfOk-weaker c.gather.result _ _ (λ reads gathered. flat_end entries (cells_at cells numbers) ports now nodes reads flat (subst (λ (list : List Entry). IsGathered list nodes reads) c.as_slice.ensures.value gathered)) c.gather.ensures
