use Rattle.std.proofs.Common.{◌<◌, [], List, length, ap, sym, ◌∙◌, arith}
use Rattle.std.proofs.lemmas.List.{append-nil}
use Rattle.net_core.specs.Judging.{cell_lines}
use Rattle.net_core.specs.Netlist.{CellOf, cell_of}
use Rattle.net_core.specs.Rules.{PortLine}
use Rattle.net_core.proofs.JudgingLemmas.{Reached, reached_none, reached_more, reached_broken}
use Rattle.net_core.proofs.LineLemmas.{cell_line_at, length-cell_lines}
use Rattle.net_core.proofs.cells.take_cells.Goals as goal

pub loop-cell-init : goal.loop-cell-init
loop-cell-init c =
    let start = λ (all : List PortLine). reached_none all c.args.ports.now c.args.cells.now c.args.first (cell_lines c.args.names.now c.args.list.now) in
    (omega arith, sym (append-nil c.args.ports.now), sym (append-nil c.args.cells.now), λ all. (start all).kept)

pub returns-in_err-take_cell-clause-judged : goal.returns-in_err-take_cell-clause-judged
returns-in_err-take_cell-clause-judged c all =
    let lines = cell_lines c.args.names.now c.args.list.now in
    let r : Reached all c.args.ports.now c.args.cells.now c.args.first lines c.loop-cell.cell-index c.loop-cell.ports c.loop-cell.cells c.loop-cell.item =
    record { ports_are = c.loop-cell.invariant.1; cells_are = c.loop-cell.invariant.2; item_is = c.loop-cell.invariant.0; kept = c.loop-cell.invariant.3 all } in
    let within : c.loop-cell.cell-index < length lines = omega (arith, length-cell_lines c.args.names.now c.args.list.now) in
    let at = cell_line_at c.args.names.now c.args.list.now c.loop-cell.cell-index c.cell-item.result ∙ ap (λ cell. CellOf (cell_of c.args.names.now cell)) (sym c.cell-item.is) in
    reached_broken (Unit {0}) r (CellOf (cell_of c.args.names.now c.cell-item.result)) _ _ c.in_err-take_cell.field-0.0 within at
    c.from_residual.ensures.1 (c.in_err-take_cell.ensures.judged all)

pub loop-cell-preserved : goal.loop-cell-preserved
loop-cell-preserved c =
    let lines = cell_lines c.args.names.now c.args.list.now in
    let r : (all : List PortLine) → Reached all c.args.ports.now c.args.cells.now c.args.first lines c.loop-cell.cell-index c.loop-cell.ports c.loop-cell.cells c.loop-cell.item =
    λ all. record { ports_are = c.loop-cell.invariant.1; cells_are = c.loop-cell.invariant.2; item_is = c.loop-cell.invariant.0; kept = c.loop-cell.invariant.3 all } in
    let within : c.loop-cell.cell-index < length lines = omega (arith, length-cell_lines c.args.names.now c.args.list.now) in
    let at = cell_line_at c.args.names.now c.args.list.now c.loop-cell.cell-index c.cell-item.result ∙ ap (λ cell. CellOf (cell_of c.args.names.now cell)) (sym c.cell-item.is) in
    let line = CellOf (cell_of c.args.names.now c.cell-item.result) in
    let after = λ (all : List PortLine).
    reached_more (r all) line line c.take_cell.new.ports c.take_cell.new.cells within at (c.in_ok-take_cell.ensures.judged all) c.in_ok-take_cell.ensures.added c.in_ok-take_cell.ensures.named in
    ((after []).item_is, (after []).ports_are, (after []).cells_are, λ all. (after all).kept)
