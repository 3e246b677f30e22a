use Rattle.std.proofs.Common.{◌<◌, ◌++◌, [], List, length, take, flat_map, refl, ap, sym, ◌∙◌, arith}
use Rattle.hw_names.specs.Name.{Text}
use Rattle.net_core.specs.Judging.{set_lines}
use Rattle.net_core.specs.Netlist.{SetOf, set_of}
use Rattle.net_core.specs.Rules.{PortLine, ports_at, cell_names_at}
use Rattle.net_core.proofs.JudgingLemmas.{Reached, reached_none, reached_more, reached_broken}
use Rattle.net_core.proofs.LineLemmas.{set_line_at, length-set_lines}
use Rattle.net_core.proofs.sets.check_sets.Goals as goal

pub loop-set-init : goal.loop-set-init
loop-set-init c =
    let start = λ (before : List PortLine) (cells : List Text). reached_none c.args.ports.now before cells c.args.first (set_lines c.args.names.now c.args.sets.now) in
    (omega arith, λ before cells. (start before cells).kept)

pub returns-in_err-check_set : goal.returns-in_err-check_set
returns-in_err-check_set c before cells =
    let lines = set_lines c.args.names.now c.args.sets.now in
    let i = c.loop-set.set-index in
    let ports' = before ++ flat_map ports_at (take i lines) in
    let cells' = cells ++ flat_map cell_names_at (take i lines) in
    let r : Reached c.args.ports.now before cells c.args.first lines i ports' cells' c.loop-set.item =
    record { ports_are = refl; cells_are = refl; item_is = c.loop-set.invariant.0; kept = c.loop-set.invariant.1 before cells } in
    let within : i < length lines = omega (arith, length-set_lines c.args.names.now c.args.sets.now) in
    let at = set_line_at c.args.names.now c.args.sets.now i c.set-item.result ∙ ap (λ set. SetOf (set_of c.args.names.now set)) (sym c.set-item.is) in
    reached_broken (Unit {0}) r (SetOf (set_of c.args.names.now c.set-item.result)) _ _ c.in_err-check_set.field-0.0 within at
    c.from_residual.ensures.1 (c.in_err-check_set.ensures ports' cells')

pub loop-set-preserved : goal.loop-set-preserved
loop-set-preserved c =
    let lines = set_lines c.args.names.now c.args.sets.now in
    let i = c.loop-set.set-index in
    let ports' = λ (before : List PortLine). before ++ flat_map ports_at (take i lines) in
    let cells' = λ (cells : List Text). cells ++ flat_map cell_names_at (take i lines) in
    let r : (before : List PortLine) (cells : List Text) → Reached c.args.ports.now before cells c.args.first lines i (ports' before) (cells' cells) c.loop-set.item =
    λ before cells. record { ports_are = refl; cells_are = refl; item_is = c.loop-set.invariant.0; kept = c.loop-set.invariant.1 before cells } in
    let within : i < length lines = omega (arith, length-set_lines c.args.names.now c.args.sets.now) in
    let at = set_line_at c.args.names.now c.args.sets.now i c.set-item.result ∙ ap (λ set. SetOf (set_of c.args.names.now set)) (sym c.set-item.is) in
    let line = SetOf (set_of c.args.names.now c.set-item.result) in
    let after = λ (before : List PortLine) (cells : List Text).
    reached_more (r before cells) line line (ports' before ++ []) (cells' cells ++ []) within at (c.in_ok-check_set.ensures (ports' before) (cells' cells)) refl refl in
    ((after [] []).item_is, λ before cells. (after before cells).kept)
