use Rattle.std.proofs.Common.{◌<◌, ◌++◌, [], List, length, take, get_or, flat_map, refl, sym, arith}
use Rattle.std.proofs.lemmas.List.{append-nil}
use Rattle.hw_names.specs.Name.{Text}
use Rattle.net_core.specs.Judging.{own_line, own_lines}
use Rattle.net_core.specs.Netlist.{pin_of}
use Rattle.net_core.specs.Rules.{PortLine, cell_names_at}
use Rattle.net_core.specs.declared.net.NetPort.{NetPort}
use Rattle.net_core.proofs.JudgingLemmas.{Reached, reached_none, reached_more, reached_broken}
use Rattle.net_core.proofs.LineLemmas.{own_line_at, length-own_lines}
use Rattle.net_core.proofs.pins.take_pins.Goals as goal

abbrev none : NetPort
none = record { name = record { 0 = 0 }; width = 0 }

pub loop-pin-init : goal.loop-pin-init
loop-pin-init c =
    let start = λ (all : List PortLine) (cells : List Text). reached_none all c.args.ports.now cells c.args.first (own_lines c.args.side c.args.names.now c.args.pins.now) in
    (omega arith, sym (append-nil c.args.ports.now), λ all cells. (start all cells).kept)

pub returns-in_err-take_pin-clause-judged : goal.returns-in_err-take_pin-clause-judged
returns-in_err-take_pin-clause-judged c all cells =
    let lines = own_lines c.args.side c.args.names.now c.args.pins.now in
    let before = cells ++ flat_map cell_names_at (take c.loop-pin.pin-index lines) in
    let r : Reached all c.args.ports.now cells c.args.first lines c.loop-pin.pin-index c.loop-pin.ports before c.loop-pin.item =
    record { ports_are = c.loop-pin.invariant.1; cells_are = refl; item_is = c.loop-pin.invariant.0; kept = c.loop-pin.invariant.2 all cells } in
    let within : c.loop-pin.pin-index < length lines = omega (arith, length-own_lines c.args.side c.args.names.now c.args.pins.now) in
    reached_broken (Unit {0}) r (own_line c.args.side (pin_of c.args.names.now none)) _ _ c.in_err-take_pin.field-0.0 within (own_line_at c.args.side c.args.names.now c.args.pins.now c.loop-pin.pin-index none)
    c.from_residual.ensures.1 (c.in_err-take_pin.ensures.judged all before)

pub loop-pin-preserved : goal.loop-pin-preserved
loop-pin-preserved c =
    let lines = own_lines c.args.side c.args.names.now c.args.pins.now in
    let i = c.loop-pin.pin-index in
    let line = own_line c.args.side (pin_of c.args.names.now (get_or c.args.pins.now i none)) in
    let within : i < length lines = omega (arith, length-own_lines c.args.side c.args.names.now c.args.pins.now) in
    let before = λ (cells : List Text). cells ++ flat_map cell_names_at (take i lines) in
    let r : (all : List PortLine) (cells : List Text) → Reached all c.args.ports.now cells c.args.first lines i c.loop-pin.ports (before cells) c.loop-pin.item =
    λ all cells. record { ports_are = c.loop-pin.invariant.1; cells_are = refl; item_is = c.loop-pin.invariant.0; kept = c.loop-pin.invariant.2 all cells } in
    let after = λ (all : List PortLine) (cells : List Text).
    reached_more (r all cells) (own_line c.args.side (pin_of c.args.names.now none)) line c.take_pin.new.ports (before cells ++ cell_names_at line) within
    (own_line_at c.args.side c.args.names.now c.args.pins.now i none) (c.in_ok-take_pin.ensures.judged all (before cells)) c.in_ok-take_pin.ensures.added refl in
    ((after [] []).item_is, (after [] []).ports_are, λ all cells. (after all cells).kept)
