use Rattle.std.proofs.Common.{false, get_or}
use Rattle.std.proofs.lemmas.List.{get_or_default}
use Rattle.hw_levels.specs.declared.cells.CellPort.{CellPort}
use Rattle.hw_levels.proofs.WalkLemmas.{walked_more}
use Rattle.hw_levels.proofs.cells.keeps_levels.Goals as goal

pub loop-port-preserved : goal.loop-port-preserved
loop-port-preserved c =
    let ports = c.args.ports.now in
    let i = c.loop-port.port-index in
    let none : CellPort = record { cell = 0; level = 0; node = 0; is_input = false } in
    let port = get_or ports i none in
    walked_more ports c.args.levels.now c.loop-port.walk c.over-walk.result i port c.loop-port-test.true
    (get_or_default ports i port none c.loop-port-test.true) c.loop-port.invariant
    (c.is_before.ensures.0 c.if-not-is_before.false) (c.allows.ensures.0 c.if-not-allows.false) c.over-walk.ensures
