use Rattle.std.proofs.Common.{sym, refl, get_or}
use Rattle.fil_parse.specs.inside.Offsets.{of_port}
use Rattle.fil_parse.specs.Spelling.{is_large}
use Rattle.fil_parse.proofs.Finding.{found, passed}
use Rattle.fil_ast.specs.declared.tree.FilPort.{FilPort}
use Rattle.fil_parse.proofs.offsets.large_port.Goals as goal

pub returns-in-Some : goal.returns-in-Some
returns-in-Some c =
    let zero : FilPort = record { from = record { event = record { 0 = 0 }; plus = 0 }; to = record { event = record { 0 = 0 }; plus = 0 }; name = record { 0 = 0 }; width = 0 } in
    sym (found is_large of_port c.args.ports.now c.loop-port.port-index zero (get_or c.args.ports.now c.loop-port.port-index zero) c.in-Some.plus c.loop-port-test.true refl c.loop-port.invariant (sym c.in-Some.ensures))

pub loop-port-preserved : goal.loop-port-preserved
loop-port-preserved c =
    let zero : FilPort = record { from = record { event = record { 0 = 0 }; plus = 0 }; to = record { event = record { 0 = 0 }; plus = 0 }; name = record { 0 = 0 }; width = 0 } in
    passed is_large of_port c.args.ports.now c.loop-port.port-index zero (get_or c.args.ports.now c.loop-port.port-index zero) c.loop-port-test.true refl c.loop-port.invariant (sym c.in_default.ensures)
