use Rattle.std.proofs.Common.{sym}
use Rattle.fil_parse.specs.inside.Offsets.{of_statement}
use Rattle.fil_parse.specs.Spelling.{is_large}
use Rattle.fil_parse.proofs.Finding.{found, passed}
use Rattle.fil_parse.proofs.offsets.large_statement.Goals as goal

pub returns-in-Some : goal.returns-in-Some
returns-in-Some c =
    sym (found is_large of_statement c.args.body.now c.loop-stmt.stmt-index c.stmt-item.result c.stmt-item.result c.in-Some.plus c.loop-stmt-test.true (sym c.stmt-item.is) c.loop-stmt.invariant (sym c.in-Some.ensures))

pub loop-stmt-preserved : goal.loop-stmt-preserved
loop-stmt-preserved c =
    passed is_large of_statement c.args.body.now c.loop-stmt.stmt-index c.stmt-item.result c.stmt-item.result c.loop-stmt-test.true (sym c.stmt-item.is) c.loop-stmt.invariant (sym c.in_default.ensures)
