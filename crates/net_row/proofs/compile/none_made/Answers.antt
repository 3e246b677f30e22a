use Rattle.std.proofs.Common.{arith}
use Rattle.net_row.proofs.ProgramLemmas.{made_none}
use Rattle.net_row.proofs.compile.none_made.Goals as goal

pub returns : goal.returns
returns c =
    let numbered = c.args.numbered.now in
    made_none numbered _ numbered.ports c.len.result c.requires.base c.requires.numbered.ports (omega (arith, c.len.ensures, numbered.guards.tests.ok.0)) c.in_ok-new.ensures c.in_ok-new-2.ensures c.new-3.ensures.items
