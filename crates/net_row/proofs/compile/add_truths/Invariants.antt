use Rattle.net_row.specs.inside.Compiling.{AddsTruths}
use Rattle.net_row.proofs.compile.add_truths.Given as goal

abbrev pub invariant-loop-place : goal.invariant-loop-place
invariant-loop-place l = AddsTruths l.numbered l.fn.made l.made
