use Rattle.net_row.specs.inside.Compiling.{net_of}
use Rattle.net_row.specs.inside.Ports.{IsMadeOf}
use Rattle.net_row.proofs.compile.compile.Given as goal

abbrev pub invariant-loop-place : goal.invariant-loop-place
invariant-loop-place l = IsMadeOf (net_of l.numbered) l.numbered l.made
