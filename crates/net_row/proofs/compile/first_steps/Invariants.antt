use Rattle.std.proofs.Common.{◌≡◌, ◌+◌, length}
use Rattle.net_row.specs.inside.Compiling.{net_of}
use Rattle.net_row.specs.Kinds.{kept_in}
use Rattle.net_row.proofs.compile.first_steps.Given as goal

abbrev pub invariant-loop-operation : goal.invariant-loop-operation
invariant-loop-operation l = l.steps.base ≡ kept_in l.numbered.cells.now + length (net_of l.numbered).ins
