use Rattle.std.proofs.Common.{take}
use Rattle.std.specs.Prelude.{All}
use Rattle.hw_names.specs.Name.{HasNoDot}
use Rattle.fil_loops.proofs.cells.are_dotless.Given as goal

-- none of the instances so far has a dot in its name
abbrev pub invariant-loop-instance : goal.invariant-loop-instance
invariant-loop-instance l = All HasNoDot (take l.instance l.ports.instances)
