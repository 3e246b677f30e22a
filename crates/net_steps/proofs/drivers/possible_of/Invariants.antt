use Rattle.std.proofs.Common.{take}
use Rattle.net_steps.specs.Drivers.{ActAlike}
use Rattle.net_steps.proofs.drivers.possible_of.Given as goal

-- the first drivers act as those that are kept
abbrev pub invariant-loop-driver : goal.invariant-loop-driver
invariant-loop-driver l = ActAlike l.possible.items (take l.driver-index l.drivers)
