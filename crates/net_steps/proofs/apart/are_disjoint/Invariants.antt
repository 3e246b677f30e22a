use Rattle.std.proofs.Common.{take}
use Rattle.net_steps.specs.Apart.{AreDisjoint}
use Rattle.net_steps.proofs.apart.are_disjoint.Given as goal

-- none of the first is in the second list
abbrev pub invariant-loop-number : goal.invariant-loop-number
invariant-loop-number l = AreDisjoint (take l.number-index l.first) l.second
