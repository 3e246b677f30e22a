use Rattle.std.proofs.Common.{nat_eq, take}
use Rattle.indexmap.specs.IndexMap.{get}
use Rattle.net_steps.specs.Apart.{JoinsGroups}
use Rattle.net_steps.proofs.apart.join_groups.Given as goal

-- it is in the groups of the first numbers
abbrev pub invariant-loop-number : goal.invariant-loop-number
invariant-loop-number l = JoinsGroups l.steps (get nat_eq l.fn.groups) (get nat_eq l.groups) (take l.number-index l.numbers) l.truth
