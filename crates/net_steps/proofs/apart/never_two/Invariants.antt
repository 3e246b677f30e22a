use Rattle.std.proofs.Common.{nat_eq, take}
use Rattle.indexmap.specs.IndexMap.{get}
use Rattle.net_steps.proofs.ApartLemmas.{AreApartUpto}
use Rattle.net_steps.proofs.apart.never_two.Given as goal

-- of the first drivers no two act at once
abbrev pub invariant-loop-driver : goal.invariant-loop-driver
invariant-loop-driver l = AreApartUpto l.steps l.slot (take l.driver-index l.drivers) (get nat_eq l.groups)
