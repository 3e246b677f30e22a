use Rattle.std.proofs.Common.{take}
use Rattle.std.specs.List.{AllZip}
use Rattle.cal_copy.specs.inside.Copies.{IsDoneCopy}
use Rattle.cal_copy.proofs.copy.copy_dones.Given as goal

abbrev pub invariant-loop-done : goal.invariant-loop-done
invariant-loop-done l = AllZip IsDoneCopy (take l.done-index l.dones) l.copies.items
