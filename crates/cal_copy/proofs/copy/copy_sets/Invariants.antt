use Rattle.std.proofs.Common.{take}
use Rattle.std.specs.List.{AllZip}
use Rattle.cal_copy.specs.inside.Copies.{IsSetCopy}
use Rattle.cal_copy.proofs.copy.copy_sets.Given as goal

abbrev pub invariant-loop-set : goal.invariant-loop-set
invariant-loop-set l = AllZip IsSetCopy (take l.set-index l.sets) l.copies.items
