use Rattle.std.proofs.Common.{take}
use Rattle.std.specs.List.{AllZip}
use Rattle.cal_copy.specs.inside.Copies.{IsGroupCopy}
use Rattle.cal_copy.proofs.copy.copy_groups.Given as goal

abbrev pub invariant-loop-group : goal.invariant-loop-group
invariant-loop-group l = AllZip IsGroupCopy (take l.group-index l.groups) l.copies.items
