use Rattle.std.proofs.Common.{take}
use Rattle.cal_group.specs.inside.Ruling.{AddsRuled}
use Rattle.cal_group.proofs.remove.put_ruled.Given as goal

abbrev pub invariant-loop-set : goal.invariant-loop-set
invariant-loop-set l = AddsRuled l.when (take l.set-index l.set-items) l.initial.sets.items l.sets.items
