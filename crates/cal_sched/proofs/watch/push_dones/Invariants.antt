use Rattle.std.proofs.Common.{take}
use Rattle.cal_sched.specs.Watching.{PutsDones}
use Rattle.cal_sched.proofs.watch.push_dones.Given as goal

-- the lines so far are put
abbrev pub invariant-loop-done : goal.invariant-loop-done
invariant-loop-done l = PutsDones l.names l.ports l.actor (take l.done-index l.dones) l.initial.watches.items l.watches.items
