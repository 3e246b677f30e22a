use Rattle.std.proofs.Common.{◌≡◌, length, take}
use Rattle.cal_sched.specs.Walking.{TellsDone}
use Rattle.cal_sched.proofs.walker.see_done.Given as goal

-- the marks tell which actors are done by the lines so far
abbrev pub invariant-loop-watch : goal.invariant-loop-watch
invariant-loop-watch l = record {
  sized : length l.done ≡ length l.fn.done;
  told : TellsDone l.sim.values (take l.watch-index l.watches) l.done;
}
