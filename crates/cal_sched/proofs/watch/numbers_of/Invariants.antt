use Rattle.std.proofs.Common.{◌≡◌, map, take}
use Rattle.cal_sched.specs.Watching.{AreWithin, named, top_port}
use Rattle.cal_sched.proofs.watch.numbers_of.Given as goal

-- the numbers are of the ports so far
abbrev pub invariant-loop-port : goal.invariant-loop-port
invariant-loop-port l = record {
  numbers : map (named l.ports) l.numbers.items ≡ map (top_port l.names) (take l.port-index l.conditions);
  within : AreWithin l.ports l.numbers.items;
}
