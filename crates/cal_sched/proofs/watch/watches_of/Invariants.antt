use Rattle.std.proofs.Common.{◌≤◌, length, map, take}
use Rattle.cal_ast.specs.Tree.{group_tree}
use Rattle.cal_sched.specs.Watching.{AreWatchesOfGroups}
use Rattle.cal_sched.proofs.watch.watches_of.Given as goal

-- the lines of the groups so far
abbrev pub invariant-loop-actor : goal.invariant-loop-actor
invariant-loop-actor l = record {
  within : l.actor ≤ length l.group-items;
  watches : AreWatchesOfGroups (map (group_tree l.names) (take l.actor l.group-items)) l.ports l.watches.items;
}
