use Rattle.std.proofs.Common.{◌≤◌, ◌++◌, length, map, take}
use Rattle.cal_ast.specs.Tree.{Component, Design}
use Rattle.cal_sched.proofs.WatchLemmas.{group_for}
use Rattle.cal_sched.specs.Walking.{CanWalk}
use Rattle.cal_sched.specs.Watching.{AreWatchesOfGroups}
use Rattle.cal_sched.proofs.watch.push_invokes.Given as goal

-- the lines of the groups, and of the invokes so far
abbrev pub invariant-loop-place : goal.invariant-loop-place
invariant-loop-place l = record {
  within : l.place ≤ length l.invoke-items;
  watches : (design : Design) (c : Component) → CanWalk design c l.names l.ports l.control → AreWatchesOfGroups c.groups l.ports l.initial.watches.items
      → AreWatchesOfGroups (c.groups ++ map (group_for design c l.names) (take l.place l.invoke-items)) l.ports l.watches.items;
}
