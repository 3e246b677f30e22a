use Rattle.std.proofs.Common.{◌≡◌, ◌≤◌, map, drop}
use Rattle.hw_names.specs.Name.{text_of}
use Rattle.hw_prims.specs.Row.{Row}
use Rattle.net_core.specs.Guard.{guards_of, guard_tree, holds}
use Rattle.net_core.specs.Numbers.{GuardHasNumbers}
use Rattle.net_core.specs.declared.net.Guard.{size-Guard}
use Rattle.net_sim.specs.inside.Flattening.{IsKnownSource, EachSource, AreExits, AddsTests, joined, exit_of}
use Rattle.net_sim.proofs.flatten.+add_guard.Given as goal

-- what is left leads to its ways where the guard leads to its exits, has numbers and sources, and is no deeper
abbrev pub invariant-add_guard-loop-inner : goal.invariant-add_guard-loop-inner
invariant-add_guard-loop-inner l = record {
  tests : l.tests.items ≡ l.fn.tests.items;
  same : (row : Row) → exit_of l.ways (holds row (guard_tree (text_of l.names) l.inner)) ≡ exit_of l.fn.exits (holds row (guard_tree (text_of l.names) l.guard));
  numbers : GuardHasNumbers l.names l.inner;
  sources : EachSource (IsKnownSource l.ports) (guard_tree (text_of l.names) l.inner);
  ways : AreExits l.tests.items l.ways;
  size : size-Guard _ l.inner ≤ size-Guard _ l.guard;
}

-- the last guards of the list are there
abbrev pub invariant-add_list-loop-place : goal.invariant-add_list-loop-place
invariant-add_list-loop-place l =
    AddsTests l.ports l.initial.tests.items l.tests.items l.exits (λ row. joined l.join row (guards_of (map (guard_tree (text_of l.names)) (drop l.place l.guards)))) l.start
