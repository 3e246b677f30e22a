use Rattle.std.proofs.Common.{◌≡◌, ◌≤◌, List, map, take, All}
use Rattle.hw_names.specs.Name.{Text}
use Rattle.net_core.specs.Graph.{guard_ports, guards_ports}
use Rattle.net_core.specs.Guard.{guard_tree, guards_of}
use Rattle.net_core.specs.declared.net.Guard.{size-Guard}
use Rattle.cal_ast.specs.Numbers.{GuardHasNumbers}
use Rattle.cal_ast.specs.Tree.{port_tree}
use Rattle.cal_place.specs.ReadPorts.{AddsPorts}
use Rattle.cal_place.proofs.reads.+add_guard.Given as goal

-- what is left reads what the guard reads, its names have texts, it is no deeper, and nothing is added yet
abbrev pub invariant-add_guard-loop-inner : goal.invariant-add_guard-loop-inner
invariant-add_guard-loop-inner l =
    record {
      reads : (names : List Text) → guard_ports (guard_tree (port_tree names) l.inner) ≡ guard_ports (guard_tree (port_tree names) l.guard);
      numbers : (names : List Text) → GuardHasNumbers names l.guard → GuardHasNumbers names l.inner;
      depth : size-Guard _ l.inner ≤ size-Guard _ l.guard;
      ports : l.ports.items ≡ l.fn.ports.items;
    }

-- the ports of the guards so far are added
abbrev pub invariant-add_guards-loop-guard : goal.invariant-add_guards-loop-guard
invariant-add_guards-loop-guard l =
    (names : List Text) → All (GuardHasNumbers names) l.guards → AddsPorts names l.fn.ports.items l.ports.items (guards_ports (guards_of (map (guard_tree (port_tree names)) (take l.guard-index l.guards))))
