use Rattle.std.proofs.Common.{◌≡◌, ◌≤◌, [], get_or, take}
use Rattle.std.specs.List.{flat_map}
use Rattle.hw_names.specs.Name.{text_of}
use Rattle.net_core.specs.Graph.{guard_ports}
use Rattle.net_core.specs.Guard.{guard_tree}
use Rattle.net_core.specs.Numbers.{GuardHasNumbers}
use Rattle.net_core.specs.declared.net.Guard.{size-Guard}
use Rattle.net_sim.proofs.GuardReadLemmas.{guard_readings}
use Rattle.net_sim.specs.inside.Wires.{AddReadings}
use Rattle.net_sim.proofs.wires.+add_guard_reads.Given as goal

-- what is left reads what the guard reads, its names have texts, it is no deeper, and nothing is added yet
abbrev pub invariant-add_guard_reads-loop-inner : goal.invariant-add_guard_reads-loop-inner
invariant-add_guard_reads-loop-inner l =
    record {
      reads : guard_ports (guard_tree (text_of l.names) l.inner) ≡ guard_ports (guard_tree (text_of l.names) l.guard);
      numbers : GuardHasNumbers l.names l.inner;
      depth : size-Guard _ l.inner ≤ size-Guard _ l.guard;
      entries : l.entries.items ≡ l.fn.entries.items;
    }

abbrev pub invariant-add_guards_reads-loop-guard : goal.invariant-add_guards_reads-loop-guard
invariant-add_guards_reads-loop-guard l =
    AddReadings l.ports (flat_map (guard_readings (get_or l.ports l.port []) (text_of l.names)) (take l.guard-index l.guards)) l.fn.entries.items l.entries.items
