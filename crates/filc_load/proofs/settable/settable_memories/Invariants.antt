use Rattle.std.proofs.Common.{◌≡◌, map, take}
use Rattle.std.specs.List.{filter}
use Rattle.net_core.specs.Netlist.{netlist_of}
use Rattle.net_sim.specs.Shown.{is_shown}
use Rattle.filc_load.specs.Settable.{memory_shape}
use Rattle.filc_load.proofs.settable.settable_memories.Given as goal

-- the shown memories among the cells so far are there
abbrev pub invariant-loop-cell : goal.invariant-loop-cell
invariant-loop-cell l = l.memories.items ≡ map memory_shape (filter is_shown (take l.cell-index (netlist_of l.net).cells))
