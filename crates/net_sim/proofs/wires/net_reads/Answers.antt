use Rattle.std.proofs.Common.{[], sym, subst, arith}
use Rattle.net_core.specs.Netlist.{netlist_of}
use Rattle.net_sim.proofs.WireLemmas.{cell_ends, start_entries}
use Rattle.net_sim.specs.Layout.{port_names}
use Rattle.net_sim.specs.inside.Wires.{AreEntriesOf}
use Rattle.net_sim.proofs.wires.net_reads.Goals as goal

pub add_cells_reads-requires : goal.add_cells_reads-requires
add_cells_reads-requires c = record { room = λ k d lt. omega (arith, cell_ends (netlist_of c.args.net.now) c.args.cells.now c.requires.cells k d lt, c.requires.room) }

pub returns : goal.returns
returns c =
    let n = netlist_of c.args.net.now in
    let start = subst (AreEntriesOf (port_names n) []) (sym c.new-entries.ensures.items) (start_entries (port_names n)) in
    c.in_ok-add_cells_reads.ensures n c.requires.cells _ (c.in_ok-add_set_reads.ensures [] start)
