use Rattle.std.proofs.Common.{List, [], length, map, get_or, ap, sym, subst, subst₂, arith}
use Rattle.std.specs.Prelude.{All, Contains}
use Rattle.std.proofs.lemmas.List.{length-map, map-append}
use Rattle.std.proofs.lemmas.Option.{get_or_from_slice_get, slice_get_within}
use Rattle.hw_names.specs.Name.{Text, text_of}
use Rattle.net_core.specs.Graph.{option_ports, source_ports, set_ports}
use Rattle.net_core.specs.Netlist.{netlist_of, set_of}
use Rattle.net_sim.proofs.CellLemmas.{set_item}
use Rattle.net_sim.proofs.GuardReadLemmas.{guard_there}
use Rattle.net_sim.proofs.ValidLemmas.{dst_exists, source_there}
use Rattle.net_sim.proofs.WireLemmas.{add_all, add_more, sets_more}
use Rattle.net_sim.specs.Layout.{port_names}
use Rattle.net_sim.specs.inside.Wires.{reading, set_readings, AddReadings}
use Rattle.net_sim.proofs.wires.add_set_reads.Goals.{After-find_port-arg-1, In_ok-add_source_read}
use Rattle.net_sim.proofs.wires.add_set_reads.Goals as goal

pub find_port-port-requires-clause-there : goal.find_port-port-requires-clause-there
find_port-port-requires-clause-there c =
    let net = c.args.net.now in
    let at = set_item net c.deref-set-items.result.now c.loop-set.set-index c.set-item.result c.deref-set-items.ensures.value c.loop-set-test.true c.set-item.is in
    rw c.requires.table.names (dst_exists (netlist_of net) c.requires.valid c.loop-set.set-index (set_of net.names c.set-item.result) at)

pub add_source_read-requires-clause-there : goal.add_source_read-requires-clause-there
add_source_read-requires-clause-there c =
    let net = c.args.net.now in
    let at = set_item net c.deref-set-items.result.now c.loop-set.set-index c.set-item.result c.deref-set-items.ensures.value c.loop-set-test.true c.set-item.is in
    subst (λ names. All (Contains names) (source_ports (set_of net.names c.set-item.result).src)) (sym c.requires.table.names) (source_there (netlist_of net) c.requires.valid c.loop-set.set-index (set_of net.names c.set-item.result) at)

pub add_option_reads-requires-clause-there : goal.add_option_reads-requires-clause-there
add_option_reads-requires-clause-there c =
    let net = c.args.net.now in
    let at = set_item net c.deref-set-items.result.now c.loop-set.set-index c.set-item.result c.deref-set-items.ensures.value c.loop-set-test.true c.set-item.is in
    subst (λ names. All (Contains names) (option_ports (set_of net.names c.set-item.result).guard)) (sym c.requires.table.names) (guard_there (netlist_of net) c.requires.valid c.loop-set.set-index (set_of net.names c.set-item.result) at)

pub add_source_read-requires-clause-port : goal.add_source_read-requires-clause-port
add_source_read-requires-clause-port c =
    slice_get_within c.args.table.now.names c.find_port-port.result (text_of c.args.net.now.names c.set-item.result.dst) c.find_port-port.ensures

pub loop-set-preserved : goal.loop-set-preserved
loop-set-preserved c =
    let net = c.args.net.now in
    let n = netlist_of net in
    let names = c.args.table.now.names in
    let a = set_of net.names c.set-item.result in
    let at = set_item net c.deref-set-items.result.now c.loop-set.set-index c.set-item.result c.deref-set-items.ensures.value c.loop-set-test.true c.set-item.is in
    let dst = get_or_from_slice_get names c.find_port-port.result a.dst [] c.find_port-port.ensures in
    let port = reading (get_or names c.find_port-port.result []) in
    let old = c.loop-set.entries.items in
    let new = c.add_source_read.new.entries.items in
    let both = add_more names (map port (option_ports a.guard)) (map port (source_ports a.src)) old c.add_option_reads.new.entries.items new c.in_ok-add_option_reads.ensures c.in_ok-add_source_read.ensures in
    let together = subst (λ l. AddReadings names l old new) (sym (map-append port (option_ports a.guard) (source_ports a.src))) both in
    let added = subst₂ (λ (l : List Text) (name : Text). AddReadings l (map (reading name) (set_ports a)) old new) c.requires.table.names dst together in
    sets_more n c.loop-set.set-index a c.args.entries.now.items old new at c.loop-set.invariant added

pub returns : goal.returns
returns c =
    let net = c.args.net.now in
    add_all (port_names (netlist_of net)) set_readings (netlist_of net).sets c.loop-set.set-index c.args.entries.now.items c.loop-set.entries.items
    (simp length-map (omega (arith, c.loop-set-test.false, ap length c.deref-set-items.ensures.value))) c.loop-set.invariant
