use Rattle.std.proofs.Common.{[], get_or, ap}
use Rattle.std.proofs.lemmas.Option.{slice_get_within, get_or_from_slice_get}
use Rattle.hw_names.specs.Name.{text_of}
use Rattle.net_sim.proofs.WireLemmas.{add_one}
use Rattle.net_sim.specs.inside.Wires.{reading}
use Rattle.hw_graph.specs.declared.groups.Entry.{Entry}
use Rattle.net_sim.proofs.wires.add_source_read.Goals as goal

pub returns-in_ok-push : goal.returns-in_ok-push
returns-in_ok-push c =
    let ports = c.args.ports.now in
    let name = text_of c.args.names.now c.in-Port.id in
    let e : Entry = record { key = c.args.port; value = c.find_port-value.result } in
    let one = add_one ports c.args.entries.now.items e (reading (get_or ports c.args.port []) name) c.requires.port (slice_get_within ports c.find_port-value.result name c.find_port-value.ensures)
    (ap (reading (get_or ports c.args.port [])) (get_or_from_slice_get ports c.find_port-value.result name [] c.find_port-value.ensures)) in
    rw (c.in-Port.is, c.in_ok-push.ensures.items) one
