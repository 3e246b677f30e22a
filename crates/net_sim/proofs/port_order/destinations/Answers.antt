use Rattle.std.proofs.Common.{◌≡◌, ◌+◌, ◌∙◌, ◌++◌, ◌∷◌, [], take, ap, sym, subst, subst₂, arith}
use Rattle.std.specs.Prelude.{slice_get, Some}
use Rattle.std.proofs.lemmas.List.{take_more, length-take-le}
use Rattle.std.proofs.lemmas.Option.{slice_get_within, get_or_from_slice_get}
use Rattle.net_core.specs.Netlist.{netlist_of, set_of}
use Rattle.net_sim.proofs.CellLemmas.{set_item}
use Rattle.net_sim.proofs.ValidLemmas.{dst_exists}
use Rattle.net_sim.proofs.OrderLemmas.{destinations_more}
use Rattle.net_sim.specs.inside.Destinations.{AreDestinations}
use Rattle.net_sim.specs.Layout.{port_names}
use Rattle.hw_graph.specs.declared.groups.Entry.{Entry}
use Rattle.net_sim.proofs.port_order.destinations.Goals as goal

pub find_port-key-requires-clause-there : goal.find_port-key-requires-clause-there
find_port-key-requires-clause-there c =
    let net = c.args.net.now in
    let at = set_item net c.deref-set-items.result.now c.loop-number.number c.set-item.result c.deref-set-items.ensures.value c.loop-number-test.true c.set-item.is in
    rw c.requires.table.names (dst_exists (netlist_of net) c.requires.valid c.loop-number.number (set_of net.names c.set-item.result) at)

pub loop-number-preserved : goal.loop-number-preserved
loop-number-preserved c =
    let net = c.args.net.now in
    let n = netlist_of net in
    let i = c.loop-number.number in
    let a = set_of net.names c.set-item.result in
    let at = set_item net c.deref-set-items.result.now i c.set-item.result c.deref-set-items.ensures.value c.loop-number-test.true c.set-item.is in
    let within = slice_get_within n.sets i a at in
    let there = subst (λ names. slice_get names c.find_port-key.result ≡ Some a.dst) c.requires.table.names c.find_port-key.ensures in
    let e : Entry = record { key = c.find_port-key.result; value = i } in
    let more = destinations_more (port_names n) 0 c.loop-number.entries.items (take i n.sets) e a c.loop-number.invariant (slice_get_within (port_names n) e.key a.dst there) (get_or_from_slice_get (port_names n) e.key a.dst [] there) (omega (arith, length-take-le i n.sets (omega (arith, within)))) in
    let step : take (i + 1) n.sets ≡ take i n.sets ++ a ∷ [] = take_more n.sets i a within ∙ ap (λ x. take i n.sets ++ x ∷ []) (get_or_from_slice_get n.sets i a a at) in
    subst₂ (AreDestinations (port_names n) 0) (sym c.in_ok-push.ensures.items) (sym step) more
