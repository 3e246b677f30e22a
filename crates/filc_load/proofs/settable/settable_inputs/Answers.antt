use Rattle.std.proofs.Common.{◌≡◌, ℕ, ◌<◌, ◌∙◌, Some, ap, sym, length, vec_len, arith}
use Rattle.std.proofs.lemmas.List.{length-map}
use Rattle.std.proofs.lemmas.Option.{slice_get-get_or}
use Rattle.net_core.specs.Netlist.{netlist_of, pin_of}
use Rattle.net_core.specs.declared.net.Net.{Net}
use Rattle.filc_load.proofs.InputPortLemmas.{inputs_within}
use Rattle.filc_load.proofs.SettableLemmas.{name_within, inputs_more}
use Rattle.filc_load.proofs.settable.settable_inputs.Goals as goal

-- the number is that of an input
inside : (net : Net) (k end : ℕ) → end ≡ vec_len net.ins → k < end → k < length (netlist_of net).ins
inside net k end is before = omega (arith, is, before, net.ins.ok.0, length-map net.ins.items (pin_of net.names))

pub name_of-requires-clause-named : goal.name_of-requires-clause-named
name_of-requires-clause-named c =
    let built = c.args.built.now in
    name_within (netlist_of built.net) built.table c.requires.table c.loop-port.port (inside built.net c.loop-port.port c.len-port-end.result c.len-port-end.ensures c.loop-port-test.true)

pub index-requires : goal.index-requires
index-requires c =
    let built = c.args.built.now in
    let within = inside built.net c.loop-port.port c.len-port-end.result c.len-port-end.ensures c.loop-port-test.true in
    omega (arith, within, inputs_within (netlist_of built.net) built.table c.requires.table, built.table.ports.ok.0)

pub loop-port-preserved : goal.loop-port-preserved
loop-port-preserved c =
    let built = c.args.built.now in
    let n = netlist_of built.net in
    let k = c.loop-port.port in
    let within = inside built.net k c.len-port-end.result c.len-port-end.ensures c.loop-port-test.true in
    let listed : k < length built.table.ports.items = omega (arith, within, inputs_within n built.table c.requires.table) in
    c.in_ok-push.ensures.items
    ∙ inputs_more n built.table c.requires.table k c.in_ok-make.field-0 c.index.result.now c.loop-port.inputs.items within
    (c.name_of.ensures ∙ ap Some (sym c.in_ok-make.ensures))
    (slice_get-get_or built.table.ports.items k c.index.result.now listed ∙ ap Some (sym c.index.ensures)) c.loop-port.invariant
