use Rattle.std.proofs.Common.{sym, subst}
use Rattle.net_core.specs.Netlist.{netlist_of, set_of}
use Rattle.net_sim.proofs.CellLemmas.{set_item}
use Rattle.net_sim.proofs.FlattenLemmas.{guard_sources, guards_more}
use Rattle.net_sim.specs.inside.Flattening.{IsKnownSource, EachOptionSource, AddsGuard}
use Rattle.net_sim.proofs.flatten.flatten.Goals as goal

pub add_option-requires-clause-sources : goal.add_option-requires-clause-sources
add_option-requires-clause-sources c =
    let net = c.args.net.now in
    let at = set_item net c.deref-set-items.result.now c.loop-set.set-index c.set-item.result c.deref-set-items.ensures.value c.loop-set-test.true c.set-item.is in
    subst (λ names. EachOptionSource (IsKnownSource names) (set_of net.names c.set-item.result).guard) (sym c.requires.table.names) (guard_sources (netlist_of net) c.requires.valid c.loop-set.set-index (set_of net.names c.set-item.result) at)

pub loop-set-preserved : goal.loop-set-preserved
loop-set-preserved c =
    let net = c.args.net.now in
    let a = set_of net.names c.set-item.result in
    let at = set_item net c.deref-set-items.result.now c.loop-set.set-index c.set-item.result c.deref-set-items.ensures.value c.loop-set-test.true c.set-item.is in
    rw c.in_ok-push.ensures.items
    (guards_more (netlist_of net) c.loop-set.set-index c.loop-set.tests.items c.add_option.new.tests.items c.loop-set.starts.items a c.in_ok-start.start c.loop-set.invariant at
    (subst (λ names. AddsGuard names c.loop-set.tests.items c.add_option.new.tests.items a.guard c.in_ok-start.start) c.requires.table.names c.in_ok-start.ensures))
