use Rattle.std.proofs.Common.{sym, subst}
use Rattle.std.specs.Prelude.{All, Contains}
use Rattle.net_core.specs.Graph.{source_ports}
use Rattle.net_core.specs.Netlist.{netlist_of, set_of}
use Rattle.net_sim.proofs.CellLemmas.{set_item}
use Rattle.net_sim.proofs.SourceLemmas.{source_fits, sources_more}
use Rattle.net_sim.proofs.ValidLemmas.{source_there}
use Rattle.net_sim.specs.Compiled.{IsSource}
use Rattle.net_sim.proofs.plan.sources.Goals as goal

pub source_of-requires-clause-there : goal.source_of-requires-clause-there
source_of-requires-clause-there c =
    let net = c.args.net.now in
    let at = set_item net c.deref-set-items.result.now c.loop-set.set-index c.set-item.result c.deref-set-items.ensures.value c.loop-set-test.true c.set-item.is in
    subst (λ names. All (Contains names) (source_ports (set_of net.names c.set-item.result).src)) (sym c.requires.table.names) (source_there (netlist_of net) c.requires.valid c.loop-set.set-index (set_of net.names c.set-item.result) at)

pub source_of-requires-clause-fits : goal.source_of-requires-clause-fits
source_of-requires-clause-fits c =
    let net = c.args.net.now in
    let at = set_item net c.deref-set-items.result.now c.loop-set.set-index c.set-item.result c.deref-set-items.ensures.value c.loop-set-test.true c.set-item.is in
    source_fits (netlist_of net) c.requires.valid c.loop-set.set-index (set_of net.names c.set-item.result) at

pub loop-set-preserved : goal.loop-set-preserved
loop-set-preserved c =
    let net = c.args.net.now in
    let a = set_of net.names c.set-item.result in
    let at = set_item net c.deref-set-items.result.now c.loop-set.set-index c.set-item.result c.deref-set-items.ensures.value c.loop-set-test.true c.set-item.is in
    rw c.in_ok-push.ensures.items
    (sources_more (netlist_of net) c.loop-set.set-index c.loop-set.sources.items a c.source_of.result c.loop-set.invariant at (subst (λ names. IsSource names a.src c.source_of.result) c.requires.table.names c.source_of.ensures))
