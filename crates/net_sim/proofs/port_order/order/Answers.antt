use Rattle.std.proofs.Common.{◌≡◌, ◌<◌, ◌∙◌, List, length, ap, sym, subst, subst₂, arith}
use Rattle.std.specs.Prelude.{All}
use Rattle.std.proofs.lemmas.List.{length-map}
use Rattle.std.proofs.lemmas.Result.{err_from_is_err_and}
use Rattle.hw_names.specs.Name.{AreDistinct}
use Rattle.net_core.specs.Netlist.{netlist_of}
use Rattle.net_core.specs.Rules.{PortLine, ports_of}
use Rattle.net_sim.proofs.OrderLemmas.{graph_in_range, order_is, destinations_in_range, sets_of_port}
use Rattle.net_sim.proofs.LeastLoopLemmas.{least_loop_is}
use Rattle.hw_graph.specs.Groups.{IsGathered}
use Rattle.net_sim.specs.Layout.{port_names}
use Rattle.hw_graph.specs.Loop.{AtLoop}
use Rattle.net_sim.specs.Order.{IsLeastLoopOf}
use Rattle.hw_graph.specs.Graph.{IsLeastCycle}
use Rattle.hw_graph.specs.declared.order_end.OrderEnd.{OrderEnd}
use Rattle.hw_graph.specs.declared.order_end.OrderEnd.TheVariants.{Loop, Memory}
use Rattle.hw_graph.specs.declared.groups.Entry.{Entry}
use Rattle.net_sim.proofs.port_order.order.Goals.{In_ok-reads}
use Rattle.net_sim.proofs.port_order.order.Goals as goal

names_distinct : (c : In_ok-reads) → AreDistinct (port_names (netlist_of c.args.net.now))
names_distinct c = subst AreDistinct c.requires.table.names c.len-count.ensures.distinct

gathered : (c : In_ok-reads) → IsGathered c.in_ok-entries.entries.items (length (port_names (netlist_of c.args.net.now))) c.in_ok-reads.reads
gathered c = subst₂ (λ l k. IsGathered l k c.in_ok-reads.reads) c.as_slice-2.ensures.value (c.len-count.ensures.len ∙ ap length c.requires.table.names) c.in_ok-reads.ensures

pub order_or_least_loop-requires : goal.order_or_least_loop-requires
order_or_least_loop-requires c =
    let r : In_ok-reads = (goal.at.order_or_least_loop-requires c).In_ok-reads in
    let size = (gathered r).all in
    record {
      in_range = graph_in_range (netlist_of r.args.net.now) r.in_ok-entries.entries.items r.in_ok-reads.reads (names_distinct r) r.in_ok-entries.ensures (gathered r);
      names = omega (arith, size, ap length r.requires.table.names);
      room = omega (arith, size, ap length r.requires.table.names, r.len-count.ensures.len, r.len-count.ensures.small);
    }

-- the least loop of the graph, as the search ended in it, is that of the netlist
lifted : (r : In_ok-reads) (end : OrderEnd) → AtLoop end (λ ports. IsLeastCycle r.in_ok-reads.reads r.args.table.now.names ports) → AtLoop end (IsLeastLoopOf (netlist_of r.args.net.now))
lifted r (Loop ports) least =
    least_loop_is (netlist_of r.args.net.now) r.requires.valid r.in_ok-entries.entries.items r.in_ok-reads.reads (names_distinct r) r.in_ok-entries.ensures (gathered r) ports.items
    (subst (λ names. IsLeastCycle r.in_ok-reads.reads names ports.items) r.requires.table.names least)
lifted r Memory least = tt

pub returns-in_err-ports-clause-cycle : goal.returns-in_err-ports-clause-cycle
returns-in_err-ports-clause-cycle c =
    let p = err_from_is_err_and c.from_residual-in_err-ports.result c.from_residual-in_err-ports.ensures.1 in
    let r : In_ok-reads = (goal.at.returns-in_err-ports-clause-cycle c).In_ok-reads in
    rw (p.1, p.2) (lifted r c.in_err-ports.field-0.0 c.in_err-ports.ensures.cycle)

pub gather-requires-2-clause-in_range : goal.gather-requires-2-clause-in_range
gather-requires-2-clause-in_range c =
    let n = netlist_of c.args.net.now in
    let all = destinations_in_range (port_names n) 0 c.in_ok-destinations.destinations.items n.sets c.in_ok-destinations.ensures in
    let count : c.len-count.result ≡ length (port_names n) = c.len-count.ensures.len ∙ ap length c.requires.table.names in
    subst₂ (λ (l : List Entry) k. All (λ (e : Entry). e.key < k) l) (sym c.as_slice-3.ensures.value) (sym count) all

pub returns-clause-order : goal.returns-clause-order
returns-clause-order c =
    let r : In_ok-reads = (goal.at.returns-clause-order c).In_ok-reads in
    let n = netlist_of c.args.net.now in
    let count : c.len-count.result ≡ length (port_names n) = c.len-count.ensures.len ∙ ap length c.requires.table.names in
    let groups = subst₂ (λ l k. IsGathered l k c.in_ok-sets.sets) c.as_slice-3.ensures.value count c.in_ok-sets.ensures in
    record {
      ports = order_is n r.in_ok-entries.entries.items r.in_ok-reads.reads (names_distinct r) r.in_ok-entries.ensures (gathered r) c.in_ok-ports.ports.items c.in_ok-ports.ensures.order;
      sets = sets_of_port n c.in_ok-destinations.destinations.items c.in_ok-sets.sets (names_distinct r) c.in_ok-destinations.ensures groups;
      all = groups.all ∙ length-map (ports_of n) (λ (p : PortLine). p.name);
    }
