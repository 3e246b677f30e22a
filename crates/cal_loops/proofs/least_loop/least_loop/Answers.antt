use Rattle.std.proofs.Common.{◌<◌, ℕ, List, Vec, Global, Option, length, sym, subst, arith}
use Rattle.std.specs.Prelude.{IfNone, IfSome}
use Rattle.hw_graph.specs.Graph.{IsLeastCycleAmong, IsOffCycles}
use Rattle.cal_place.specs.Around.{comp_at, design_at}
use Rattle.cal_loops.proofs.NumberLemmas.{no_loop, no_loop_off, node_is, node_of, told_loop}
use Rattle.cal_loops.proofs.least_loop.least_loop.Goals as goal

pub has_order-requires : goal.has_order-requires
has_order-requires c = c.requires.graph.in_range

pub returns-then-branch : goal.returns-then-branch
returns-then-branch c =
    let p = c.args.place.now in
    let order = c.in_ok-has_order.ensures c.if-branch.true in
    no_loop (design_at p) (comp_at p) c.args.ports.now.keys c.args.reads.now c.requires.graph order.0 order.1

pub least_loop_among-requires-clause-names : goal.least_loop_among-requires-clause-names
least_loop_among-requires-clause-names c = omega (arith, c.requires.graph.all, c.in_ok-names.ensures.sized)

pub returns-in-Some : goal.returns-in-Some
returns-in-Some c =
    let p = c.args.place.now in
    let keys = c.args.ports.now.keys in
    let reads = c.args.reads.now in
    let is = c.requires.graph in
    let names = c.in_ok-names.names in
    let listed = c.deref.result.now in
    let least = subst (λ (o : Option (Vec ℕ Global)). IfSome o (λ ports. IsLeastCycleAmong reads names ports.items)) c.in-Some.is c.in_ok-nodes.ensures.some in
    let words = c.in_ok-full_names-in-Some.ensures (node_of keys is.nodes) (λ number lt. (node_is keys is.nodes number lt).at) in
    told_loop (design_at p) (comp_at p) keys reads is c.requires.distinct names c.in_ok-names.ensures c.in_ok-full_names-in-Some.field-0.items listed words
    (subst (λ (l : List ℕ). IsLeastCycleAmong reads names l) (sym c.deref.ensures.value) least)

pub returns : goal.returns
returns c =
    let p = c.args.place.now in
    let keys = c.args.ports.now.keys in
    let reads = c.args.reads.now in
    let names = c.in_ok-names.names in
    let none = subst (λ (o : Option (Vec ℕ Global)). IfNone o ((port : ℕ) → port < length names → IsOffCycles reads port)) c.in-None.is c.in_ok-nodes.ensures.none in
    no_loop_off (design_at p) (comp_at p) keys reads c.requires.graph (λ i lt. none i (omega (arith, lt, c.in_ok-names.ensures.sized)))
