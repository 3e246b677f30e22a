use Rattle.std.proofs.Common.{◌<◌, ℕ, List, Vec, Global, Option, length, sym, subst, arith}
use Rattle.std.specs.Prelude.{IfNone, IfSome}
use Rattle.hw_graph.specs.Graph.{IsLeastCycleAmong, IsOffCycles}
use Rattle.fil_loops.proofs.WiringLemmas.{no_loop, no_loop_off, told_loop}
use Rattle.fil_loops.proofs.wires.least_loop.Goals as goal

pub least_loop_among-requires-clause-names : goal.least_loop_among-requires-clause-names
least_loop_among-requires-clause-names c = omega (arith, c.requires.all, c.in_ok-names.ensures.sized)

pub returns-then-branch : goal.returns-then-branch
returns-then-branch c comps comp is =
    let order = c.in_ok-has_order.ensures c.if-branch.true in
    no_loop comps comp c.args.ports.now.names c.args.reads.now is order.0 order.1

pub returns-in-Some : goal.returns-in-Some
returns-in-Some c comps comp is =
    let own = c.args.ports.now.names in
    let reads = c.args.reads.now in
    let names = c.in_ok-names.names in
    let listed = c.deref.result.now in
    let words = c.in_ok-full_names-in-Some.field-0.items in
    let some = subst (λ (o : Option (Vec ℕ Global)). IfSome o (λ ports. IsLeastCycleAmong reads names ports.items)) c.in-Some.is c.in_ok-nodes.ensures.some in
    let least = subst (λ (l : List ℕ). IsLeastCycleAmong reads names l) (sym c.deref.ensures.value) some in
    told_loop comps comp own reads is c.requires.distinct names c.in_ok-names.ensures words listed c.in_ok-full_names-in-Some.ensures least

pub returns : goal.returns
returns c comps comp is =
    let own = c.args.ports.now.names in
    let reads = c.args.reads.now in
    let names = c.in_ok-names.names in
    let none = subst (λ (o : Option (Vec ℕ Global)). IfNone o ((port : ℕ) → port < length names → IsOffCycles reads port)) c.in-None.is c.in_ok-nodes.ensures.none in
    no_loop_off comps comp own reads is (λ i lt. none i (omega (arith, lt, c.in_ok-names.ensures.sized)))
