use Rattle.std.proofs.Common.{◌≡◌, ℕ, List, Bool, false, ◌<◌, get_or, length, subst}
use Rattle.hw_graph.proofs.CycleLemmas.{all_off, least_is}
use Rattle.hw_graph.specs.ByName.{IsLeastMarked}
use Rattle.hw_graph.proofs.least_loop.least_loop_among.Goals as goal

pub returns-in-Some-2-clause-some : goal.returns-in-Some-2-clause-some
returns-in-Some-2-clause-some c =
    let least = subst (λ marks. IsLeastMarked c.args.names.now marks c.in-Some.port) c.as_slice-in-loop-port.ensures.value c.in-Some.ensures.some in
    least_is c.args.reads.now c.args.names.now c.loop-port.marks.items c.in-Some.port c.in-Some-2.ports.items c.loop-port.invariant least (rw c.in-Some-2.is at c.in_ok-ports.ensures.some)

pub returns-clause-none : goal.returns-clause-none
returns-clause-none c =
    all_off c.args.reads.now (length c.args.names.now) c.loop-port.marks.items c.loop-port.invariant
    (subst (λ (marks : List Bool). (port : ℕ) → port < length marks → get_or marks port false ≡ false) c.as_slice-in-loop-port.ensures.value c.in_default.ensures.none)
