use Rattle.std.proofs.Common.{Option, List, ℕ, refl, subst, arith}
use Rattle.std.specs.Prelude.{IfSome}
use Rattle.hw_cells.specs.inside.Ports.{IsOfPorts}
use Rattle.hw_cells.proofs.PortLemmas.{leads_alike}
use Rattle.hw_cells.proofs.ports_alone.condense_graph.Goals as goal

pub returns : goal.returns
returns c =
    let old = c.args.part in
    let kept = subst (λ (found : Option (List (List ℕ))). IfSome found (IsOfPorts old)) c.in-Some.is c.in_ok-reads.ensures in
    let numbers = c.in_ok-nodes.ensures in
    leads_alike old _ refl kept (omega (arith, numbers.all, c.len.ensures, old.nodes.ok.0)) (λ n lt. numbers.each n (omega (arith, lt, c.len.ensures, old.nodes.ok.0)))
