use Rattle.fil_loops.specs.inside.PortGraph.{Adds, NoPair}
use Rattle.fil_loops.proofs.CellLemmas.{NumbersBelow}
use Rattle.fil_loops.proofs.cells.number_dotted.Given as goal

-- the ports of the instances so far have numbers
abbrev pub invariant-loop-instance : goal.invariant-loop-instance
invariant-loop-instance l = record {
  adds : Adds NoPair l.fn.graph l.graph;
  numbered : NumbersBelow l.parts l.insides l.instance l.graph.ports;
}
