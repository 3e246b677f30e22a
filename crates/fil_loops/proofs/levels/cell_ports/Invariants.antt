use Rattle.std.proofs.Common.{◌<◌, length}
use Rattle.std.specs.Prelude.{All}
use Rattle.fil_loops.proofs.PartLemmas.{HasPortsBelow}
use Rattle.fil_loops.proofs.levels.cell_ports.Given as goal

-- the ports of instances among the nodes so far
abbrev pub invariant-loop-node : goal.invariant-loop-node
invariant-loop-node l = record {
  all : HasPortsBelow l.ports l.parts l.levels l.node l.cells.items;
  within : All (λ port. port.node < length l.ports.names) l.cells.items;
}
