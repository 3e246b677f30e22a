use Rattle.std.proofs.Common.{◌≡◌, Some, slice_get, take}
use Rattle.std.specs.Prelude.{All}
use Rattle.hw_names.specs.Name.{Text}
use Rattle.fil_loops.specs.inside.PortGraph.{Adds, NoPair}
use Rattle.fil_loops.proofs.CellLemmas.{IsNumbered}
use Rattle.fil_loops.proofs.cells.number_all.Given as goal

-- the ports so far have numbers
abbrev pub invariant-loop-number : goal.invariant-loop-number
invariant-loop-number l = record {
  adds : Adds NoPair l.fn.graph l.graph;
  numbered : (inst : Text) → slice_get l.fn.graph.ports.instances l.instance ≡ Some inst → All (IsNumbered inst l.graph.ports.names) (take l.number l.names);
}
