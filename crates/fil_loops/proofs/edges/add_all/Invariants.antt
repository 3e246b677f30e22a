use Rattle.std.proofs.Common.{◌≡◌, Some, slice_get}
use Rattle.hw_names.specs.Name.{Text}
use Rattle.fil_sig.specs.Seen.{seen}
use Rattle.fil_loops.specs.inside.PortGraph.{Adds, Below}
use Rattle.fil_loops.specs.inside.Readings.{ReadsAll}
use Rattle.fil_loops.proofs.edges.add_all.Given as goal

-- the graph has the outputs so far
abbrev pub invariant-loop-output : goal.invariant-loop-output
invariant-loop-output l = (inst : Text) → slice_get l.fn.graph.ports.instances l.instance ≡ Some inst → Adds (Below (ReadsAll inst (seen l.sig)) l.output-index) l.fn.graph l.graph
