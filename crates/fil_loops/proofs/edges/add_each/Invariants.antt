use Rattle.std.proofs.Common.{◌≡◌, Some, map, slice_get}
use Rattle.hw_names.specs.Name.{Text, dotted}
use Rattle.fil_sig.specs.Seen.{seen_port}
use Rattle.fil_loops.specs.inside.PortGraph.{Adds, Below}
use Rattle.fil_loops.specs.inside.Readings.{ReadsEach}
use Rattle.fil_loops.proofs.edges.add_each.Given as goal

-- the graph has the inputs so far, and the output keeps its number
abbrev pub invariant-loop-input : goal.invariant-loop-input
invariant-loop-input l = (inst : Text) → slice_get l.fn.graph.ports.instances l.instance ≡ Some inst
    → (slice_get l.graph.ports.names l.port ≡ Some (dotted inst l.output)) × Adds (Below (ReadsEach inst l.output (map seen_port l.ins)) l.input-index) l.fn.graph l.graph
