use Rattle.std.proofs.Common.{length}
use Rattle.hw_graph.specs.inside.Components.{AreBelow}
use Rattle.hw_graph.proofs.components.readers_of.Given as goal

abbrev pub invariant-loop-port : goal.invariant-loop-port
invariant-loop-port l = AreBelow (length l.reads) l.entries.items
