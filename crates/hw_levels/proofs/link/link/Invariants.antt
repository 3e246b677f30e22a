use Rattle.std.proofs.Common.{ℕ, ◌+◌, ◌≤◌, List}
use Rattle.hw_graph.specs.declared.groups.Entry.{Entry}
use Rattle.hw_levels.specs.inside.Link.{AreBelow, AreKept}
use Rattle.hw_levels.proofs.link.link.Given as goal

-- so many ports were taken, each of which adds one node at most
pub record IsLinked (count taken all : ℕ) (old new : List Entry) : Type 0 where
  pub from : count ≤ all
  pub to : all ≤ count + taken
  pub in_range : AreBelow all new
  pub kept : AreKept old new

abbrev pub invariant-loop-port : goal.invariant-loop-port
invariant-loop-port l = IsLinked l.count l.port-index l.chains.count l.fn.entries.items l.entries.items
