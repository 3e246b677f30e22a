use Rattle.std.proofs.Common.{ℕ, ◌<◌, ◌≤◌, get_or}
use Rattle.hw_graph.specs.Graph.{HasRead}
use Rattle.hw_graph.proofs.components.never_rises.Given as goal

abbrev pub invariant-loop-port : goal.invariant-loop-port
invariant-loop-port l = (port other : ℕ) → port < l.port → HasRead l.reads port other → get_or l.numbers other 0 ≤ get_or l.numbers port 0
