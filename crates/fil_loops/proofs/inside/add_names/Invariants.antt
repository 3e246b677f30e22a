use Rattle.std.proofs.Common.{◌≡◌, ◌++◌, take}
use Rattle.hw_names.specs.Name.{AreDistinct}
use Rattle.fil_loops.specs.inside.Reached.{port_names}
use Rattle.fil_loops.proofs.inside.add_names.Given as goal

-- the names so far stand last
abbrev pub invariant-loop-port : goal.invariant-loop-port
invariant-loop-port l = AreDistinct (l.fn.own ++ port_names l.names l.ports) → l.own ≡ l.fn.own ++ take l.port-index (port_names l.names l.ports)
