use Rattle.std.proofs.Common.{◌≡◌, ◌++◌, take}
use Rattle.std.specs.Prelude.{All}
use Rattle.hw_names.specs.Name.{HasNoDot}
use Rattle.fil_loops.specs.inside.Reached.{port_names}
use Rattle.fil_loops.proofs.levels.add_names.Given as goal

-- the names so far stand last, and none of them has a dot
abbrev pub invariant-loop-port : goal.invariant-loop-port
invariant-loop-port l = record {
  added : l.own ≡ l.fn.own ++ take l.port-index (port_names l.names l.ports);
  dotless : All HasNoDot l.fn.own → All HasNoDot l.own;
}
