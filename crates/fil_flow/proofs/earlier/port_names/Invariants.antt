use Rattle.std.proofs.Common.{◌≡◌, map, take}
use Rattle.hw_names.specs.Name.{AreDistinct}
use Rattle.fil_ast.specs.Tree.{port_tree}
use Rattle.fil_flow.specs.inside.Body.{data_names}
use Rattle.fil_flow.proofs.earlier.port_names.Given as goal

abbrev pub invariant-loop-port : goal.invariant-loop-port
invariant-loop-port l =
    AreDistinct (data_names (map (port_tree l.names) l.ports)) → l.found ≡ data_names (map (port_tree l.names) (take l.port-index l.ports))
