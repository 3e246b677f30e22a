use Rattle.std.proofs.Common.{◌≡◌, take, None}
use Rattle.std.specs.Prelude.{find, flat_map}
use Rattle.fil_parse.specs.inside.Offsets.{of_port}
use Rattle.fil_parse.specs.Spelling.{is_large}
use Rattle.fil_parse.proofs.offsets.large_port.Given as goal

abbrev pub invariant-loop-port : goal.invariant-loop-port
invariant-loop-port l = find is_large (flat_map of_port (take l.port-index l.ports)) ≡ None
