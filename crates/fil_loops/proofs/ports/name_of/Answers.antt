use Rattle.std.proofs.Common.{sym, ap}
use Rattle.fil_loops.specs.inside.Ports.{full_of}
use Rattle.fil_loops.proofs.ports.name_of.Goals as goal

pub returns-in-Own : goal.returns-in-Own
returns-in-Own c = sym (ap full_of c.in-Own.is)

pub returns-in-OfInstance : goal.returns-in-OfInstance
returns-in-OfInstance c = sym (ap full_of c.in-OfInstance.is)
