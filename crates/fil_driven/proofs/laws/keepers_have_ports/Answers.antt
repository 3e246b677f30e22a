use Rattle.fil_driven.proofs.PortLemmas.{keepers_have_ports}
use Rattle.fil_driven.proofs.laws.keepers_have_ports.Goals as goal

pub returns : goal.returns
returns c = keepers_have_ports
