use Rattle.net_text.proofs.OneNetlist.{one_netlist}
use Rattle.net_text.proofs.read.one_netlist.Goals as goal

pub returns : goal.returns
returns c = one_netlist
