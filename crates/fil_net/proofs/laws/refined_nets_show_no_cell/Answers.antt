use Rattle.fil_net.proofs.ShownLemmas.{none_shown}
use Rattle.fil_net.proofs.laws.refined_nets_show_no_cell.Goals as goal

pub returns : goal.returns
returns c = none_shown
