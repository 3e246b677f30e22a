use Rattle.net_lanes.proofs.LaneLemmas.{lanes_go_on}
use Rattle.net_lanes.proofs.laws.lanes_go_on.Goals as goal

pub returns : goal.returns
returns c = lanes_go_on
