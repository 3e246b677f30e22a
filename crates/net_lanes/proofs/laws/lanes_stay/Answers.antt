use Rattle.net_lanes.proofs.LaneLemmas.{lanes_stay}
use Rattle.net_lanes.proofs.laws.lanes_stay.Goals as goal

pub returns : goal.returns
returns c = lanes_stay
