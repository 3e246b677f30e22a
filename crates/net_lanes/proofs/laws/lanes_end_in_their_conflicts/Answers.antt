use Rattle.net_lanes.proofs.LaneLemmas.{lanes_end_in_their_conflicts}
use Rattle.net_lanes.proofs.laws.lanes_end_in_their_conflicts.Goals as goal

pub returns : goal.returns
returns c = lanes_end_in_their_conflicts
