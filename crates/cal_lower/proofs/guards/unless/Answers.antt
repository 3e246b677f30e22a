use Rattle.cal_lower.specs.inside.Pieces.{reads}
use Rattle.net_core.specs.Guard.{Negates}
use Rattle.cal_lower.proofs.guards.unless.Goals as goal

pub returns : goal.returns
returns c = λ names tree bit shown at. c.both.ensures names tree (Negates (reads bit)) shown (c.in_ok-not.ensures names (reads bit) (c.in_ok-reads.ensures names bit at))
