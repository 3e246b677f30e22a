use Rattle.std.proofs.Common.{refl}
use Rattle.fil_loops.proofs.WiringLemmas.{still_inside}
use Rattle.fil_loops.proofs.inside.condensed.Goals as goal

pub returns : goal.returns
returns c earlier comp known = still_inside earlier comp c.args.inside _ known refl c.in_ok-graph.ensures
