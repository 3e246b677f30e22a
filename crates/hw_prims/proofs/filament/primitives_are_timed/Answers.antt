use Rattle.hw_prims.proofs.FilamentLemmas.{timed}
use Rattle.hw_prims.proofs.filament.primitives_are_timed.Goals as goal

pub returns : goal.returns
returns c = timed
