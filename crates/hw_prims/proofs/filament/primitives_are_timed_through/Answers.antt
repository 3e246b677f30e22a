use Rattle.hw_prims.proofs.FilamentLemmas.{timed_through}
use Rattle.hw_prims.proofs.filament.primitives_are_timed_through.Goals as goal

pub returns : goal.returns
returns c = timed_through
