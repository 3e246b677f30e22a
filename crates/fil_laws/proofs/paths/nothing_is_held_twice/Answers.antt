use Rattle.fil_laws.proofs.PathLemmas.{nothing_is_held_twice}
use Rattle.fil_laws.proofs.paths.nothing_is_held_twice.Goals as goal

pub returns : goal.returns
returns c = nothing_is_held_twice
