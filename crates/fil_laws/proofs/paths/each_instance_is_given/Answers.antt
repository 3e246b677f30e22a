use Rattle.fil_laws.proofs.GivenLemmas.{each_instance_is_given}
use Rattle.fil_laws.proofs.paths.each_instance_is_given.Goals as goal

pub returns : goal.returns
returns c = each_instance_is_given
