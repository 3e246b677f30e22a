use Rattle.fil_laws.proofs.FlowLemmas.{other_inputs_are_free}
use Rattle.fil_laws.proofs.events.other_inputs_are_free.Goals as goal

pub returns : goal.returns
returns c = other_inputs_are_free
