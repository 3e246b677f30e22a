use Rattle.fil_net.proofs.TextLemmas.{flattened_have_text}
use Rattle.fil_net.proofs.laws.flattened_lowerings_have_text.Goals as goal

pub returns : goal.returns
returns c = flattened_have_text
