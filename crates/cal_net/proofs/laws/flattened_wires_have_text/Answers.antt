use Rattle.cal_net.proofs.TextLemmas.{flattened_have_text}
use Rattle.cal_net.proofs.laws.flattened_wires_have_text.Goals as goal

pub returns : goal.returns
returns c = flattened_have_text
