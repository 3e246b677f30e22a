use Rattle.net_guard.proofs.TextLemmas.{keeps_text}
use Rattle.net_guard.proofs.laws.simplified_keeps_text.Goals as goal

pub returns : goal.returns
returns c = keeps_text
