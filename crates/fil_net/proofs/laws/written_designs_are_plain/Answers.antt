use Rattle.fil_net.proofs.PlainLemmas.{written_plain}
use Rattle.fil_net.proofs.laws.written_designs_are_plain.Goals as goal

pub returns : goal.returns
returns c = written_plain
