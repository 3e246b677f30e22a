use Rattle.net_sim.proofs.LoadLemmas.{loads_one_word}
use Rattle.net_sim.proofs.laws.loads_one_word.Goals as goal

pub returns : goal.returns
returns c = loads_one_word
