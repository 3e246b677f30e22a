use Rattle.filc_laws.proofs.SourceLemmas.{net_is_given_once}
use Rattle.filc_laws.proofs.laws.net_is_given_once.Goals as goal

pub returns : goal.returns
returns c = net_is_given_once
