use Rattle.filc_laws.proofs.SourceLemmas.{source_is_refused_once}
use Rattle.filc_laws.proofs.laws.source_is_refused_once.Goals as goal

pub returns : goal.returns
returns c = source_is_refused_once
