use Rattle.filc_laws.proofs.SourceLemmas.{refused_source_is_not_accepted}
use Rattle.filc_laws.proofs.laws.refused_source_is_not_accepted.Goals as goal

pub returns : goal.returns
returns c = refused_source_is_not_accepted
