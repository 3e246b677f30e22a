use Rattle.filc_laws.proofs.FilPlaceLemmas.{refused_fil_spells_none}
use Rattle.filc_laws.proofs.laws.refused_fil_spells_none.Goals as goal

pub returns : goal.returns
returns c = refused_fil_spells_none
