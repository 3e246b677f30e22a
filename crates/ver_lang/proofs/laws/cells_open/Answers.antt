use Rattle.ver_lang.proofs.OpenLemmas.{opens}
use Rattle.ver_lang.proofs.laws.cells_open.Goals as goal

pub returns : goal.returns
returns c = opens
