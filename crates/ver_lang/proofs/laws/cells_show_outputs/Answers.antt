use Rattle.ver_lang.proofs.CellLemmas.{cells_show}
use Rattle.ver_lang.proofs.laws.cells_show_outputs.Goals as goal

pub returns : goal.returns
returns c = cells_show
