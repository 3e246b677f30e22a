use Rattle.ver_lang.proofs.TakeLemmas.{cells_take}
use Rattle.ver_lang.proofs.laws.cells_take_next.Goals as goal

pub returns : goal.returns
returns c = cells_take
