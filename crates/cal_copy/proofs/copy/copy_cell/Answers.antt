use Rattle.std.proofs.Common.{◌∙◌}
use Rattle.cal_copy.proofs.CopyLemmas.{cell_copied}
use Rattle.cal_copy.proofs.copy.copy_cell.Goals as goal

pub returns : goal.returns
returns c = cell_copied c.args.cell.now c.in_ok-params.params (c.in_ok-params.ensures.items ∙ c.deref.ensures.value)
