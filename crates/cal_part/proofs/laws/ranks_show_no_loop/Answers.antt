use Rattle.cal_part.proofs.WireRuleLemmas.{ranks_show_no_loop}
use Rattle.cal_part.proofs.laws.ranks_show_no_loop.Goals as goal

pub returns : goal.returns
returns c = ranks_show_no_loop
