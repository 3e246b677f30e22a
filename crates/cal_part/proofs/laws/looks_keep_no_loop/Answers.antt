use Rattle.cal_part.proofs.SameLooksLemmas.{looks_keep_no_loop}
use Rattle.cal_part.proofs.laws.looks_keep_no_loop.Goals as goal

pub returns : goal.returns
returns c = looks_keep_no_loop
