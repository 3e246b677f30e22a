use Rattle.cal_copy.proofs.CopyLemmas.{done_copied}
use Rattle.cal_copy.proofs.copy.copy_done.Goals as goal

pub returns : goal.returns
returns c = done_copied c.args.done.now c.in_ok-guard.guard c.in_ok-guard.ensures
