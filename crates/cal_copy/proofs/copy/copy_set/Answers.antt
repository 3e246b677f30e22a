use Rattle.cal_copy.proofs.CopyLemmas.{set_copied}
use Rattle.cal_copy.proofs.copy.copy_set.Goals as goal

pub returns : goal.returns
returns c = set_copied c.args.set.now c.in_ok-guard.guard c.in_ok-guard.ensures
