use Rattle.cal_rules.proofs.GroupLemmas.{not_told}
use Rattle.cal_rules.proofs.controlling.may_have_done.Goals as goal

pub returns : goal.returns
returns c names = not_told c.args.group.now.comb
