use Rattle.cal_walk.proofs.MarkLemmas.{one_mark}
use Rattle.cal_walk.proofs.marks.mark_enabled.Goals as goal

pub returns-clause-enabled : goal.returns-clause-enabled
returns-clause-enabled c = λ f apart. one_mark f c.args.marks.now.enabled.items c.args.actor c.requires apart
