use Rattle.cal_walk.proofs.StageLemmas as lemmas
use Rattle.cal_walk.proofs.laws.walking_is_the_schedule.Goals as goal

pub returns : goal.returns
returns c = lemmas.walking_is_the_schedule
