use Rattle.std.proofs.Common.{refl, sym}
use Rattle.filc_load.specs.StimulusFile.{BreaksRule, IsTooLarge}
use Rattle.filc_load.proofs.stimulus.stop_of.Goals as goal

pub returns-in-Refused-clause-cause : goal.returns-in-Refused-clause-cause
returns-in-Refused-clause-cause c text within =
    BreaksRule c.in-Refused.rule c.in-Refused.entry c.in-Refused.first c.in-Refused.second c.in-Refused.delay within (sym c.in-Refused.is) refl refl

pub returns-in-Limit-clause-cause : goal.returns-in-Limit-clause-cause
returns-in-Limit-clause-cause c text within =
    IsTooLarge c.in-Limit.count c.in-Limit.limit c.in-Limit.cycles within (sym c.in-Limit.is) refl refl
