use Rattle.std.proofs.Common.{sym, ◌∙◌}
use Rattle.cal_lower.proofs.EndLemmas.{has_ended, lasting_has_one}
use Rattle.cal_lower.proofs.GatherLemmas.{guard_more}
use Rattle.cal_lower.proofs.SizeLemmas.{plan}
use Rattle.cal_lower.proofs.ends.push_has_ended.Goals as goal

pub returns-in_ok-push-clause-pushed : goal.returns-in_ok-push-clause-pushed
returns-in_ok-push-clause-pushed c = λ source item trees are.
    let old = c.args.labels.now.names in
    let new = c.ended.new.labels.names in
    let part = c.args.part.now in
    let more = c.push.new.self.items in
    let lasts = sym (c.is_over.ensures source item) ∙ c.if-not-is_over.true in
    lasting_has_one new trees more (plan source item part.control.now) (has_ended part.number) lasts
    (guard_more old new c.ended.ensures.kept.names trees c.args.guards.now.items more (has_ended part.number) c.in_ok-ended.field-0 c.in_ok-push.ensures.items c.in_ok-ended.ensures.guard are)
