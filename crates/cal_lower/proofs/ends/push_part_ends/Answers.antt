use Rattle.std.proofs.Common.{sym, ◌∙◌}
use Rattle.cal_lower.specs.inside.Parts.{part_ends}
use Rattle.cal_lower.proofs.EndLemmas.{lasting_has_one}
use Rattle.cal_lower.proofs.GatherLemmas.{guard_more}
use Rattle.cal_lower.proofs.SizeLemmas.{plan}
use Rattle.cal_lower.proofs.ends.push_part_ends.Goals as goal

pub returns-in_ok-push-clause-pushed : goal.returns-in_ok-push-clause-pushed
returns-in_ok-push-clause-pushed c = λ source item trees are.
    let old = c.args.labels.now.names in
    let new = c.part_ends.new.labels.names in
    let part = c.args.part.now in
    let more = c.push.new.self.items in
    let lasts = sym (c.is_over.ensures source item) ∙ c.if-not-is_over.true in
    lasting_has_one new trees more (plan source item part.control.now) (part_ends part.number) lasts
    (guard_more old new c.part_ends.ensures.kept.names trees c.args.guards.now.items more (part_ends part.number) c.in_ok-part_ends.field-0 c.in_ok-push.ensures.items c.in_ok-part_ends.ensures.guard are)
