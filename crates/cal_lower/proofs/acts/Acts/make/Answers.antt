use Rattle.std.proofs.Common.{◌∙◌}
use Rattle.cal_lower.specs.declared.acts.Acts.{Acts}
use Rattle.cal_lower.proofs.WantedLemmas.{never_shown}
use Rattle.cal_lower.proofs.acts.Acts.make.Goals as goal

pub returns-clause-nothing : goal.returns-clause-nothing
returns-clause-nothing c = λ later.
    let acts : Acts = record { groups = c.in_ok-groups.groups; wanted = c.in_ok-wanted.wanted } in
    never_shown later acts (c.in_ok-wanted.ensures.count ∙ c.len.ensures.len) (c.in_ok-wanted.ensures.nothing later)
