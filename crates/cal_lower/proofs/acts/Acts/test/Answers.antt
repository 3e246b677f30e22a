use Rattle.std.proofs.Common.{◌≡◌, true, false, Contains, refl}
use Rattle.std.proofs.lemmas.Result.{on_ok_weaker}
use Rattle.cal_lower.specs.declared.acts.Acts.{Acts}
use Rattle.cal_lower.proofs.WantedLemmas.{not_tested, tested_shown}
use Rattle.cal_lower.proofs.acts.Acts.test.Goals as goal

pub returns-in_default-clause-wanted : goal.returns-in_default-clause-wanted
returns-in_default-clause-wanted c = λ names enabled tested tree shows shown.
    let acts = c.args.self.now in
    let absent : ¬ Contains acts.groups c.args.group.now = λ has. let bad : false ≡ true = c.in_default.ensures.present.1 has in cc in
    not_tested names enabled tested acts c.args.group.now tree absent shows

pub returns-clause-wanted : goal.returns-clause-wanted
returns-clause-wanted c = λ names enabled tested tree shows shown.
    let old = c.args.self.now in
    let new : Acts = record { groups = old.groups; wanted = c.push_tested.new.wanted } in
    let found = c.in-Some.ensures {u = tt} in
    on_ok_weaker c.push_tested.result (λ puts. tested_shown names old new refl found.distinct c.args.group.now c.in-Some.number.0 found.text tree c.args.guard shown enabled tested puts shows) c.push_tested.ensures
