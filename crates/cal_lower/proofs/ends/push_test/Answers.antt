use Rattle.std.proofs.Common.{Option, OnOk, ◌++◌, sym, subst}
use Rattle.std.proofs.lemmas.Result.{on_ok_weaker}
use Rattle.hw_names.proofs.NameLemmas.{text_of-slice_get}
use Rattle.hw_names.specs.Name.{Text, text_of}
use Rattle.hw_names.specs.declared.names.NameId.{NameId}
use Rattle.cal_lower.specs.inside.Making.{by_group, tests_group}
use Rattle.cal_lower.specs.inside.Shown.{ShowsActs, more_of}
use Rattle.cal_lower.proofs.GatherLemmas.{no_test, one_test}
use Rattle.cal_lower.proofs.ends.push_test.Goals as goal

pub returns-in-None-clause-tested : goal.returns-in-None-clause-tested
returns-in-None-clause-tested c = λ enabled so_far tree are guard.
    let names = c.args.labels.now.names in
    let B : Option NameId → Type 0 = λ by. ShowsActs names enabled (λ group. so_far group ++ tests_group (by_group names by) tree group) c.args.acts.now in
    subst B (sym c.in-None.is) (no_test names enabled so_far tree c.args.acts.now are)

pub returns-in-Some-clause-tested : goal.returns-in-Some-clause-tested
returns-in-Some-clause-tested c = λ enabled so_far tree are guard.
    let names = c.args.labels.now.names in
    let id = c.in-Some.group in
    let new = c.test.new.self in
    let B : Option NameId → Type 0 = λ by. OnOk c.test.result (ShowsActs names enabled (λ group. so_far group ++ tests_group (by_group names by) tree group) new) in
    let W : Text → Type 0 = λ t. ShowsActs names enabled (more_of so_far t tree) new in
    let text = text_of-slice_get names id c.text.result.now c.text.ensures in
    let more = λ (m : ShowsActs names enabled (more_of so_far c.text.result.now tree) new). one_test names enabled so_far tree (text_of names id) new (subst W (sym text) m) in
    subst B (sym c.in-Some.is) (on_ok_weaker c.test.result more (c.test.ensures.wanted names enabled so_far tree are guard))
