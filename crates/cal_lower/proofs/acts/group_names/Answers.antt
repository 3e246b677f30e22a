use Rattle.std.proofs.Common.{All, Contains, List, sym, subst}
use Rattle.std.proofs.lemmas.List.{take_all}
use Rattle.hw_names.proofs.NameLemmas.{Contains-slice_get, text_of-slice_get}
use Rattle.hw_names.specs.Name.{Text, text_of}
use Rattle.cal_ast.specs.declared.tree.Group.{Group as GroupOf}
use Rattle.cal_lower.proofs.GroupNameLemmas.{known_next}
use Rattle.cal_lower.proofs.NextLemmas.{at_index}
use Rattle.cal_lower.proofs.acts.group_names.Goals as goal

pub loop-group-preserved : goal.loop-group-preserved
loop-group-preserved c =
    let names = c.args.names.now in
    let groups = c.args.groups.now in
    let i = c.loop-group.group-index in
    let group = c.group-item.result in
    let new = c.add_name.new.names in
    let C : Text → Type 0 = Contains new in
    let here = subst C (sym (text_of-slice_get names group.name c.text.result.now c.text.ensures)) (Contains-slice_get new _ c.text.result.now c.in_ok-_number.ensures.text) in
    known_next names c.loop-group.known new groups i group (at_index groups i group c.loop-group-test.true c.group-item.is) c.add_name.ensures.kept here c.loop-group.invariant

pub returns : goal.returns
returns c =
    let names = c.args.names.now in
    let groups = c.args.groups.now in
    let A : List GroupOf → Type 0 = All (λ (group : GroupOf). Contains c.loop-group.known (text_of names group.name)) in
    subst A (take_all c.loop-group.group-index groups c.loop-group-test.false) c.loop-group.invariant
