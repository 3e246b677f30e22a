use Rattle.std.proofs.Common.{ap, ◌∙◌, arith}
use Rattle.std.proofs.lemmas.Result.{IfOk-weaker}
use Rattle.cal_group.proofs.CountLemmas.{first_item, group_count}
use Rattle.cal_group.proofs.expand.first_statement.Goals as goal

pub returns : goal.returns
returns c = λ names.
    let comp = c.args.comp.now in
    let groups = c.in_ok-groups.groups in
    let of_groups = c.in_ok-groups.ensures names ∙ ap (group_count names) c.deref.ensures.value in
    IfOk-weaker c.item_number.result _ _
    (λ item is. first_item names comp groups item of_groups (omega (arith, is, c.len.ensures, c.len-2.ensures, comp.cells.ok.0, comp.sets.ok.0)))
    c.item_number.ensures
