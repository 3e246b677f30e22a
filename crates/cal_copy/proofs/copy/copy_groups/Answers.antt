use Rattle.std.proofs.lemmas.List.Elements.{all_zip_more}
use Rattle.cal_copy.specs.inside.Copies.{IsGroupCopy}
use Rattle.cal_copy.proofs.copy.copy_groups.Goals as goal

pub loop-group-preserved : goal.loop-group-preserved
loop-group-preserved c =
    rw c.in_ok-push.ensures.items
    (all_zip_more IsGroupCopy c.args.groups.now c.loop-group.copies.items c.loop-group.group-index c.group-item.result c.in_ok-copy_group.field-0
    c.loop-group-test.true c.group-item.is c.loop-group.invariant c.in_ok-copy_group.ensures)
