use Rattle.std.proofs.Common.{List, subst}
use Rattle.std.specs.List.{AllZip}
use Rattle.cal_ast.specs.declared.tree.Assign.{Assign}
use Rattle.cal_ast.specs.declared.tree.DoneSet.{DoneSet}
use Rattle.cal_copy.specs.inside.Copies.{IsSetCopy, IsDoneCopy}
use Rattle.cal_copy.proofs.CopyLemmas.{group_copied}
use Rattle.cal_copy.proofs.copy.copy_group.Goals as goal

pub returns : goal.returns
returns c =
    let Sets : List Assign → Type 0 = λ xs. AllZip IsSetCopy xs c.in_ok-sets.sets.items in
    let Dones : List DoneSet → Type 0 = λ xs. AllZip IsDoneCopy xs c.in_ok-dones.dones.items in
    group_copied c.args.group.now c.in_ok-sets.sets c.in_ok-dones.dones (subst Sets c.deref.ensures.value c.in_ok-sets.ensures) (subst Dones c.deref-2.ensures.value c.in_ok-dones.ensures)
