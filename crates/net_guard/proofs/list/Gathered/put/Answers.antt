use Rattle.std.proofs.Common.{◌≡◌, false, subst}
use Rattle.net_guard.proofs.GatherLemmas.{list_skip}
use Rattle.net_guard.specs.inside.Folding.{FoldsTo, decides}
use Rattle.net_guard.specs.declared.fold.Folded.{Folded}
use Rattle.net_guard.proofs.list.Gathered.put.Goals as goal

pub returns-in-Known : goal.returns-in-Known
returns-in-Known c = λ names olds old so_far fold idle.
    let F : Folded → Type 0 = FoldsTo names old in
    let D : Folded → Type 0 = λ found. decides c.args.joint found ≡ false in
    list_skip names c.args.joint olds old c.args.self c.in-Known.field-0 so_far (subst F c.in-Known.is fold) (subst D c.in-Known.is idle)

pub returns-in-Sometimes : goal.returns-in-Sometimes
returns-in-Sometimes c = λ names olds old so_far fold idle.
    let F : Folded → Type 0 = FoldsTo names old in
    c.add.ensures names olds old so_far (subst F c.in-Sometimes.is fold)
