use Rattle.std.proofs.Common.{sym, subst}
use Rattle.net_guard.specs.inside.Folding.{IsFoldOf}
use Rattle.net_guard.specs.declared.tops.Open.{Open}
use Rattle.net_guard.proofs.list.Gathered.add.Goals as goal

pub returns-in-Ok : goal.returns-in-Ok
returns-in-Ok c = λ names olds old so_far fold.
    let F : Open → Type 0 = IsFoldOf names old in
    c.add_list.ensures names c.args.joint olds old so_far (subst F c.in-Ok.ensures fold)

pub returns-in-Err : goal.returns-in-Err
returns-in-Err c = λ names olds old so_far fold.
    let F : Open → Type 0 = IsFoldOf names old in
    c.add_one.ensures names c.args.joint olds old so_far (subst F (sym c.in-Err.ensures.0) fold) c.in-Err.ensures.1
