use Rattle.std.proofs.Common.{sym, subst, ◌∙◌}
use Rattle.net_guard.proofs.GatherLemmas.{list_folded, one_folded}
use Rattle.net_guard.proofs.ListLemmas.{none_left}
use Rattle.net_guard.specs.inside.Folding.{IsListFoldOf}
use Rattle.net_guard.specs.declared.list.Gathered.{Gathered}
use Rattle.net_guard.proofs.list.Gathered.folded.Goals as goal

pub returns-in-Empty : goal.returns-in-Empty
returns-in-Empty c = λ names olds is look.
    let L : Gathered → Type 0 = IsListFoldOf names c.args.joint olds in
    none_left c.args.joint olds (subst L c.in-Empty.is is).folds look ∙ sym c.neutral.ensures

pub returns-in-One : goal.returns-in-One
returns-in-One c = λ names olds is.
    let L : Gathered → Type 0 = IsListFoldOf names c.args.joint olds in
    one_folded names c.args.joint olds c.in-One.only (subst L c.in-One.is is)

pub returns-in-Many : goal.returns-in-Many
returns-in-Many c = λ names olds is.
    let L : Gathered → Type 0 = IsListFoldOf names c.args.joint olds in
    list_folded names c.args.joint olds c.in-Many.guards (subst L c.in-Many.is is)
