use Rattle.std.proofs.Common.{◌≡◌, subst}
use Rattle.net_guard.proofs.GatherLemmas.{first_put, guard_put}
use Rattle.net_guard.specs.inside.Folding.{IsListFoldOf}
use Rattle.net_guard.specs.declared.list.Gathered.{Gathered}
use Rattle.net_guard.specs.declared.list.Gathered.TheVariants.{Empty}
use Rattle.net_guard.proofs.list.Gathered.add_one.Goals as goal

pub returns-in-Empty : goal.returns-in-Empty
returns-in-Empty c = λ names joint olds old so_far fold none_such.
    let L : Gathered → Type 0 = IsListFoldOf names joint olds in
    first_put names joint olds old c.args.guard (subst L c.in-Empty.is so_far) fold none_such

pub returns : goal.returns
returns c = λ names joint olds old so_far fold none_such.
    let some : c.args.self ≡ Empty → ⊥ = λ is. c.in_default.not-Empty is in
    guard_put names joint olds old c.args.self c.args.guard c.in_ok-guards.guards c.push_back.new.self c.in_ok-guard.field-0 so_far some (c.in_ok-guards.ensures names so_far.numbers)
    fold none_such (c.in_ok-guard.ensures names fold.numbers) c.in_ok-push_back.ensures.items
