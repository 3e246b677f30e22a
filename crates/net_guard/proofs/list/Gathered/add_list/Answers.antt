use Rattle.net_guard.proofs.GatherLemmas.{list_put}
use Rattle.net_guard.proofs.list.Gathered.add_list.Goals as goal

pub returns : goal.returns
returns c = λ names joint olds old so_far fold.
    list_put names joint olds old c.args.self c.in_ok-guards.guards c.args.more c.append.new.self so_far (c.in_ok-guards.ensures names so_far.numbers) fold c.in_ok-append.ensures.items
