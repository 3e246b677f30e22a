use Rattle.net_steps.proofs.TruthLemmas.{choice_made, common_chosen}
use Rattle.net_steps.proofs.truth.choose_slot.Goals as goal

pub returns-in-Some : goal.returns-in-Some
returns-in-Some c =
    common_chosen c.both.result c.args.steps.now c.either.new.steps c.both.new.steps c.args.on c.args.yes c.args.no c.in-Some.other c.in_ok-any.any c.in-Some.ensures c.in_ok-any.ensures c.both.ensures

pub returns : goal.returns
returns c =
    choice_made c.either-2.result c.args.steps.now c.both-2.new.steps c.both-3.new.steps c.either-2.new.steps c.args.on c.not.result c.args.yes c.args.no c.in_ok-first.first c.in_ok-second.second c.not.ensures c.in_ok-first.ensures c.in_ok-second.ensures c.either-2.ensures
