use Rattle.cal_group.proofs.RulingLemmas.{both_numbers, both_tree, two_items}
use Rattle.cal_group.proofs.remove.both.Goals as goal

pub returns-clause-numbers : goal.returns-clause-numbers
returns-clause-numbers c = λ names first second.
    both_numbers names c.push-2.new.self c.args.first c.args.second
    (two_items c.in_ok-guards.guards.items c.push.new.self.items c.push-2.new.self.items c.args.first c.args.second c.in_ok-guards.ensures.items c.in_ok-push.ensures.items c.in_ok-push-2.ensures.items) first second

pub returns-clause-tree : goal.returns-clause-tree
returns-clause-tree c = λ names.
    both_tree names c.push-2.new.self c.args.first c.args.second
    (two_items c.in_ok-guards.guards.items c.push.new.self.items c.push-2.new.self.items c.args.first c.args.second c.in_ok-guards.ensures.items c.in_ok-push.ensures.items c.in_ok-push-2.ensures.items)
