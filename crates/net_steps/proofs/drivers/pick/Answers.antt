use Rattle.std.proofs.Common.{refl}
use Rattle.net_steps.proofs.DriverLemmas.{pick_alone, pick_made}
use Rattle.net_steps.proofs.drivers.pick.Goals as goal

pub returns-then-never_both : goal.returns-then-never_both
returns-then-never_both c =
    pick_alone c.args.steps.now c.plain.new.steps c.plain-2.new.steps c.define.new.self c.args.driver c.args.other c.in_ok-first.first c.in_ok-second.second c.in_ok-slot.slot c.in_ok-first.ensures.truth c.in_ok-second.ensures.truth c.in_ok-slot.ensures c.args.clashes.now.items c.args.clashes.now.items c.args.port refl (c.never_both.ensures c.if-never_both.true)

pub returns : goal.returns
returns c =
    pick_made c.args.steps.now c.plain.new.steps c.plain-2.new.steps c.define.new.self c.args.driver c.args.other c.in_ok-first.first c.in_ok-second.second c.in_ok-slot.slot c.in_ok-first.ensures.truth c.in_ok-second.ensures.truth c.in_ok-slot.ensures c.args.clashes.now.items c.push.new.self.items c.args.port c.in_ok-push.ensures.items
