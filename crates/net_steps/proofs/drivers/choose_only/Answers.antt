use Rattle.std.proofs.Common.{refl, arith}
use Rattle.net_steps.proofs.DriverLemmas.{choices_counted, only_alone, only_made}
use Rattle.net_steps.proofs.drivers.choose_only.Goals as goal

pub overflow_sub-count : goal.overflow_sub-count
overflow_sub-count c =
    let all = choices_counted c.args.steps.now c.add_choices.new.steps c.args.drivers.now c.in_ok-add_choices.ensures in
    omega (arith, all, c.in_ok-from.ensures, c.in_ok-end.ensures)

pub returns-then-apart : goal.returns-then-apart
returns-then-apart c =
    only_alone c.args.steps.now c.add_choices.new.steps c.define.new.self c.args.clashes.now.items c.args.clashes.now.items c.args.port c.args.drivers.now c.in_ok-from.from c.in_ok-end.end c.in_ok-slot.slot c.in_ok-add_choices.ensures c.in_ok-from.ensures c.in_ok-end.ensures c.in_ok-slot.ensures refl (c.in_ok-apart.ensures c.if-apart.true)

pub returns : goal.returns
returns c =
    only_made c.args.steps.now c.add_choices.new.steps c.define.new.self c.define-2.new.self c.args.clashes.now.items c.push.new.self.items c.args.port c.args.drivers.now c.in_ok-from.from c.in_ok-end.end c.in_ok-slot.slot c.in_ok-several.several c.in_ok-add_choices.ensures c.in_ok-from.ensures c.in_ok-end.ensures c.in_ok-slot.ensures c.in_ok-several.ensures c.in_ok-push.ensures.items
