use Rattle.net_steps.proofs.DriverLemmas.{selected, selected_not}
use Rattle.net_steps.proofs.drivers.select.Goals as goal

pub returns-then-negated : goal.returns-then-negated
returns-then-negated c =
    selected_not c.chosen_slot.result c.args.steps.now c.chosen_slot.new.steps c.args.truth c.in-Slot.slot c.args.yes c.args.no c.in-Slot.negated c.in-Slot.is c.if-negated.true c.chosen_slot.ensures

pub returns-else-negated : goal.returns-else-negated
returns-else-negated c =
    let chosen = c.chosen_slot-else-negated in
    selected chosen.result c.args.steps.now chosen.new.steps c.args.truth c.in-Slot.slot c.args.yes c.args.no c.in-Slot.negated c.in-Slot.is c.if-negated.false chosen.ensures
