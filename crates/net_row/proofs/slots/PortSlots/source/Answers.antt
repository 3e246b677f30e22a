use Rattle.net_row.proofs.TruthLemmas.{source_of_literal, source_of_port}
use Rattle.net_row.proofs.slots.PortSlots.source.Goals as goal

pub returns-in-Slot : goal.returns-in-Slot
returns-in-Slot c = source_of_port c.get.result c.args.steps.now c.args.self.now.slots.items c.args.source c.in-Slot.port c.in-Slot.is c.get.ensures

pub returns-in-Fixed : goal.returns-in-Fixed
returns-in-Fixed c = source_of_literal c.constant.result c.args.steps.now c.constant.new.steps c.args.self.now.slots.items c.args.source c.in-Fixed.bits c.value.result c.in-Fixed.is c.value.ensures c.constant.ensures
