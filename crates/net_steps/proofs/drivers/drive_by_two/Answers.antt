use Rattle.std.proofs.Common.{refl}
use Rattle.net_steps.proofs.DriverLemmas.{port_of_opposite}
use Rattle.net_steps.proofs.drivers.drive_by_two.Goals as goal

pub returns-then-are_opposite : goal.returns-then-are_opposite
returns-then-are_opposite c =
    port_of_opposite c.select.result c.args.steps.now c.select.new.steps c.args.clashes.now.items c.args.clashes.now.items c.args.port c.args.first c.args.second refl (c.are_opposite.ensures c.if-are_opposite.true) c.select.ensures
