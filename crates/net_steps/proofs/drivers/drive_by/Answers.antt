use Rattle.std.proofs.Common.{refl}
use Rattle.net_steps.proofs.DriverLemmas.{port_of_none, port_of_listed}
use Rattle.net_steps.proofs.drivers.drive_by.Goals as goal

pub returns-in-empty : goal.returns-in-empty
returns-in-empty c =
    port_of_none c.define.result c.args.steps.now c.define.new.self c.args.clashes.now.items c.args.clashes.now.items c.args.port c.args.drivers.now c.in-empty.len_below refl c.define.ensures

pub returns-in-len1 : goal.returns-in-len1
returns-in-len1 c =
    port_of_listed c.gate.result c.args.steps.now c.gate.new.steps c.args.clashes.now.items c.args.clashes.now.items c.args.port c.args.drivers.now _ c.in-len1.len_at_least c.in-len1.len_below refl c.gate.ensures
