use Rattle.std.proofs.Common.{List, IfOk, subst}
use Rattle.net_steps.specs.Drivers.{AddsPort}
use Rattle.net_steps.specs.declared.drivers.Driver.{Driver}
use Rattle.net_steps.proofs.DriverLemmas.{port_of_alike}
use Rattle.net_steps.proofs.drivers.drive.Goals as goal

pub returns : goal.returns
returns c =
    port_of_alike c.drive_by.result c.args.steps.now c.drive_by.new.steps c.args.clashes.now.items c.drive_by.new.clashes.items c.args.port c.in_ok-possible.possible.items c.args.drivers.now c.in_ok-possible.ensures
    (subst (λ (some : List Driver). IfOk c.drive_by.result (AddsPort c.args.steps.now c.drive_by.new.steps c.args.clashes.now.items c.drive_by.new.clashes.items c.args.port some)) c.as_slice.ensures.value c.drive_by.ensures)
