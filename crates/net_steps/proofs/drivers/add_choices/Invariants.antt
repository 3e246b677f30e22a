use Rattle.std.proofs.Common.{take}
use Rattle.net_steps.specs.Drivers.{AddsChoices}
use Rattle.net_steps.proofs.drivers.add_choices.Given as goal

-- the first drivers are added
abbrev pub invariant-loop-driver : goal.invariant-loop-driver
invariant-loop-driver l = AddsChoices l.fn.steps l.steps (take l.driver-index l.drivers)
