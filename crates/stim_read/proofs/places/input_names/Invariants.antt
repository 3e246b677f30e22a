use Rattle.std.proofs.Common.{◌≡◌, take, map}
use Rattle.net_core.specs.declared.stimulus.InputShape.{InputShape}
use Rattle.stim_read.proofs.places.input_names.Given as goal

abbrev pub invariant-loop-port : goal.invariant-loop-port
invariant-loop-port l = l.names ≡ take l.port-index (map (λ (i : InputShape). i.name) l.ins)
